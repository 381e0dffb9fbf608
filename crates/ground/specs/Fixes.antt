-- Document 01, 'How tightly the contracts bind': what it is that a contract fixes its outcome, and what its calls all keep.
use Rattle.std.specs.Prelude.{ℕ, ◌≡◌, List}
use contract.Lifetimes.{Lfts}
use denote.Triple.Clauses.{AtExit}
use borrow.Fn.Kinds.{ParamKind, ResultKind, Out, Dens, res_t, ended_of}

-- Two outcomes that a contract allows, from the same arguments, are equal. `Post` is a contract's `ensures`; `out` takes what it is to fix: the answer, and each lent list at exit
abbrev pub Fixes : (n : ℕ) (ps : List (ParamKind n)) (r : ResultKind n) → Out n ps r → (O : Type 0) → ((κs : Lfts n) → (res_t r κs).Denot → AtExit (ended_of n ps r) κs → O) → Type 0
Fixes n ps r Post O out =
    (κs : Lfts n) (a : Dens κs ps) (x y : (res_t r κs).Denot) (s t : AtExit (ended_of n ps r) κs) → Post κs a x s → Post κs a y t → out κs x s ≡ out κs y t

-- What holds of every call that a contract allows: P of its arguments, its answer, and each lent list at exit.
abbrev pub Allows : (n : ℕ) (ps : List (ParamKind n)) (r : ResultKind n) → Out n ps r → ((κs : Lfts n) → Dens κs ps → (res_t r κs).Denot → AtExit (ended_of n ps r) κs → Type 0) → Type 0
Allows n ps r Post P = (κs : Lfts n) (a : Dens κs ps) (x : (res_t r κs).Denot) (s : AtExit (ended_of n ps r) κs) → Post κs a x s → P κs a x s

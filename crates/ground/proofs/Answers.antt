-- Laws of answers and outcomes by the verdict on a call, and of the code's answers.
use Prim.Native.Nat.{ℕ, zero, suc}
use mathlib.Core.Path.{◌≡◌, refl, sym, ap, ◌∙◌}
use native.Mathlib.Omega.{arith}
use mathlib.Core.List.{List, [], ◌∷◌, ◌++◌}
use mathlib.Core.Bool.{Bool, true, false, cond}
use lib.Dec.{T, eqb}
use lib.ListN.{get_or}
use borrow.Author.Tests.{eqb-true, eqb-false}
use Rattle.std.specs.Prelude.{Result, Ok, Err}
use Rattle.std.specs.Result.{IsErrAnd}
use Rattle.std.proofs.lemmas.Result.{err_from_is_err_and}
use Rattle.ground.specs.Refusal.{number}
use Rattle.ground.specs.Checks.{Check, verdict, next}
use Rattle.ground.proofs.Verdicts.{proper, stays, rest_decides, still_refused}
use Rattle.ground.specs.Answer.{Answer, value, refused, answer, Outcome, outcome, after, outcome_by, refusal_by, refusal_of, of_result, earlier}
use Rattle.ground.specs.declared.refusal.Refusal.{Refusal}
use Rattle.ground.specs.declared.refusal.Refusal.TheVariants.{Cards, Rounds, Sender, Own, Long, Value, Status, Path, Size, Mark, Version, Old, Ahead, Form, Foreign, Exception}

-- ---- by the verdict v on a call, which the code has as `no`

module _ {A : Type 0} {no v : ℕ} (e : no ≡ v) where
  pub answer-refused : (no ≡ 0 → ⊥) → (a : A) → refused no ≡ answer v a
  unfolding answer
  answer-refused n a = go no n ∙ ap (λ (v : ℕ). answer v a) e
    where
      go : (no : ℕ) → (no ≡ 0 → ⊥) → refused no ≡ answer no a
      go zero n = absurd (n refl)
      go (suc k) n = refl

  pub answer-given : no ≡ 0 → {w a : A} → w ≡ a → value w ≡ answer v a
  unfolding answer
  answer-given z {a = a} h = ap value h ∙ ap (λ (v : ℕ). answer v a) (sym z ∙ e)

module _ {L : Type 0} {no v : ℕ} (e : no ≡ v) where
  after-refused : (no ≡ 0 → ⊥) → (before made : L) → before ≡ after v before made
  unfolding after
  after-refused n before made = go no n ∙ ap (λ (v : ℕ). after v before made) e
    where
      go : (no : ℕ) → (no ≡ 0 → ⊥) → before ≡ after no before made
      go zero n = absurd (n refl)
      go (suc k) n = refl

  pub outcome-refused : (no ≡ 0 → ⊥) → (before made : L) → outcome (refused no) before ≡ outcome_by v before made
  unfolding outcome_by
  outcome-refused n before made = rw (← (answer-refused e n (tt {0})), ← (after-refused n before made))

  pub outcome_done : no ≡ 0 → (before : L) {left made : L} → left ≡ made → outcome (value tt) left ≡ outcome_by v before made
  unfolding outcome_by answer after
  outcome_done z before {left} {made} h = ap (outcome (value tt)) h ∙ ap (λ (v : ℕ). outcome_by v before made) (sym z ∙ e)

-- ---- back to the verdict

-- what a call that yields a value, and one that is refused, tell of the verdict
module _ {A : Type 0} (a : A) where
  pub value-verdict : (v : ℕ) {b : A} → answer v a ≡ value b → (v ≡ 0) × (a ≡ b)
  unfolding answer
  value-verdict zero e = (refl, cc e)
  value-verdict (suc v) e = let z : ◌≡◌ {A = ℕ} 0 1 = cc e in absurd (omega arith)

  pub refused-verdict : (v : ℕ) {k : ℕ} → answer v a ≡ refused k → (v ≡ k) × (v ≡ 0 → ⊥)
  unfolding answer
  refused-verdict zero e = let z : ◌≡◌ {A = ℕ} 0 1 = cc e in absurd (omega arith)
  refused-verdict (suc v) e = (cc e, λ z. omega arith)

-- a refusal leaves lent memory as it was
pub refused-leaves : {L : Type 0} (v : ℕ) (before made : L) → (v ≡ 0 → ⊥) → after v before made ≡ before
refused-leaves v before made n = sym (after-refused refl n before made)

-- ---- the code's answers

-- the refusal of a number; place 0 has none of its own
abbrev named : ℕ → Refusal
named k = get_or (Cards ∷ Cards ∷ Rounds ∷ Sender ∷ Own ∷ Long ∷ Value ∷ Status ∷ Path ∷ Size ∷ Mark ∷ Version ∷ Old ∷ Ahead ∷ Form ∷ Foreign ∷ Exception ∷ []) k Cards

named_number : (r : Refusal) → named (number r) ≡ r
named_number Cards = refl
named_number Rounds = refl
named_number Sender = refl
named_number Own = refl
named_number Long = refl
named_number Value = refl
named_number Status = refl
named_number Path = refl
named_number Size = refl
named_number Mark = refl
named_number Version = refl
named_number Old = refl
named_number Ahead = refl
named_number Form = refl
named_number Foreign = refl
named_number Exception = refl

-- a refusal's number is not 0
pub numbered : (r : Refusal) → number r ≡ 0 → ⊥
numbered r z = let e : number r ≡ 1 = ap number (sym (named_number r) ∙ ap named z) in omega arith

pub number_apart : (r q : Refusal) → number r ≡ number q → r ≡ q
number_apart r q e = sym (named_number r) ∙ ap named e ∙ named_number q

-- each tells what it was made of
pub refusal_apart : (x y : Result (Unit {0}) Refusal) → refusal_of x ≡ refusal_of y → x ≡ y
refusal_apart (Ok u) (Ok w) e = refl
refusal_apart (Ok u) (Err r) e = absurd (numbered r (sym e))
refusal_apart (Err r) (Ok w) e = absurd (numbered r e)
refusal_apart (Err r) (Err q) e = ap Err (number_apart r q e)

pub result_apart : {A : Type 0} (x y : Result A Refusal) → of_result x ≡ of_result y → x ≡ y
result_apart (Ok a) (Ok b) e = ap Ok (cc e)
result_apart (Ok a) (Err r) e = let z : ◌≡◌ {A = ℕ} 0 1 = cc e in absurd (omega arith)
result_apart (Err r) (Ok a) e = let z : ◌≡◌ {A = ℕ} 0 1 = cc e in absurd (omega arith)
result_apart (Err r) (Err q) e = ap Err (number_apart r q (cc e))

pub outcome_apart : {A L : Type 0} (x y : Result A Refusal) {l m : L} → outcome (of_result x) l ≡ outcome (of_result y) m → outcome x l ≡ outcome y m
outcome_apart {A} {L} x y e =
    let a = result_apart x y (ap (λ (o : Outcome (Answer A) L). o.yields) e) in
    let b = ap (λ (o : Outcome (Answer A) L). o.leaves) e in
    λ i. outcome (a i) (b i)

-- the earlier of two by what numbers refusals: the number of the first, or of the second where that is 0
pub earlier_number : {R A : Type 0} (f : R → ℕ) (x y : Result A R) → refusal_by f (earlier f x y) ≡ next (refusal_by f x) (refusal_by f y)
unfolding next
earlier_number f (Ok a) y = refl
earlier_number f (Err r) y = go (eqb (f r) 0) refl
  where
    go : (b : Bool) → eqb (f r) 0 ≡ b → refusal_by f (cond b y (Err r)) ≡ next (f r) (refusal_by f y)
    go true e = rw (eqb-true (f r) 0 e)
    go false e = stays (f r) (refusal_by f y) (eqb-false (f r) 0 e)

-- ---- what a `?` answers where it leaves with the refusal r

module _ {A : Type 0} (x : Result A Refusal) (r : Refusal) (left : IsErrAnd x (λ q. q ≡ r)) {v : ℕ} (e : number r ≡ v) where
  is_err : x ≡ Err r
  is_err = let p = err_from_is_err_and x left in p.1 ∙ ap Err p.2

  pub leaves_refusal : refusal_of x ≡ v
  leaves_refusal = ap refusal_of is_err ∙ e

  pub leaves_answer : (a : A) → of_result x ≡ answer v a
  leaves_answer a = ap of_result is_err ∙ answer-refused e (numbered r) a

pub leaves_outcome : {L : Type 0} (x : Result (Unit {0}) Refusal) (r : Refusal) → IsErrAnd x (λ q. q ≡ r) → {v : ℕ} → number r ≡ v → (before made : L) → outcome (of_result x) before ≡ outcome_by v before made
leaves_outcome {L} x r left e before made =
    let z : x ≡ Err r = is_err x r left e in
    ap (λ (x : Result (Unit {0}) Refusal). outcome (of_result x) before) z ∙ outcome-refused e (numbered r) before made

-- ---- checks one after the other, each left by a `?`

module _ (cs ds : List Check) (p : T (proper cs)) where
  -- refused by the first
  pub refused-first : (r : Refusal) → number r ≡ verdict cs → number r ≡ verdict (cs ++ ds)
  refused-first r e = still_refused cs ds p e (numbered r)

  -- none by the first: the second decides
  pub then-decided : 0 ≡ verdict cs → {v : ℕ} → v ≡ verdict ds → v ≡ verdict (cs ++ ds)
  then-decided z e = e ∙ sym (rest_decides cs ds p (sym z))

-- ---- a call that yields what another refused

-- a refusal leaves what it was lent as it was
pub refused_outcome : {L : Type 0} (x : Result (Unit {0}) Refusal) {v : ℕ} → refusal_of x ≡ v → (v ≡ 0 → ⊥) → (before made : L) → outcome (of_result x) before ≡ outcome_by v before made
refused_outcome (Ok u) e n before made = absurd (n (sym e))
refused_outcome (Err r) e n before made = outcome-refused e (numbered r) before made

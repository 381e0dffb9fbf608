-- Demand 1's words: the first check of a list that applies, and when a call is refused by its checks alone.
use Rattle.std.specs.Prelude.{ℕ, suc, ◌≡◌, true, List, ◌∷◌, ◌++◌, map}
use Rattle.ground.specs.Checks.{Check, check, NoneOf}
use Rattle.ground.specs.Answer.{Answer, refused}

-- the numbers of checks, in their order
abbrev pub numbers : List Check → List ℕ
numbers cs = map (λ (c : Check). c.number) cs

-- a check with the number k applies, and none before it
pub record First (cs : List Check) (k : ℕ) : Type 0 where
  pub before : List Check
  pub rest : List Check
  pub split : cs ≡ before ++ check k true ∷ rest
  pub earlier : NoneOf before

-- A call is refused with k exactly where k is the number of the first check that applies; and then what it is lent is as it was.
pub record Refuses {A L : Type 0} (cs : List Check) (yields : Answer A) (before after : L) : Type 0 where
  pub only : (k : ℕ) → yields ≡ refused k → First cs k
  pub always : (k : ℕ) → First cs (suc k) → yields ≡ refused (suc k)
  pub unchanged : (k : ℕ) → yields ≡ refused k → after ≡ before

-- The same of a number: 0 exactly where no check applies.
pub record Numbers {L : Type 0} (cs : List Check) (number : ℕ) (before after : L) : Type 0 where
  pub only : (number ≡ 0 → ⊥) → First cs number
  pub always : (k : ℕ) → First cs (suc k) → number ≡ suc k
  pub unchanged : (number ≡ 0 → ⊥) → after ≡ before

-- a call that is lent nothing to write
abbrev pub Judged : {A : Type 0} → List Check → Answer A → Type 0
Judged cs yields = Refuses cs yields (tt {0}) (tt {0})

abbrev pub Counted : List Check → ℕ → Type 0
Counted cs number = Numbers cs number (tt {0}) (tt {0})

-- Document 01, 'Refusal numbers': the first check that applies, in the order given for a call, gives its number.
use Rattle.std.specs.Prelude.{ℕ, zero, suc, ◌≡◌, Bool, false, cond, List, [], ◌∷◌}

pub record Check : Type 0 where
  pub number : ℕ
  pub applies : Bool

abbrev pub check : ℕ → Bool → Check
check k b = record { number = k; applies = b }

-- the number of the first check that applies; 0 where none does
unfoldable pub verdict : List Check → ℕ
verdict [] = 0
verdict (c ∷ cs) = cond c.applies c.number (verdict cs)

-- none of the checks applies
abbrev pub NoneOf : List Check → Type 0
NoneOf [] = Unit {0}
NoneOf (c ∷ cs) = (c.applies ≡ false) × NoneOf cs

-- a verdict, or the next where that is none
unfoldable pub next : ℕ → ℕ → ℕ
next zero v = v
next (suc k) v = suc k

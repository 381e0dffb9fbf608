-- Document 01, 'Refusal numbers': what a call yields and leaves. A refusal yields its number only; no lent memory changes.
use Rattle.std.specs.Prelude.{ℕ, zero, suc, cond, eqb, Result, Ok, Err}
use Rattle.ground.specs.Refusal.{number}
use Rattle.ground.specs.declared.refusal.Refusal.{Refusal}

-- what a call yields: its value, or a refusal's number only
pub data Answer (A : Type 0) : Type 0 where
  value : A → Answer A
  refused : ℕ → Answer A

-- the answer by the verdict on a call
unfoldable pub answer : {A : Type 0} → ℕ → A → Answer A
answer zero a = value a
answer (suc k) a = refused (suc k)

-- what a call yields, and what it leaves in the memory that it is lent
pub record Outcome (A L : Type 0) : Type 0 where
  pub yields : A
  pub leaves : L

abbrev pub outcome : {A L : Type 0} → A → L → Outcome A L
outcome a l = record { yields = a; leaves = l }

-- what lent memory holds by the verdict on a call: a refusal changes nothing
unfoldable pub after : {L : Type 0} → ℕ → L → L → L
after zero before made = made
after (suc k) before made = before

-- done and `made` left, or refused and nothing changed, by the verdict on a call
unfoldable pub outcome_by : {L : Type 0} → ℕ → L → L → Outcome (Answer (Unit {0})) L
outcome_by v before made = outcome (answer v tt) (after v before made)

-- ---- the answers of the code

-- the number of the refusal, by what numbers refusals; 0 for none
abbrev pub refusal_by : {R A : Type 0} → (R → ℕ) → Result A R → ℕ
refusal_by f (Ok a) = 0
refusal_by f (Err r) = f r

-- the same of the code's refusals
abbrev pub refusal_of : {A : Type 0} → Result A Refusal → ℕ
refusal_of = refusal_by number

-- the first answer where it is a refusal whose number is not 0, else the other
abbrev pub earlier : {R A : Type 0} → (R → ℕ) → Result A R → Result A R → Result A R
earlier f (Ok a) other = other
earlier f (Err r) other = cond (eqb (f r) 0) other (Err r)

abbrev pub of_result : {A : Type 0} → Result A Refusal → Answer A
of_result (Ok a) = value a
of_result (Err r) = refused (number r)

-- What a path's slot and the slot above come to, case by case.
use Prim.Native.Nat.{ℕ, zero, suc, ◌+◌, ◌*◌, ◌≤◌, ◌<◌}
use mathlib.Core.Path.{◌≡◌, refl, ap, ◌∙◌}
use mathlib.Core.Bool.{Bool, true, false, ◌&&◌, ◌||◌}
use native.Mathlib.Omega.{arith}
use lib.Dec.{eqb, ltb, leb}
use borrow.Author.Tests.{lt-ltb, le-ltb}
use Rattle.ground.specs.Checks.{verdict}
use Rattle.ground.specs.Answer.{value, refused, answer}
use Rattle.ground.specs.Lists.{all}
use Rattle.paths.specs.Slots.{slot_of, above}
use Rattle.paths.specs.Asked.{used, slot_asked, above_asked}

and_no : (a b : Bool) → b ≡ false → (a && b) ≡ false
and_no true b e = e
and_no false b e = refl

module _ (d q1 q2 q3 : ℕ) where
  abbrev small : Bool
  small = all (λ q. ltb q 10) (used d q1 q2 q3)

  pub slot-deep : 3 < d → slot_asked d q1 q2 q3 ≡ refused 8
  unfolding slot_asked verdict answer
  slot-deep h = rw (lt-ltb 3 d h)

  slot-over : d ≤ 3 → small ≡ false → slot_asked d q1 q2 q3 ≡ refused 8
  unfolding slot_asked verdict answer
  slot-over h e = rw (le-ltb 3 d h, e)

  pub slot_good : d ≤ 3 → small ≡ true → slot_asked d q1 q2 q3 ≡ value (slot_of (used d q1 q2 q3))
  unfolding slot_asked verdict answer
  slot_good h e = rw (le-ltb 3 d h, e)

-- a used relay over 9
pub over_1 : (d q1 q2 q3 : ℕ) → d ≤ 3 → (d ≡ 0 → ⊥) → 10 ≤ q1 → slot_asked d q1 q2 q3 ≡ refused 8
unfolding used all
over_1 d q1 q2 q3 h n g = slot-over d q1 q2 q3 h (go d n)
  where
    go : (d : ℕ) → (d ≡ 0 → ⊥) → all (λ q. ltb q 10) (used d q1 q2 q3) ≡ false
    go zero n = absurd (n refl)
    go (suc zero) n = rw (le-ltb q1 10 g)
    go (suc (suc zero)) n = rw (le-ltb q1 10 g) (and_no (ltb q2 10) false refl)
    go (suc (suc (suc d))) n = rw (le-ltb q1 10 g) (and_no (ltb q3 10) _ (and_no (ltb q2 10) false refl))

pub over_2 : (d q1 q2 q3 : ℕ) → d ≤ 3 → 1 < d → 10 ≤ q2 → slot_asked d q1 q2 q3 ≡ refused 8
unfolding used all
over_2 d q1 q2 q3 h n g = slot-over d q1 q2 q3 h (go d n)
  where
    go : (d : ℕ) → 1 < d → all (λ q. ltb q 10) (used d q1 q2 q3) ≡ false
    go zero n = absurd (omega arith)
    go (suc zero) n = absurd (omega arith)
    go (suc (suc zero)) n = rw (le-ltb q2 10 g)
    go (suc (suc (suc d))) n = rw (le-ltb q2 10 g) (and_no (ltb q3 10) false refl)

pub over_3 : (d q1 q2 q3 : ℕ) → d ≡ 3 → 10 ≤ q3 → slot_asked d q1 q2 q3 ≡ refused 8
unfolding used all
over_3 d q1 q2 q3 e g = slot-over d q1 q2 q3 (omega arith) (rw (e, le-ltb q3 10 g))

-- document 01's formula at each level
pub at_0 : (d q1 q2 q3 : ℕ) → d ≡ 0 → slot_asked d q1 q2 q3 ≡ value 0
unfolding used all slot_of
at_0 d q1 q2 q3 e = slot_good d q1 q2 q3 (omega arith) (rw e) ∙ rw e

pub at_1 : (d q1 q2 q3 : ℕ) → d ≡ 1 → q1 < 10 → slot_asked d q1 q2 q3 ≡ value (1 + q1)
unfolding used all slot_of
at_1 d q1 q2 q3 e a = slot_good d q1 q2 q3 (omega arith) (rw (e, lt-ltb q1 10 a)) ∙ rw e (ap value (omega arith))

pub at_2 : (d q1 q2 q3 : ℕ) → d ≡ 2 → q1 < 10 → q2 < 10 → slot_asked d q1 q2 q3 ≡ value (11 + 10 * q1 + q2)
unfolding used all slot_of
at_2 d q1 q2 q3 e a b = slot_good d q1 q2 q3 (omega arith) (rw (e, lt-ltb q2 10 b, lt-ltb q1 10 a)) ∙ rw e (ap value (omega arith))

pub at_3 : (d q1 q2 q3 : ℕ) → d ≡ 3 → q1 < 10 → q2 < 10 → q3 < 10 → slot_asked d q1 q2 q3 ≡ value (111 + 100 * q1 + 10 * q2 + q3)
unfolding used all slot_of
at_3 d q1 q2 q3 e a b c = slot_good d q1 q2 q3 (omega arith) (rw (e, lt-ltb q3 10 c, lt-ltb q2 10 b, lt-ltb q1 10 a)) ∙ rw e (ap value (omega arith))

-- the slot above
pub above-refused : (k : ℕ) → (eqb k 0 || leb 1111 k) ≡ true → above_asked k ≡ refused 8
unfolding above_asked verdict answer
above-refused k e = rw e

pub above-given : (k : ℕ) → (eqb k 0 || leb 1111 k) ≡ false → above_asked k ≡ value (above k)
unfolding above_asked verdict answer
above-given k e = rw e

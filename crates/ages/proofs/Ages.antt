-- Laws of ages, for every two exchange numbers, across the wrap.
use Rattle.std.proofs.Common.{◌≡◌, ℕ, ◌+◌, ◌%◌, ◌<◌, ◌≤◌, ◌↔◌, arith, eq-eqb, ne_eqb, le-leb}
use borrow.Author.Tests.{lt-leb}
use Rattle.ages.specs.Ages.{next_number, age_of, class_of}
use Rattle.ages.specs.declared.Age.TheVariants.{Current, Old, Ahead}

module _ (current frame : ℕ) (c : current < 65536) (f : frame < 65536) where
  pub age_below : age_of current frame < 65536
  unfolding age_of
  age_below = omega arith

  -- the age is what the frame's number lacks
  pub age_lacks : (frame + age_of current frame) % 65536 ≡ current
  unfolding age_of
  age_lacks = omega arith

  pub age_only : (x : ℕ) → x < 65536 → (frame + x) % 65536 ≡ current → x ≡ age_of current frame
  unfolding age_of
  age_only x h e = omega arith

  pub age_zero : (age_of current frame ≡ 0) ↔ (current ≡ frame)
  unfolding age_of
  age_zero = (λ e. omega arith, λ e. omega arith)

pub age_next : (x : ℕ) → x < 65536 → age_of (next_number x) x ≡ 1
unfolding age_of next_number
age_next x h = omega arith

module _ (age : ℕ) where
  pub is_current : age ≡ 0 → class_of age ≡ Current
  unfolding class_of
  is_current e = grind (arith, eq-eqb)

  pub is-old : 1 ≤ age → age ≤ 32767 → class_of age ≡ Old
  unfolding class_of
  is-old g h = grind (arith, ne_eqb, le-leb)

  pub is-ahead : 32768 ≤ age → class_of age ≡ Ahead
  unfolding class_of
  is-ahead h = grind (arith, ne_eqb, lt-leb)

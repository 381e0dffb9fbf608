-- Document 01, 'Frames': the exchange number and a frame's age.
use Rattle.std.specs.Prelude.{ℕ, ◌+◌, ◌-◌, ◌%◌, cond, ◌==◌, nat_le}
use Rattle.ground.specs.Refusal as refusal
use Rattle.ages.specs.declared.Age.{Age}
use Rattle.ages.specs.declared.Age.TheVariants.{Current, Old, Ahead}

-- after 65,535 comes 0
unfoldable pub next_number : ℕ → ℕ
next_number x = (x + 1) % 65536

-- the current number less the frame's, modulo 65,536
unfoldable pub age_of : ℕ → ℕ → ℕ
age_of current frame = (current + 65536 - frame) % 65536

-- age 0 is current, 1 to 32,767 old, 32,768 to 65,535 ahead
unfoldable pub class_of : ℕ → Age
class_of age = cond (age == 0) Current (cond (nat_le age 32767) Old Ahead)

-- the refusal number of a class; 0 for current
abbrev pub class_number : Age → ℕ
class_number Current = 0
class_number Old = refusal.old
class_number Ahead = refusal.ahead

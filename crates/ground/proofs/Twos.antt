-- Laws of two's complement: it is the machine's own, there and back.
use Prim.Native.Nat.{ℕ, suc, ◌-◌, ◌<◌, ◌^◌}
use mathlib.Core.Path.{◌≡◌, refl, ap, ◌∙◌}
use mathlib.Core.Bool.{Bool, true, false, cond}
use lib.Dec.{ltb}
use lib.IntN.{ℤ, pos, negsuc}
use mir.Syntax.{w32}
use mir.Val.{SFits, to_z, of_z}
use mir.ValLaws.{to_z-of_z, of_z-to_z, to_z-Fits, of_z_fits}
use borrow.Author.Tests.{lt-ltb}
use Rattle.ground.specs.Bytes.{signed32, bits32}

pub bits_is : (x : ℤ) → bits32 x ≡ of_z w32 x
unfolding bits32
bits_is (pos n) = refl
bits_is (negsuc n) = refl

pub signed_is : (v : ℕ) → v < 2 ^ 32 → signed32 v ≡ to_z w32 v
unfolding signed32
signed_is v h = rw (lt-ltb v 4294967296 h) (go (ltb v 2147483648) refl)
  where
    go : (b : Bool) → ltb v 2147483648 ≡ b → cond (ltb v 2147483648) (pos v) (negsuc (4294967296 - suc v)) ≡ to_z w32 v
    go true e = rw e
    go false e = rw e

pub bits_low : (x : ℤ) → SFits w32 x → bits32 x < 2 ^ 32
bits_low x f = rw (bits_is x) (of_z_fits w32 x f).fits

pub signed_fits : (v : ℕ) → v < 2 ^ 32 → SFits w32 (signed32 v)
signed_fits v h = rw (signed_is v h) (to_z-Fits w32 v (record { fits = h }))

pub signed_bits : (x : ℤ) → SFits w32 x → signed32 (bits32 x) ≡ x
signed_bits x f = signed_is (bits32 x) (bits_low x f) ∙ ap (to_z w32) (bits_is x) ∙ to_z-of_z w32 x f

pub bits_signed : (v : ℕ) → v < 2 ^ 32 → bits32 (signed32 v) ≡ v
bits_signed v h = bits_is (signed32 v) ∙ ap (of_z w32) (signed_is v h) ∙ of_z-to_z w32 v (record { fits = h })

-- The text of a word by its sign: what the machine computes on the way to the word's size.
use Prim.Native.Nat.{ℕ, suc, ◌+◌}
use mathlib.Core.Path.{◌≡◌, sym, ap, ◌∙◌}
use mathlib.Core.Bool.{true, false, true≢false}
use mathlib.Core.List.{◌∷◌}
use native.Mathlib.Numerals.{add-one}
use native.Mathlib.Omega.{arith}
use borrow.Author.Tests.{le-ltb}
use lib.Dec.{T, leb-zero}
use lib.IntN.{ℤ, pos, negsuc, nat_abs, ◌-ℤ◌}
use lib.Signed.{le_z, non_neg}
use mir.Syntax.{w32}
use mir.Val.{Fits, SFits}
use mir.ValLaws.{to_z_pos}
use Rattle.ground.proofs.Bits.{back, back_is}
use Rattle.text.specs.Decimal.{digits_of, decimal_of}

pub record Plus (x : ℤ) : Type 0 where
  pub cast : T (non_neg (back x)) × Fits w32 (nat_abs (back x))
  pub text : decimal_of x ≡ digits_of 10 (nat_abs (back x))

pub plus : (x : ℤ) → SFits w32 x → le_z (pos 0) (back x) ≡ true → Plus x
unfolding decimal_of
plus (pos n) f h = let e = back_is f in record { cast = rw e (tt, record { fits = omega arith }); text = rw e }
plus (negsuc n) f h = absurd (true≢false (sym (rw (back_is f) at h)))

-- -1 - x
abbrev pub under : ℤ → ℤ
under x = negsuc 0 -ℤ back x

pub record Minus (x : ℤ) : Type 0 where
  pub sub : SFits w32 (under x)
  pub cast : T (non_neg (back (under x))) × Fits w32 (nat_abs (back (under x)))
  pub add : Fits w32 (nat_abs (back (under x)) + 1)
  pub text : decimal_of x ≡ 45 ∷ digits_of 10 (nat_abs (back (under x)) + 1)

under_neg : (n : ℕ) → negsuc 0 -ℤ negsuc n ≡ pos n
under_neg n = simp (le-ltb (suc n) 1 (omega arith)) (ap pos (omega arith))

pub minus : (x : ℤ) → SFits w32 x → le_z (pos 0) (back x) ≡ false → Minus x
unfolding decimal_of
minus (pos n) f h = absurd (true≢false (sym (leb-zero n) ∙ rw (back_is f) at h))
minus (negsuc n) f h =
    let u : under (negsuc n) ≡ pos n = rw (back_is f) (under_neg n) in
    let e : back (under (negsuc n)) ≡ pos n = ap back u ∙ to_z_pos w32 n f.sfits in
    record {
      sub = rw u (record { sfits = f.sfits });
      cast = rw e (tt, record { fits = omega arith });
      add = rw e (record { fits = omega arith });
      text = rw (e, add-one);
    }

-- Laws of `same`, the test whether two words are the same.
use Prim.Native.Nat.{ℕ, ◌^◌, ◌<◌}
use mathlib.Core.Path.{◌≡◌, refl, ap, subst}
use mathlib.Core.Bool.{Bool, true, false}
use native.Mathlib.Omega.{arith}
use lib.Dec.{eqb}
use lib.IntN.{ℤ, pos, negsuc}
use lib.Signed.{mag}
use mir.Syntax.{w32}
use mir.Val.{of_z, SFits}
use borrow.Author.Rules.{sfits_of}
use borrow.Author.Tests.{eq-eqb, ne_eqb, eqb-true}
use Rattle.words.specs.Majority.{same}
use Rattle.ground.proofs.Bits.{bits_eq}

pub same_eq : (x y : ℤ) → same x y ≡ true → x ≡ y
unfolding same
same_eq (pos a) (pos b) e = ap pos (eqb-true a b e)
same_eq (negsuc a) (negsuc b) e = ap negsuc (eqb-true a b e)
same_eq (pos a) (negsuc b) e = cc
same_eq (negsuc a) (pos b) e = cc

pub same_refl : (x : ℤ) → same x x ≡ true
unfolding same
same_refl (pos a) = eq-eqb a a refl
same_refl (negsuc a) = eq-eqb a a refl

pub eq_same : (x y : ℤ) → x ≡ y → same x y ≡ true
eq_same x y e = subst (λ (v : ℤ). same x v ≡ true) e (same_refl x)

pub same_ne : (x y : ℤ) → same x y ≡ false → x ≡ y → ⊥
same_ne x y e q = let t = eq_same x y q in let z : ◌≡◌ {A = ℕ} 0 1 = cc in omega arith

pub ne_same : (x y : ℤ) → (x ≡ y → ⊥) → same x y ≡ false
ne_same x y f = go (same x y) refl
  where
    go : (b : Bool) → same x y ≡ b → b ≡ false
    go true e = absurd (f (same_eq x y e))
    go false e = refl

pub same_sym : (x y : ℤ) → same x y ≡ same y x
same_sym x y = go (same x y) refl
  where
    go : (b : Bool) → same x y ≡ b → b ≡ same y x
    go true e = rw (same_eq x y e, same_refl y)
    go false e = rw (ne_same y x (λ q. same_ne x y e (rw q)))

-- the machine's test of two words is `same`
pub bits_same : {x y : ℤ} → SFits w32 x → SFits w32 y → eqb (of_z w32 x) (of_z w32 y) ≡ same x y
bits_same {x} {y} f g = go (same x y) refl
  where
    go : (b : Bool) → same x y ≡ b → eqb (of_z w32 x) (of_z w32 y) ≡ b
    go true e = eq-eqb _ _ (ap (of_z w32) (same_eq x y e))
    go false e = ne_eqb _ _ (λ q. same_ne x y e (bits_eq f g q))

-- what the machine's test tells of a word that was read and another
pub told_same : (x y : ℤ) → mag x < 2 ^ 31 → SFits w32 y → of_z w32 x ≡ of_z w32 y → same x y ≡ true
told_same x y f g e = eq_same x y (bits_eq (sfits_of f) g e)

pub told_other : (x y : ℤ) → (of_z w32 x ≡ of_z w32 y → ⊥) → same x y ≡ false
told_other x y n = ne_same x y (λ e. n (ap (of_z w32) e))

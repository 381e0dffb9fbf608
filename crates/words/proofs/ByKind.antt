-- Each word is ordinary, one of the four missing ones, or bad; and what the ranges of a `match` tell of its kind.
use Prim.Native.Nat.{ℕ, zero, suc, ◌-◌, ◌≤◌}
use mathlib.Core.Path.{◌≡◌, refl, sym, ap, ◌∙◌}
use mathlib.Core.Bool.{Bool, true, false}
use native.Mathlib.Omega.{arith}
use borrow.Author.Tests.{ltb-true, ltb-false, leb-true, leb-false, le-leb}
use lib.Dec.{leb}
use lib.IntN.{ℤ, pos, negsuc, nat_abs}
use lib.Signed.{lt_z}
use mir.Syntax.{w32}
use mir.Val.{SFits}
use Rattle.std.proofs.lemmas.Bool.Decides.{nat_tests}
use Rattle.words.specs.Word.{kind_of, missing}
use Rattle.words.specs.declared.Kind.{Kind}
use Rattle.words.specs.declared.Kind.TheVariants.{Ordinary, Missing, Bad}
use Rattle.ground.proofs.Bits.{back, back_is}

-- what holds of each of the four numbers of wraps holds of all
pub four : (P : ℕ → Type 0) → P 0 → P 1 → P 2 → P 3 → (w : ℕ) → w ≤ 3 → P w
four P a b c d zero h = a
four P a b c d (suc zero) h = b
four P a b c d (suc (suc zero)) h = c
four P a b c d (suc (suc (suc zero))) h = d
four P a b c d (suc (suc (suc (suc w)))) h = absurd (omega arith)

pub kind_missing : (w : ℕ) → w ≤ 3 → kind_of (missing w) ≡ Missing w
unfolding kind_of
kind_missing = four (λ w. kind_of (missing w) ≡ Missing w) refl refl refl refl

-- ---- the three kinds of a word, with what each tells

pub data View (x : ℤ) : Type 0 where
  ordinary : kind_of x ≡ Ordinary → View x
  wraps : (w : ℕ) → w ≤ 3 → x ≡ missing w → View x
  bad : kind_of x ≡ Bad → View x

pub view : (x : ℤ) → View x
unfolding kind_of
view (pos n) = go (leb n 999999999) (leb n 1000000003) refl refl
  where
    go : (a b : Bool) → leb n 999999999 ≡ a → leb n 1000000003 ≡ b → View (pos n)
    go true b e f = ordinary (rw e)
    go false true e f = wraps (n - 1000000000) (omega (arith, leb-true, leb-false)) (ap pos (omega (arith, leb-false)))
    go false false e f = bad (simp (e, le-leb 1000000000 n (omega (arith, leb-false)), f))
view (negsuc n) = go (leb n 999999998) refl
  where
    go : (a : Bool) → leb n 999999998 ≡ a → View (negsuc n)
    go true e = ordinary (simp e)
    go false e = bad (simp e)

pub missing_is : (x : ℤ) (w : ℕ) → kind_of x ≡ Missing w → (x ≡ missing w) × (w ≤ 3)
missing_is x w e = go (view x)
  where
    go : View x → (x ≡ missing w) × (w ≤ 3)
    go (ordinary f) = let z : ⊥ = cc in absurd z
    go (wraps v h f) = let q : v ≡ w = cc (kind_missing v h, ap kind_of f) in (cc, omega arith)
    go (bad f) = let z : ⊥ = cc in absurd z

-- an ordinary word is not missing
pub ordinary_not : (x : ℤ) (w : ℕ) → w ≤ 3 → kind_of x ≡ Ordinary → x ≡ missing w → ⊥
ordinary_not x w h e q = let z : ◌≡◌ {A = ℕ} 0 1 = cc (kind_missing w h, ap kind_of q) in omega arith

-- ---- what a `match` over the three ranges tells

pub below : (x : ℤ) → lt_z x (negsuc 999999998) ≡ true → kind_of x ≡ Bad
unfolding kind_of
below (pos n) h = cc
below (negsuc n) h = grind (arith, nat_tests)

pub among : (x : ℤ) → lt_z x (negsuc 999999998) ≡ false → lt_z x (pos 1000000000) ≡ true → kind_of x ≡ Ordinary
unfolding kind_of
among (pos n) g h = grind (arith, nat_tests)
among (negsuc n) g h = grind (arith, nat_tests)

pub few : (x : ℤ) → lt_z x (pos 1000000000) ≡ false → lt_z x (pos 1000000004) ≡ true → (x ≡ missing (nat_abs x - 1000000000)) × (nat_abs x - 1000000000 ≤ 3)
few (pos n) g h = (ap pos (omega (arith, ltb-true, ltb-false)), omega (arith, ltb-true, ltb-false))
few (negsuc n) g h = let z : ⊥ = cc in absurd z

pub beyond : (x : ℤ) → lt_z x (pos 1000000004) ≡ false → kind_of x ≡ Bad
unfolding kind_of
beyond (pos n) g = grind (arith, nat_tests)
beyond (negsuc n) g = cc

-- what a call of `kind_of` ensures, and the arm that its result led to
pub told_kind : {x : ℤ} → SFits w32 x → {r k : Kind} → r ≡ kind_of (back x) → r ≡ k → kind_of x ≡ k
told_kind f e q = ap kind_of (sym (back_is f)) ∙ sym e ∙ q

-- Laws of tests: what a choice by a test is, and what a test joined of others tells.
use Prim.Native.Nat.{ℕ, ◌≤◌, ◌<◌}
use mathlib.Core.Path.{◌≡◌, refl, sym, subst}
use mathlib.Core.Bool.{Bool, true, false, cond, not, ◌&&◌, ◌||◌}
use native.Mathlib.Omega.{arith}
use lib.Dec.{T, ltb, ltb→lt, not_T}
use borrow.Author.Tests.{not-false}

pub T_eq : (b : Bool) → T b → b ≡ true
T_eq true t = refl
T_eq false t = absurd t

-- a test whose contrary does not hold
pub holds : (b : Bool) → not b ≡ false → T b
holds b e = subst T (sym (not-false b e)) tt

pub cond_yes : {A : Type 0} (b : Bool) (x y : A) → T b → cond b x y ≡ x
cond_yes true x y t = refl
cond_yes false x y t = absurd t

pub cond_no : {A : Type 0} (b : Bool) (x y : A) → T (not b) → cond b x y ≡ y
cond_no true x y t = absurd t
cond_no false x y t = refl

pub and_left : (a b : Bool) → T (a && b) → T a
and_left true b t = tt
and_left false b t = absurd t

pub and_right : (a b : Bool) → T (a && b) → T b
and_right true b t = t
and_right false b t = absurd t

pub and_both : (a b : Bool) → T a → T b → T (a && b)
and_both true b s t = t
and_both false b s t = absurd s

pub or_right : (a b : Bool) → T b → T (a || b)
or_right true b t = tt
or_right false b t = t

-- the first of two tests holds where one of them does and the second does not, and the other way round
pub or_drop : (a b : Bool) → T (a || b) → (T a → ⊥) → T b
or_drop true b t h = absurd (h tt)
or_drop false b t h = t

pub le→nltb : (m n : ℕ) → n ≤ m → T (not (ltb m n))
le→nltb m n h = not_T (ltb m n) (λ t. let l : m < n = ltb→lt m n t in omega arith)

-- two tests that hold together are equal
pub iff_eq : (a b : Bool) → (T a → T b) → (T b → T a) → a ≡ b
iff_eq true true f g = refl
iff_eq true false f g = absurd (f tt)
iff_eq false true f g = absurd (g tt)
iff_eq false false f g = refl

-- what holds of both, each where it is chosen, holds of the choice
pub cond-case : {A : Type 0} (P : A → Type 0) (b : Bool) (x y : A) → (T b → P x) → (T (not b) → P y) → P (cond b x y)
cond-case P true x y f g = f tt
cond-case P false x y f g = g tt

-- two choices by the same test are equal where what they choose is
pub cond_same : {A : Type 0} (b : Bool) (x y u v : A) → (T b → x ≡ u) → (T (not b) → y ≡ v) → cond b x y ≡ cond b u v
cond_same true x y u v f g = f tt
cond_same false x y u v f g = g tt

-- what a test that is known chooses
module _ {A : Type 0} {b : Bool} (x y : A) where
  pub chosen_yes : b ≡ true → x ≡ cond b x y
  chosen_yes e = rw e

  pub chosen_no : b ≡ false → y ≡ cond b x y
  chosen_no e = rw e

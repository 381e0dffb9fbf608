-- Laws of the digits of a number.
use Prim.Native.Nat.{ℕ, zero, suc, ◌+◌, ◌/◌, ◌%◌, ◌^◌, ◌≤◌, ◌<◌}
use mathlib.Core.Path.{◌≡◌, refl, sym, ap}
use mathlib.Core.Bool.{Bool, true, false, cond}
use mathlib.Core.List.{List, [], ◌∷◌, ◌++◌}
use native.Mathlib.Nat.{pow-succ'}
use native.Mathlib.Omega.{arith}
use lib.Dec.{ltb}
use borrow.Author.Tests.{ltb-true, ltb-false, lt-ltb, le-ltb}
use Rattle.text.specs.Decimal.{digits_of}

abbrev pub last : ℕ → ℕ
last n = 48 + n % 10

-- what holds of no digits, of one digit, and of one digit more, holds of the digits of every number
pub by_digits : (P : ℕ → ℕ → List ℕ → Type 0) → ((n : ℕ) → P 0 n []) → ((k n : ℕ) → n < 10 → P (suc k) n (last n ∷ [])) → ((k n : ℕ) (ds : List ℕ) → 10 ≤ n → P k (n / 10) ds → P (suc k) n (ds ++ (last n ∷ []))) → (k n : ℕ) → P k n (digits_of k n)
unfolding digits_of
by_digits P none one more zero n = none n
by_digits P none one more (suc k) n = go (ltb n 10) refl (by_digits P none one more k (n / 10))
  where
    go : (b : Bool) → ltb n 10 ≡ b → P k (n / 10) (digits_of k (n / 10)) → P (suc k) n (cond b [] (digits_of k (n / 10)) ++ (last n ∷ []))
    go true e ih = one k n (ltb-true n 10 e)
    go false e ih = more k n _ (ltb-false n 10 e) ih

-- where k + 1 digits are enough, room for one more changes nothing
enough : (k n : ℕ) → n < 10 ^ suc k → digits_of (suc (suc k)) n ≡ digits_of (suc k) n
unfolding digits_of
enough zero n h = rw (lt-ltb n 10 (omega arith))
enough (suc k) n h = ap (λ (ds : List ℕ). cond (ltb n 10) [] ds ++ (last n ∷ [])) (enough k (n / 10) (omega (arith, pow-succ' 10 (suc k))))

pub one_digit : (k : ℕ) {n : ℕ} → n < 10 → digits_of (suc k) n ≡ last n ∷ []
unfolding digits_of
one_digit k {n} h = rw (lt-ltb n 10 h)

pub more_digits : (k : ℕ) {n : ℕ} → 10 ≤ n → n < 10 ^ suc (suc k) → digits_of (suc (suc k)) n ≡ digits_of (suc (suc k)) (n / 10) ++ (last n ∷ [])
unfolding digits_of
more_digits k {n} h f = rw (le-ltb n 10 h) (ap (λ (ds : List ℕ). ds ++ (last n ∷ [])) (sym (enough k (n / 10) (omega (arith, pow-succ' 10 (suc k))))))

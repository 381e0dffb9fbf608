-- Sums over the ten cards, and what one card takes from them.
use Prim.Native.Nat.{ℕ, zero, suc, ◌+◌, ◌≤◌, ◌<◌}
use mathlib.Core.Path.{◌≡◌, refl, ap₂}
use mathlib.Core.Bool.{Bool, true, false, cond, ◌&&◌}
use mathlib.Core.List.{List, ◌∷◌}
use native.Mathlib.Omega.{arith}
use native.Mathlib.Decide.{ℕ_discrete}
use lib.Dec.{T}
use lib.IntN.{ℤ}
use Rattle.ground.specs.Lists.{over, count}
use Rattle.ground.proofs.Bools.{T_eq}
use Rattle.words.specs.Majority.{same, occurs}

-- the sum of g over those of the c cards from q on that pass
unfoldable pub sum : (ℕ → Bool) → (ℕ → ℕ) → ℕ → ℕ → ℕ
sum passes g zero q = 0
sum passes g (suc c) q = cond (passes q) (g q) 0 + sum passes g c (suc q)

-- over all ten cards
abbrev pub total : (ℕ → Bool) → (ℕ → ℕ) → ℕ
total passes g = sum passes g 10 0

-- ---- counts are sums of ones

-- how many pass
count-sum : (passes : ℕ → Bool) (c q : ℕ) → count passes c q ≡ sum passes (λ _. 1) c q
unfolding count sum
count-sum passes zero q = refl
count-sum passes (suc c) q = go (passes q) _ _ (count-sum passes c (suc q))
  where
    go : (a : Bool) (n m : ℕ) → n ≡ m → cond a (suc n) n ≡ cond a 1 0 + m
    go true n m e = omega arith
    go false n m e = omega arith

-- how many pass both of two tests
pub count_both : (passes also : ℕ → Bool) (c q : ℕ) → count (λ x. passes x && also x) c q ≡ sum passes (λ x. cond (also x) 1 0) c q
unfolding count sum
count_both passes also zero q = refl
count_both passes also (suc c) q = go (passes q) (also q) _ _ (count_both passes also c (suc q))
  where
    go : (a b : Bool) (n m : ℕ) → n ≡ m → cond (a && b) (suc n) n ≡ cond a (cond b 1 0) 0 + m
    go true true n m e = omega arith
    go true false n m e = omega arith
    go false b n m e = omega arith

-- how often v occurs among the votes of those that pass
pub occurs-sum : (v : ℤ) (passes : ℕ → Bool) (f : ℕ → ℤ) (c q : ℕ) → occurs v (over passes f c q) ≡ sum passes (λ x. cond (same (f x) v) 1 0) c q
unfolding occurs over sum
occurs-sum v passes f zero q = refl
occurs-sum v passes f (suc c) q = go (passes q) (same (f q) v) _ _ refl (occurs-sum v passes f c (suc q))
  where
    go : (a b : Bool) (l : List ℤ) (m : ℕ) → same (f q) v ≡ b → occurs v l ≡ m → occurs v (cond a (f q ∷ l) l) ≡ cond a (cond b 1 0) 0 + m
    go true true l m s e = rw s (omega arith)
    go true false l m s e = rw s (omega arith)
    go false b l m s e = omega arith

-- ---- one card fewer

-- of the ten cards the fewer that pass are those that passed, less the card x
pub record Less (passes fewer : ℕ → Bool) (x : ℕ) : Type 0 where
  pub place : x < 10
  pub was : T (passes x)
  pub out : fewer x ≡ false
  pub others : (q : ℕ) → q < 10 → (q ≡ x → ⊥) → fewer q ≡ passes q

module _ (passes fewer : ℕ → Bool) (x : ℕ) (less : Less passes fewer x) (g : ℕ → ℕ) where
  other : (q : ℕ) → q < 10 → (q ≡ x → ⊥) → cond (fewer q) (g q) 0 ≡ cond (passes q) (g q) 0
  other q h n = rw (less.others q h n)

  -- from a card after x on nothing changes
  after : (c s : ℕ) → s + c ≡ 10 → x < s → sum fewer g c s ≡ sum passes g c s
  unfolding sum
  after zero s e h = refl
  after (suc c) s e h = ap₂ ◌+◌ (other s (omega arith) (λ q. omega arith)) (after c (suc s) (omega arith) (omega arith))

  -- from x or a card before it on the sum loses what x adds
  from : (c s : ℕ) → s + c ≡ 10 → s ≤ x → sum fewer g c s + g x ≡ sum passes g c s
  unfolding sum
  from zero s e h = absurd (omega (arith, less.place))
  from (suc c) s e h = go (ℕ_discrete s x) (from c (suc s) (omega arith))
    where
      go : Dec (s ≡ x) → (suc s ≤ x → sum fewer g c (suc s) + g x ≡ sum passes g c (suc s)) → cond (fewer s) (g s) 0 + sum fewer g c (suc s) + g x ≡ cond (passes s) (g s) 0 + sum passes g c (suc s)
      go (yes q) ih = rw (q, T_eq (passes x) less.was, less.out) (omega (arith, after c (suc x) (omega arith) (omega arith)))
      go (no n) ih = omega (arith, other s (omega arith) n, ih (omega arith))

  pub less_total : total fewer g + g x ≡ total passes g
  less_total = from 10 0 refl (omega arith)

-- and one card fewer passes
pub less_count : (passes fewer : ℕ → Bool) (x : ℕ) → Less passes fewer x → count fewer 10 0 + 1 ≡ count passes 10 0
less_count passes fewer x less = omega (arith, count-sum fewer 10 0, count-sum passes 10 0, less_total passes fewer x less (λ _. 1))

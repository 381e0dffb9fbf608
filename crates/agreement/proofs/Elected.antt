-- When the good cards carry the majority, and that the own report may stand in its card's place.
use Prim.Native.Nat.{ℕ, zero, suc, ◌+◌, ◌*◌, ◌≤◌, ◌<◌}
use mathlib.Core.Path.{◌≡◌, refl, ap, ◌∙◌, subst}
use mathlib.Core.Bool.{Bool, true, false, cond}
use mathlib.Core.List.{List, ◌∷◌}
use native.Mathlib.Omega.{arith}
use lib.Dec.{T}
use lib.IntN.{ℤ}
use lib.ListN.{length}
use Rattle.ground.specs.Lists.{over, count}
use Rattle.ground.proofs.Lists.{Each, over-same}
use Rattle.words.specs.Majority.{same, kept, occurs}
use Rattle.words.specs.Rule.{Rule, majority_by}
use Rattle.words.proofs.Same.{same_refl}
use Rattle.words.proofs.Counts.{over_is, by_counts}
use Rattle.exchange.specs.declared.Status.{Status}
use Rattle.exchange.specs.declared.Status.TheVariants.{Good, Arbitrary, Symmetric, Manifest}
use Rattle.agreement.proofs.Sums.{sum, total, occurs-sum, Less, less_total}

-- what a manifest card costs in the bound: 1 where the word for none is struck from votes, 2 where it is counted
abbrev pub price : Rule → ℕ
price R = cond (R.struck R.none) 1 2

-- what a card of each status costs
abbrev pub cost : Rule → Status → ℕ
cost R Good = 0
cost R Arbitrary = 2
cost R Symmetric = 2
cost R Manifest = price R

-- a card of this status votes so: v if it is good, the word for none if it is manifest, any word otherwise
abbrev pub Says : Rule → ℤ → Status → ℤ → Type 0
Says R v Good w = w ≡ v
Says R v Arbitrary w = Unit {0}
Says R v Symmetric w = Unit {0}
Says R v Manifest w = w ≡ R.none

-- ---- n votes of cards that cost c together: where c is below n, v has more than half of what is left of them

abbrev Leads : Rule → ℤ → List ℤ → ℕ → ℕ → Type 0
Leads R v l n c = length (kept R.struck l) + n ≤ 2 * occurs v (kept R.struck l) + c

module _ (R : Rule) (v : ℤ) (l : List ℤ) (n c : ℕ) (leads : Leads R v l n c) where
  -- any vote costs at most two
  lead_any : (w : ℤ) → Leads R v (w ∷ l) (suc n) (2 + c)
  unfolding kept occurs
  lead_any w = go (R.struck w) (same w v) _ refl leads
    where
      go : (a b : Bool) (k : List ℤ) → same w v ≡ b → length k + n ≤ 2 * occurs v k + c → length (cond a k (w ∷ k)) + suc n ≤ 2 * occurs v (cond a k (w ∷ k)) + (2 + c)
      go true b k e h = omega arith
      go false true k e h = rw e (omega arith)
      go false false k e h = rw e (omega arith)

  -- a card's vote costs what the card does
  lead_more : R.struck v ≡ false → (s : Status) (w : ℤ) → Says R v s w → Leads R v (w ∷ l) (suc n) (cost R s + c)
  unfolding kept occurs
  lead_more k Good w e = rw (e, k, same_refl v) (omega arith)
  lead_more k Arbitrary w e = lead_any w
  lead_more k Symmetric w e = lead_any w
  lead_more k Manifest w e = go (R.struck R.none) refl
    where
      go : (b : Bool) → R.struck R.none ≡ b → Leads R v (w ∷ l) (suc n) (cond b 1 2 + c)
      go true s = rw (e, s) (omega arith)
      go false s = lead_any w

module _ (R : Rule) (status : ℕ → Status) (v : ℤ) (k : R.struck v ≡ false) (passes : ℕ → Bool) (f : ℕ → ℤ) where
  leading : (c q : ℕ) → Each passes c q (λ x. Says R v (status x) (f x)) → Leads R v (over passes f c q) (count passes c q) (sum passes (λ x. cost R (status x)) c q)
  unfolding over count sum kept occurs
  leading zero q h = omega arith
  leading (suc c) q h = go (passes q) _ _ _ (h q (omega arith) (omega arith)) (leading c (suc q) (λ x a b. h x (omega arith) (omega arith)))
    where
      go : (b : Bool) (l : List ℤ) (n m : ℕ) → (T b → Says R v (status q) (f q)) → Leads R v l n m → Leads R v (cond b (f q ∷ l) l) (cond b (suc n) n) (cond b (cost R (status q)) 0 + m)
      go true l n m s ih = lead_more R v l n m ih k (status q) (f q) (s tt)
      go false l n m s ih = omega arith

  -- where the cards cost less than their number, v has the majority
  pub elected : Each passes 10 0 (λ x. Says R v (status x) (f x)) → total passes (λ x. cost R (status x)) < count passes 10 0 → majority_by R (over passes f 10 0) ≡ v
  elected h b = over_is R.struck R.none _ v (omega (arith, leading 10 0 h))

-- ---- the own report first, or in its card's place: the majority is the same

pub pooled : (R : Rule) (passes fewer : ℕ → Bool) (p : ℕ) → Less passes fewer p → (own : ℤ) (f g : ℕ → ℤ) → own ≡ g p → ((q : ℕ) → (q ≡ p → ⊥) → f q ≡ g q) → majority_by R (own ∷ over fewer f 10 0) ≡ majority_by R (over passes g 10 0)
unfolding occurs
pooled R passes fewer p less own f g e h =
    rw (e, over-same fewer f g 10 0 (λ q a b t. h q (λ s. subst T (ap fewer s ∙ less.out) t)))
    (by_counts R.struck R.none _ _ (λ v. one (same (g p) v) _ ∙ omega (arith, less_total passes fewer p less (λ x. cond (same (g x) v) 1 0), occurs-sum v fewer g 10 0, occurs-sum v passes g 10 0)))
  where
    one : (b : Bool) (n : ℕ) → cond b (suc n) n ≡ n + cond b 1 0
    one true n = omega arith
    one false n = omega arith

-- Laws of the search for the majority: how many words are left, how often one recurs, what a turn of the search tells, and that told rightly it finds the majority.
use Prim.Native.Nat.{ℕ, suc, ◌+◌, ◌*◌, ◌/◌, ◌<◌, ◌≤◌}
use mathlib.Core.Path.{◌≡◌, refl, ap, ◌∙◌}
use mathlib.Core.Bool.{Bool, true, false, cond, not, ◌&&◌}
use mathlib.Core.List.{List, [], ◌∷◌, ◌++◌}
use native.Mathlib.Omega.{arith}
use borrow.Author.Tests.{lt-ltb, le-ltb, le-leb}
use lib.Dec.{ltb, leb}
use lib.IntN.{ℤ, pos}
use lib.ListN.{length, drop, get_or}
use Rattle.std.specs.List.{count_by}
use Rattle.std.proofs.lemmas.Bool.Decides.{nat_tests}
use Rattle.std.proofs.lemmas.Grind.{common_steps}
use Rattle.std.proofs.lemmas.List.{take_rest}
use Rattle.std.proofs.lemmas.List.Sums.{count_by-le-length, sum_by-drop_more}
use Rattle.words.specs.Majority.{same, kept, occurs, over_half, first, majority}
use Rattle.words.specs.Counted.{enough, majority_of}
use Rattle.words.proofs.Same.{same_eq, same_refl, told_same, told_other}
use Rattle.words.proofs.Counts.{occurs-kept}

-- ---- counting: how many words are left, how often one recurs

pub kept_length : (s : ℤ → Bool) (l : List ℤ) → length (kept s l) + count_by s l ≡ length l
unfolding kept
kept_length s [] = omega arith
kept_length s (x ∷ xs) = grind (arith, common_steps, kept_length s xs)

pub occurs_count : (v : ℤ) (l : List ℤ) → occurs v l ≡ count_by (λ x. same x v) l
unfolding occurs
occurs_count v [] = refl
occurs_count v (x ∷ xs) = grind (arith, common_steps, occurs_count v xs)

pub occurs_none : (v : ℤ) → occurs v [] ≡ 0
unfolding occurs
occurs_none v = refl

pub occurs_most : (v : ℤ) (l : List ℤ) → occurs v l ≤ length l
occurs_most v l = omega (arith, occurs_count v l, count_by-le-length (λ x. same x v) l)

-- a list begins with its next word
pub occurs_first : (v : ℤ) (l : List ℤ) → 0 < length l → occurs v l ≡ cond (same (get_or l 0 (pos 0)) v) 1 0 + occurs v (drop 1 l)
unfolding occurs
occurs_first v [] h = absurd (omega arith)
occurs_first v (x ∷ xs) h = grind (arith, common_steps)

-- what is left of a list begins with its next word
pub occurs_rest : (v : ℤ) (l : List ℤ) (i : ℕ) → i < length l → occurs v (drop i l) ≡ cond (same (get_or l i (pos 0)) v) 1 0 + occurs v (drop (i + 1) l)
occurs_rest v l i h = grind (arith, common_steps, occurs_count, sum_by-drop_more (λ (x : ℤ). cond (same x v) 1 0) l i (pos 0) h)

pub ruleset counting = (common_steps, kept_length)

-- ---- searching: what a turn tells

-- the first word of k that is in it more often than half of n, else e
module _ (e : ℤ) (n : ℕ) where
  abbrev sought : List ℤ → ℤ
  sought k = first (λ v. ltb n (2 * occurs v k)) e k

  first-none : (f : ℤ → Bool) → ((v : ℤ) → f v ≡ false) → (l : List ℤ) → first f e l ≡ e
  unfolding first
  first-none f h [] = refl
  first-none f h (x ∷ xs) = rw (h x) (first-none f h xs)

  first_same : (f g : ℤ → Bool) → ((v : ℤ) → f v ≡ g v) → (l : List ℤ) → first f e l ≡ first g e l
  unfolding first
  first_same f g h [] = refl
  first_same f g h (x ∷ xs) = rw (h x, first_same f g h xs)

  sought_here : (x : ℤ) (k : List ℤ) → n / 2 ≤ occurs x k → sought (x ∷ k) ≡ x
  unfolding first occurs
  sought_here x k h = rw (same_refl x, lt-ltb n (2 * suc (occurs x k)) (omega arith))

  sought_after : (x : ℤ) (k : List ℤ) → occurs x k < n / 2 → sought (x ∷ k) ≡ sought k
  unfolding first occurs
  sought_after x k h = rw (same_refl x, le-ltb n (2 * suc (occurs x k)) (omega arith)) (first_same _ _ (λ v. go v (same x v) refl) k)
    where
      go : (v : ℤ) (b : Bool) → same x v ≡ b → ltb n (2 * cond b (suc (occurs v k)) (occurs v k)) ≡ ltb n (2 * occurs v k)
      go v true p = grind (arith, nat_tests, ap (λ (v : ℤ). occurs v k) (same_eq x v p))
      go v false p = refl

module _ (s : ℤ → Bool) (e : ℤ) (n : ℕ) where
  -- too few words are left for one to be found
  pub search_end : (l : List ℤ) → length l ≤ n / 2 → majority_of s e n l ≡ e
  unfolding majority_of enough
  search_end l h = first-none e n _ (λ v. grind (arith, nat_tests, occurs-kept s v l, occurs_count v l, count_by-le-length (λ x. same x v) l)) (kept s l)

  -- a word is found if it is not struck and recurs half of n times or more; else the search goes on after it
  pub search_first : (l : List ℤ) → 0 < length l → majority_of s e n l ≡ cond (not (s (get_or l 0 (pos 0))) && leb (n / 2) (occurs (get_or l 0 (pos 0)) (drop 1 l))) (get_or l 0 (pos 0)) (majority_of s e n (drop 1 l))
  unfolding majority_of enough kept
  search_first [] h = absurd (omega arith)
  search_first (x ∷ xs) h = go (s x) (leb (n / 2) (occurs x xs)) refl refl
    where
      go : (b c : Bool) → s x ≡ b → leb (n / 2) (occurs x xs) ≡ c → sought e n (cond b (kept s xs) (x ∷ kept s xs)) ≡ cond (not b && c) x (sought e n (kept s xs))
      go true c p q = refl
      go false true p q = sought_here e n x (kept s xs) (grind (arith, nat_tests, occurs-kept s x xs))
      go false false p q = sought_after e n x (kept s xs) (grind (arith, nat_tests, occurs-kept s x xs))

  -- a word that is not struck and recurs so is found
  pub search_found : (l : List ℤ) → 0 < length l → s (get_or l 0 (pos 0)) ≡ false → n / 2 ≤ occurs (get_or l 0 (pos 0)) (drop 1 l) → majority_of s e n l ≡ get_or l 0 (pos 0)
  search_found l h out many = search_first l h ∙ rw (out, le-leb (n / 2) (occurs (get_or l 0 (pos 0)) (drop 1 l)) many)

  -- where it recurs less often the search goes on after it
  pub search_next : (l : List ℤ) → 0 < length l → s (get_or l 0 (pos 0)) ≡ false → occurs (get_or l 0 (pos 0)) (drop 1 l) < n / 2 → majority_of s e n l ≡ majority_of s e n (drop 1 l)
  search_next l h out few = grind (arith, common_steps, nat_tests, search_first l h)

pub ruleset recounting = (common_steps, take_rest, told_same, told_other, occurs_first)

pub ruleset searching = (recounting, search_end, search_first, occurs_most)

-- ---- told rightly

pub kept_append : (s : ℤ → Bool) (xs ys : List ℤ) → kept s (xs ++ ys) ≡ kept s xs ++ kept s ys
unfolding kept
kept_append s [] ys = refl
kept_append s (x ∷ xs) ys = grind (arith, common_steps, kept_append s xs ys)

-- nothing is struck from what is left
kept_twice : (s : ℤ → Bool) (l : List ℤ) → kept s (kept s l) ≡ kept s l
unfolding kept
kept_twice s [] = refl
kept_twice s (x ∷ xs) = grind (arith, common_steps, kept_twice s xs)

-- told how many words are left, the search finds the majority
pub told_rightly : (s : ℤ → Bool) (e : ℤ) (l : List ℤ) → majority_of s e (length (kept s l)) l ≡ majority s e l
unfolding majority_of majority enough over_half
told_rightly s e l = refl

-- and so it does in what is left
pub found_left : (s : ℤ → Bool) (e : ℤ) (l : List ℤ) → majority_of s e (length (kept s l)) (kept s l) ≡ majority s e l
unfolding majority_of majority enough over_half
found_left s e l = ap (λ (k : List ℤ). first (λ v. ltb (length (kept s l)) (2 * occurs v k)) e k) (kept_twice s l)

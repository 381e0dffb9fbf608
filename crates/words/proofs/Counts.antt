-- Laws of the majority, over any struck words and any word for none: it is the one word with more than half of what is left, and goes by the counts alone.
use Prim.Native.Nat.{ℕ, suc, ◌+◌, ◌*◌, ◌≤◌, ◌<◌}
use mathlib.Core.Path.{◌≡◌, refl, sym, ap, ◌∙◌}
use mathlib.Core.Bool.{Bool, true, false, cond}
use mathlib.Core.List.{List, [], ◌∷◌}
use native.Mathlib.Omega.{arith}
use lib.IntN.{ℤ}
use lib.ListN.{length}
use borrow.Author.Tests.{ltb-true, lt-ltb}
use Rattle.ground.proofs.Lists.{All}
use Rattle.words.specs.Majority.{same, kept, occurs, over_half, first, majority}
use Rattle.words.proofs.Same.{same_eq, same_refl, same_ne, ne_same}

-- ---- at most one word has more than half

over_lt : (l : List ℤ) (v : ℤ) → over_half l v ≡ true → length l < 2 * occurs v l
unfolding over_half
over_lt l v e = ltb-true (length l) (2 * occurs v l) e

lt_over : (l : List ℤ) (v : ℤ) → length l < 2 * occurs v l → over_half l v ≡ true
unfolding over_half
lt_over l v h = lt-ltb (length l) (2 * occurs v l) h

-- two different words have at most the whole list between them
occurs_two : (v w : ℤ) → (v ≡ w → ⊥) → (l : List ℤ) → occurs v l + occurs w l ≤ length l
unfolding occurs
occurs_two v w n [] = omega arith
occurs_two v w n (x ∷ xs) = go (occurs_two v w n xs) (same x v) (same x w) refl refl
  where
    go : occurs v xs + occurs w xs ≤ length xs → (b c : Bool) → same x v ≡ b → same x w ≡ c → cond b (suc (occurs v xs)) (occurs v xs) + cond c (suc (occurs w xs)) (occurs w xs) ≤ suc (length xs)
    go ih true true p q = absurd (n (sym (same_eq x v p) ∙ same_eq x w q))
    go ih true false p q = omega arith
    go ih false true p q = omega arith
    go ih false false p q = omega arith

pub one_over : (l : List ℤ) (v w : ℤ) → length l < 2 * occurs v l → length l < 2 * occurs w l → v ≡ w
one_over l v w p q = go (same v w) refl
  where
    go : (b : Bool) → same v w ≡ b → v ≡ w
    go true e = same_eq v w e
    go false e = absurd (omega (arith, occurs_two v w (same_ne v w e) l))

-- ---- the search finds it

-- a word that passes, or the word for none where no word of the list passes
data Found (passes : ℤ → Bool) (none : ℤ) (l : List ℤ) (r : ℤ) : Type 0 where
  one : passes r ≡ true → Found passes none l r
  no : r ≡ none → ((v : ℤ) → passes v ≡ true → occurs v l ≡ 0) → Found passes none l r

found : (passes : ℤ → Bool) (none : ℤ) (l : List ℤ) → Found passes none l (first passes none l)
unfolding first occurs
found f e [] = no refl (λ v h. refl)
found f e (x ∷ xs) = go (found f e xs) (f x) refl
  where
    go : Found f e xs (first f e xs) → (b : Bool) → f x ≡ b → Found f e (x ∷ xs) (cond b x (first f e xs))
    go ih true p = one p
    go (one q) false p = one q
    go (no q h) false p = no q (λ v t. rw (ne_same x v (λ s. apart v s t)) (h v t))
      where
        apart : (v : ℤ) → x ≡ v → f v ≡ true → ⊥
        apart v s t = let z : ◌≡◌ {A = ℕ} 0 1 = cc in omega arith

module _ (struck : ℤ → Bool) (none : ℤ) (l : List ℤ) where
  search : Found (over_half (kept struck l)) none (kept struck l) (majority struck none l)
  unfolding majority
  search = found (over_half (kept struck l)) none (kept struck l)

  -- a word with more than half of what is left is the majority
  pub over_is : (v : ℤ) → length (kept struck l) < 2 * occurs v (kept struck l) → majority struck none l ≡ v
  over_is v h = go search
    where
      go : Found (over_half (kept struck l)) none (kept struck l) (majority struck none l) → majority struck none l ≡ v
      go (one p) = one_over (kept struck l) _ v (over_lt (kept struck l) _ p) h
      go (no p q) = absurd (omega (arith, q v (lt_over (kept struck l) v h)))

  -- where no word has it, the majority is the word for none
  pub none_over : ((v : ℤ) → length (kept struck l) < 2 * occurs v (kept struck l) → ⊥) → majority struck none l ≡ none
  none_over n = go search
    where
      go : Found (over_half (kept struck l)) none (kept struck l) (majority struck none l) → majority struck none l ≡ none
      go (one p) = absurd (n _ (over_lt (kept struck l) _ p))
      go (no p q) = p

-- ---- how often each word occurs decides

pub occurs-kept : (struck : ℤ → Bool) (v : ℤ) (l : List ℤ) → occurs v (kept struck l) ≡ cond (struck v) 0 (occurs v l)
unfolding kept occurs
occurs-kept s v [] = go (s v)
  where
    go : (b : Bool) → ◌≡◌ {A = ℕ} 0 (cond b 0 0)
    go true = refl
    go false = refl
occurs-kept s v (x ∷ xs) = go (occurs-kept s v xs) (same x v) (s x) (s v) refl refl refl
  where
    go : occurs v (kept s xs) ≡ cond (s v) 0 (occurs v xs) → (b c d : Bool) → same x v ≡ b → s x ≡ c → s v ≡ d → occurs v (cond c (kept s xs) (x ∷ kept s xs)) ≡ cond d 0 (cond b (suc (occurs v xs)) (occurs v xs))
    go ih true true true p q r = rw r at ih
    go ih true false false p q r = rw p (ap suc (rw r at ih))
    go ih true true false p q r = let e : x ≡ v = same_eq x v p in let z : ◌≡◌ {A = ℕ} 0 1 = cc in absurd (omega arith)
    go ih true false true p q r = let e : x ≡ v = same_eq x v p in let z : ◌≡◌ {A = ℕ} 0 1 = cc in absurd (omega arith)
    go ih false true true p q r = rw r at ih
    go ih false true false p q r = rw r at ih
    go ih false false true p q r = rw p (rw r at ih)
    go ih false false false p q r = rw p (rw r at ih)

-- the list less one v
unfoldable less : ℤ → List ℤ → List ℤ
less v [] = []
less v (x ∷ xs) = cond (same x v) xs (x ∷ less v xs)

less_length : (v : ℤ) (l : List ℤ) → 0 < occurs v l → suc (length (less v l)) ≡ length l
unfolding less occurs
less_length v [] h = absurd (omega arith)
less_length v (x ∷ xs) h = go (less_length v xs) (same x v) h
  where
    go : (0 < occurs v xs → suc (length (less v xs)) ≡ length xs) → (b : Bool) → 0 < cond b (suc (occurs v xs)) (occurs v xs) → suc (length (cond b xs (x ∷ less v xs))) ≡ suc (length xs)
    go ih true g = refl
    go ih false g = ap suc (ih g)

less_occurs : (v w : ℤ) (l : List ℤ) → 0 < occurs v l → occurs w l ≡ cond (same v w) (suc (occurs w (less v l))) (occurs w (less v l))
unfolding less occurs
less_occurs v w [] h = absurd (omega arith)
less_occurs v w (x ∷ xs) h = go (less_occurs v w xs) (same x v) refl h
  where
    swap : (a b : Bool) (i j : ℕ) → i ≡ cond b (suc j) j → cond a (suc i) i ≡ cond b (suc (cond a (suc j) j)) (cond a (suc j) j)
    swap true true i j e = ap suc e
    swap true false i j e = ap suc e
    swap false true i j e = e
    swap false false i j e = e

    go : (0 < occurs v xs → occurs w xs ≡ cond (same v w) (suc (occurs w (less v xs))) (occurs w (less v xs))) → (b : Bool) → same x v ≡ b → 0 < cond b (suc (occurs v xs)) (occurs v xs) → cond (same x w) (suc (occurs w xs)) (occurs w xs) ≡ cond (same v w) (suc (occurs w (cond b xs (x ∷ less v xs)))) (occurs w (cond b xs (x ∷ less v xs)))
    go ih true e g = rw (same_eq x v e)
    go ih false e g = swap (same x w) (same v w) _ _ (ih g)

-- the counts tell the length
same_length : (k l : List ℤ) → ((v : ℤ) → occurs v k ≡ occurs v l) → length k ≡ length l
unfolding occurs
same_length [] [] e = refl
same_length [] (y ∷ ys) e = let h = e y in absurd (omega (arith, rw (same_refl y) at h))
same_length (x ∷ xs) l e =
    let h : 0 < occurs x l = omega (arith, rw (same_refl x) at (e x)) in
    omega (arith, less_length x l h, same_length xs (less x l) (λ v. rest v h (same x v) refl))
  where
    rest : (v : ℤ) → 0 < occurs x l → (b : Bool) → same x v ≡ b → occurs v xs ≡ occurs v (less x l)
    rest v h b s = drop_one b (sym (ap (λ (c : Bool). cond c (suc (occurs v xs)) (occurs v xs)) s) ∙ e v ∙ less_occurs x v l h ∙ ap (λ (c : Bool). cond c (suc (occurs v (less x l))) (occurs v (less x l))) s)
      where
        drop_one : (c : Bool) → cond c (suc (occurs v xs)) (occurs v xs) ≡ cond c (suc (occurs v (less x l))) (occurs v (less x l)) → occurs v xs ≡ occurs v (less x l)
        drop_one true p = omega arith
        drop_one false p = p

-- two lists in which each word occurs equally often have the same majority: the order does not matter
pub by_counts : (struck : ℤ → Bool) (none : ℤ) (k l : List ℤ) → ((v : ℤ) → occurs v k ≡ occurs v l) → majority struck none k ≡ majority struck none l
by_counts s e k l h = go (search s e k)
  where
    kept_same : (v : ℤ) → occurs v (kept s k) ≡ occurs v (kept s l)
    kept_same v = occurs-kept s v k ∙ ap (λ (n : ℕ). cond (s v) 0 n) (h v) ∙ sym (occurs-kept s v l)

    long : length (kept s k) ≡ length (kept s l)
    long = same_length (kept s k) (kept s l) kept_same

    go : Found (over_half (kept s k)) e (kept s k) (majority s e k) → majority s e k ≡ majority s e l
    go (one p) = sym (over_is s e l _ (omega (arith, over_lt (kept s k) _ p, kept_same (majority s e k), long)))
    go (no p q) = p ∙ sym (none_over s e l (λ v o. omega (arith, kept_same v, long, q v (lt_over (kept s k) v (omega (arith, kept_same v, long))))))

-- ---- the majority is a word of the list, or the word for none

first-all : (P : ℤ → Type 0) (f : ℤ → Bool) (none : ℤ) → P none → (l : List ℤ) → All P l → P (first f none l)
unfolding first
first-all P f none p [] a = p
first-all P f none p (x ∷ xs) a = go (f x) (first-all P f none p xs a.1)
  where
    go : (b : Bool) → P (first f none xs) → P (cond b x (first f none xs))
    go true q = a.0
    go false q = q

kept-all : (P : ℤ → Type 0) (struck : ℤ → Bool) (l : List ℤ) → All P l → All P (kept struck l)
unfolding kept
kept-all P s [] a = tt
kept-all P s (x ∷ xs) a = go (s x) (kept-all P s xs a.1)
  where
    go : (b : Bool) → All P (kept s xs) → All P (cond b (kept s xs) (x ∷ kept s xs))
    go true q = q
    go false q = (a.0, q)

pub majority-all : (P : ℤ → Type 0) (struck : ℤ → Bool) (none : ℤ) (l : List ℤ) → P none → All P l → P (majority struck none l)
unfolding majority
majority-all P s none l p a = first-all P _ none p (kept s l) (kept-all P s l a)

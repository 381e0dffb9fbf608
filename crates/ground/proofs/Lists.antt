-- Laws of lists: tables, loops that set places, and going over and counting cards.
use Prim.Native.Nat.{ℕ, zero, suc, ◌+◌, ◌≤◌, ◌<◌}
use mathlib.Core.Path.{◌≡◌, refl, sym, ap, ap₂, ◌∙◌}
use mathlib.Core.Bool.{Bool, true, false, cond, ◌||◌, or-true}
use mathlib.Core.List.{List, [], ◌∷◌, ◌++◌}
use native.Mathlib.Numerals.{add-one}
use native.Mathlib.Omega.{arith}
use native.Mathlib.Decide.{ℕ_discrete}
use lib.Dec.{T, ltb}
use lib.IntN.{ℤ, pos}
use lib.ListN.{length, get_or, set, length-set}
use lib.Seq.{ext_get_or, get_or-set_same, get_or-set_other}
use borrow.Author.Count.{below_more}
use borrow.Author.Tests.{ltb-true, ltb-false}
use Rattle.std.specs.List.{filter, range_with_len}
use Rattle.ground.specs.Lists.{at, table, over, count, some_of}
use Rattle.ground.proofs.Bools.{cond-case, cond_same}

-- P holds of every element
abbrev pub All : (ℤ → Type 0) → List ℤ → Type 0
All P [] = Unit {0}
All P (x ∷ xs) = P x × All P xs

-- ---- tables

pub length-table : {A : Type 0} (n s : ℕ) (f : ℕ → A) → length (table n s f) ≡ n
unfolding table
length-table zero s f = refl
length-table (suc n) s f = ap suc (length-table n (suc s) f)

pub at_table : {A : Type 0} (n s : ℕ) (f : ℕ → A) (i : ℕ) (d : A) → i < n → get_or (table n s f) i d ≡ f (s + i)
unfolding table
at_table zero s f i d h = absurd (omega arith)
at_table (suc n) s f zero d h = ap f (omega arith)
at_table (suc n) s f (suc i) d h = at_table n (suc s) f i d (omega arith) ∙ ap f (omega arith)

-- a list that holds f at each of its n places is the table
pub is_table : {A : Type 0} (n : ℕ) (f : ℕ → A) (d : A) (l : List A) → length l ≡ n → ((i : ℕ) → i < n → get_or l i d ≡ f i) → l ≡ table n 0 f
is_table n f d l e h =
    ext_get_or d l (table n 0 f) (e ∙ sym (length-table n 0 f))
    (λ i g. h i (omega arith) ∙ sym (at_table n 0 f i d (omega arith) ∙ ap f (omega arith)))

-- one place more holds f
pub set_next : {A : Type 0} (f : ℕ → A) (l : List A) (i : ℕ) (v d : A) → i < length l → ((j : ℕ) → j < i → get_or l j d ≡ f j) → v ≡ f i → (j : ℕ) → j < i + 1 → get_or (set l i v) j d ≡ f j
set_next f l i v d h before e j g = go (ℕ_discrete j i)
  where
    go : Dec (j ≡ i) → get_or (set l i v) j d ≡ f j
    go (yes q) = rw q (get_or-set_same l i v d h ∙ e)
    go (no n) = get_or-set_other l i j v d n ∙ before j (omega arith)

-- ---- a loop that sets places

-- the places before k hold f, and those from k on what they held before
pub record Passed (n : ℕ) (f : ℕ → ℤ) (before : List ℤ) (k : ℕ) (l : List ℤ) : Type 0 where
  pub upto : k ≤ n
  pub long : length l ≡ n
  pub done : (j : ℕ) → j < k → at l j ≡ f j
  pub rest : (j : ℕ) → k ≤ j → at l j ≡ at before j

pub passed_none : {n : ℕ} (f : ℕ → ℤ) (l : List ℤ) → length l ≡ n → Passed n f l 0 l
passed_none f l e = record { upto = omega arith; long = e; done = λ j h. absurd (omega arith); rest = λ j h. refl }

module _ {n : ℕ} {f : ℕ → ℤ} {before : List ℤ} {k : ℕ} {l : List ℤ} (r : Passed n f before k l) where
  module _ (h : k < n) {after : List ℤ} where
    pub passed_set : {v : ℤ} → v ≡ f k → after ≡ set l k v → Passed n f before (k + 1) after
    passed_set {v} e a = rw a (record {
      upto = omega arith;
      long = length-set l k v ∙ r.long;
      done = set_next f l k v (pos 0) (omega (arith, r.long)) r.done e;
      rest = λ j g. get_or-set_other l k j v (pos 0) (λ q. omega arith) ∙ r.rest j (omega arith);
    })

    pub passed_same : at before k ≡ f k → after ≡ l → Passed n f before (k + 1) after
    passed_same e a = rw a (record {
      upto = omega arith;
      long = r.long;
      done = below_more (λ j. at l j ≡ f j) k r.done (r.rest k (omega arith) ∙ e);
      rest = λ j g. r.rest j (omega arith);
    })

  -- where f changes no place from k on, the list is f's table
  pub passed_all : ((j : ℕ) → k ≤ j → j < n → at before j ≡ f j) → l ≡ table n 0 f
  passed_all same = is_table n f (pos 0) l r.long (λ j h. go j h (ltb j k) refl)
    where
      go : (j : ℕ) → j < n → (b : Bool) → ltb j k ≡ b → at l j ≡ f j
      go j h true e = r.done j (ltb-true j k e)
      go j h false e = r.rest j (ltb-false j k e) ∙ same j (ltb-false j k e) h

-- ---- going over cards

-- P holds of each of the c cards from q on that passes
abbrev pub Each : (ℕ → Bool) → ℕ → ℕ → (ℕ → Type 0) → Type 0
Each passes c q P = (x : ℕ) → q ≤ x → x < q + c → T (passes x) → P x

module _ (passes : ℕ → Bool) where
  -- what holds of them holds of those after the first
  rest : (P : ℕ → Type 0) (c q : ℕ) → Each passes (suc c) q P → Each passes c (suc q) P
  rest P c q h x a b = h x (omega arith) (omega arith)

  -- two functions that are equal at each card that passes
  pub over-same : (f g : ℕ → ℤ) (c q : ℕ) → Each passes c q (λ x. f x ≡ g x) → over passes f c q ≡ over passes g c q
  unfolding over
  over-same f g zero q h = refl
  over-same f g (suc c) q h =
      let ih = over-same f g c (suc q) (rest _ c q h) in
      cond_same (passes q) _ _ _ _ (λ t. ap₂ (λ (v : ℤ) (l : List ℤ). v ∷ l) (h q (omega arith) (omega arith) t) ih) (λ t. ih)

  -- what holds of f at each card that passes holds of the list
  pub over-all : (P : ℤ → Type 0) (f : ℕ → ℤ) (c q : ℕ) → Each passes c q (λ x. P (f x)) → All P (over passes f c q)
  unfolding over
  over-all P f zero q h = tt
  over-all P f (suc c) q h =
      let ih = over-all P f c (suc q) (rest _ c q h) in
      cond-case (All P) (passes q) _ _ (λ t. (h q (omega arith) (omega arith) t, ih)) (λ t. ih)

-- two tests and two functions that are equal where they matter
pub over_cong : (p p' : ℕ → Bool) (f f' : ℕ → ℤ) (c s : ℕ) → ((q : ℕ) → q < s + c → p q ≡ p' q) → ((q : ℕ) → q < s + c → T (p q) → f q ≡ f' q) → over p f c s ≡ over p' f' c s
unfolding over
over_cong p p' f f' zero s g h = refl
over_cong p p' f f' (suc c) s g h =
    rw (← (g s (omega arith))) (go (p s) (h s (omega arith)) (over_cong p p' f f' c (suc s) (λ q l. g q (omega arith)) (λ q l. h q (omega arith))))
  where
    go : (b : Bool) → (T b → f s ≡ f' s) → over p f c (suc s) ≡ over p' f' c (suc s) → cond b (f s ∷ over p f c (suc s)) (over p f c (suc s)) ≡ cond b (f' s ∷ over p' f' c (suc s)) (over p' f' c (suc s))
    go true e ih = ap₂ (λ (w : ℤ) (l : List ℤ). w ∷ l) (e tt) ih
    go false e ih = ih

-- the card after c cards from q on
pub over_snoc : (p : ℕ → Bool) (f : ℕ → ℤ) (c q : ℕ) → over p f (suc c) q ≡ over p f c q ++ cond (p (q + c)) (f (q + c) ∷ []) []
unfolding over
over_snoc p f zero q = let e : q + 0 ≡ q = omega arith in rw e
over_snoc p f (suc c) q = go (p q) _ (over_snoc p f c (suc q) ∙ ap (λ (x : ℕ). over p f c (suc q) ++ cond (p x) (f x ∷ []) []) (omega arith))
  where
    go : (b : Bool) (l : List ℤ) → over p f (suc c) (suc q) ≡ over p f c (suc q) ++ l → cond b (f q ∷ over p f (suc c) (suc q)) (over p f (suc c) (suc q)) ≡ cond b (f q ∷ over p f c (suc q)) (over p f c (suc q)) ++ l
    go true l e = ap (λ (r : List ℤ). f q ∷ r) e
    go false l e = e

-- ---- some of a table

module _ (f : ℕ → Bool) where
  pub none-of : (c s : ℕ) → ((q : ℕ) → q < s + c → f q ≡ false) → some_of (table c s f) ≡ false
  unfolding some_of table
  none-of zero s h = refl
  none-of (suc c) s h = rw (h s (omega arith)) (none-of c (suc s) (λ q a. h q (omega arith)))

  pub one_of : (c s q : ℕ) → s ≤ q → q < s + c → f q ≡ true → some_of (table c s f) ≡ true
  unfolding some_of table
  one_of zero s q a b e = absurd (omega arith)
  one_of (suc c) s q a b e = go (ℕ_discrete q s) (λ g. one_of c (suc s) q g (omega arith) e)
    where
      go : Dec (q ≡ s) → (suc s ≤ q → some_of (table c (suc s) f) ≡ true) → (f s || some_of (table c (suc s) f)) ≡ true
      go (yes z) ih = rw (← z, e)
      go (no n) ih = rw (ih (omega arith)) (or-true (f s))

-- ---- counting

module _ (f : ℕ → Bool) where
  pub length-filter_range : (c q : ℕ) → length (filter f (range_with_len q c)) ≡ count f c q
  unfolding count
  length-filter_range zero q = refl
  length-filter_range (suc c) q = go (f q) _ (ap (λ (x : ℕ). length (filter f (range_with_len x c))) (add-one q) ∙ length-filter_range c (suc q))
    where
      go : (b : Bool) (l : List ℕ) → length l ≡ count f c (suc q) → length (cond b (q ∷ l) l) ≡ cond b (suc (count f c (suc q))) (count f c (suc q))
      go true l e = ap suc e
      go false l e = e

  -- one more card, that passes or does not
  count_snoc : (c q : ℕ) → count f (suc c) q ≡ count f c q + cond (f (q + c)) 1 0
  unfolding count
  count_snoc zero q = grind arith
  count_snoc (suc c) q = grind (arith, count_snoc c (suc q))

  pub count_yes : (q : ℕ) → f q ≡ true → count f (q + 1) 0 ≡ count f q 0 + 1
  count_yes q e = grind (arith, count_snoc q 0)

  pub count_no : (q : ℕ) → f q ≡ false → count f (q + 1) 0 ≡ count f q 0
  count_no q e = grind (arith, count_snoc q 0)

  count-few : (c q : ℕ) → count f c q ≤ c
  unfolding count
  count-few zero q = omega arith
  count-few (suc c) q = go (f q) (count-few c (suc q))
    where
      go : (b : Bool) → count f c (suc q) ≤ c → cond b (suc (count f c (suc q))) (count f c (suc q)) ≤ suc c
      go true h = omega arith
      go false h = omega arith

pub counted_few : (f : ℕ → Bool) (n : ℕ) {r : ℕ} → r ≡ count f n 0 → r ≤ n
counted_few f n e = omega (arith, count-few f n 0)

-- f says what g does of the n cards from q on, and no card after them passes f
pub count-first : (f g : ℕ → Bool) (c n q : ℕ) → n ≤ c → ((x : ℕ) → q ≤ x → x < q + n → f x ≡ g x) → ((x : ℕ) → q + n ≤ x → f x ≡ false) → count f c q ≡ count g n q
unfolding count
count-first f g zero zero q h same none = refl
count-first f g zero (suc n) q h same none = absurd (omega arith)
count-first f g (suc c) zero q h same none =
    rw (none q (omega arith)) (count-first f g c zero (suc q) (omega arith) (λ x a b. absurd (omega arith)) (λ x a. none x (omega arith)))
count-first f g (suc c) (suc n) q h same none =
    rw (same q (omega arith) (omega arith), count-first f g c n (suc q) (omega arith) (λ x a b. same x (omega arith) (omega arith)) (λ x a. none x (omega arith)))

pub count-all : (n q : ℕ) → count (λ q. true) n q ≡ n
unfolding count
count-all zero q = refl
count-all (suc n) q = ap suc (count-all n (suc q))

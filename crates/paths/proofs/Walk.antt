-- Laws of going over the live paths: what is put in is put in at every live slot, and nowhere else.
use Prim.Native.Nat.{ℕ, zero, suc, ◌+◌, ◌-◌, ◌≤◌, ◌<◌}
use mathlib.Core.Path.{◌≡◌, refl, sym, ap, ◌∙◌, subst}
use mathlib.Core.Bool.{Bool, true, false, cond, not}
use mathlib.Core.List.{List}
use native.Mathlib.Numerals.{add-one, sub-one}
use native.Mathlib.Omega.{arith}
use native.Mathlib.Decide.{ℕ_discrete}
use lib.Dec.{T, T_not}
use lib.IntN.{ℤ, pos}
use lib.ListN.{length, set, length-set}
use lib.Seq.{get_or-set_same, get_or-set_other}
use Rattle.ground.specs.Lists.{at, table}
use Rattle.ground.proofs.Bools.{cond-case}
use Rattle.ground.proofs.Lists.{is_table}
use Rattle.settings.specs.Settings.{slots}
use Rattle.settings.specs.declared.Settings.{Settings}
use Rattle.paths.specs.Slots.{below, above, last_relay, level, live, members_of, rounds_left}
use Rattle.paths.specs.Walk.{may, through, put_in, put_below}
use Rattle.paths.proofs.Levels.{level_0, level_zero, level_small, level-above, below-above}
use Rattle.paths.proofs.Live.{live-slot, live-level, live_zero, live_own, live-above, below-lengthens}
use Rattle.paths.proofs.Handed.{left_own, left_other, Down, down_more, down_first}

-- ---- the two cases, and one card more

module _ (f : List Bool → ℕ → ℕ → ℕ → ℤ) (members : List Bool) (r d k : ℕ) (l : List ℤ) where
  pub put_last : {v : ℤ} → r ≡ 0 → v ≡ f members r d k → set l k v ≡ put_in f members r d k l
  put_last e g = rw g (go r e)
    where
      go : (r : ℕ) → r ≡ 0 → set l k (f members r d k) ≡ put_in f members r d k l
      go zero e = unfold put_in in refl
      go (suc r) e = absurd (omega arith)

  pub put_more : {v : ℤ} {us : List ℤ} → (r ≡ 0 → ⊥) → v ≡ f members r d k → us ≡ put_below f members (r - 1) d k 10 l → set us k v ≡ put_in f members r d k l
  put_more n g h = rw (g, h) (go r n)
    where
      go : (r : ℕ) → (r ≡ 0 → ⊥) → set (put_below f members (r - 1) d k 10 l) k (f members r d k) ≡ put_in f members r d k l
      go zero n = absurd (n refl)
      go (suc r) n = unfold put_in in (rw sub-one)

module _ (passes : ℕ → Bool) (f : ℕ → List ℤ → List ℤ) (l : List ℤ) where
  pub through_yes : (c : ℕ) {us : List ℤ} → passes c ≡ true → us ≡ f c (through passes f c l) → us ≡ through passes f (c + 1) l
  unfolding through
  through_yes c t e = rw (add-one, t) e

  pub through_no : (c : ℕ) {us : List ℤ} → passes c ≡ false → us ≡ through passes f c l → us ≡ through passes f (c + 1) l
  unfolding through
  through_no c t e = rw (add-one, t) e

  -- all ten
  pub through-all : (c : ℕ) {us : List ℤ} → c ≤ 10 → 10 ≤ c → us ≡ through passes f c l → us ≡ through passes f 10 l
  through-all c h g e = let ten : c ≡ 10 = omega arith in e ∙ ap (λ (n : ℕ). through passes f n l) ten

  -- what every card that passes keeps
  through_keeps : (P : List ℤ → Type 0) (c : ℕ) → ((q : ℕ) → q < c → T (passes q) → (us : List ℤ) → P us → P (f q us)) → P l → P (through passes f c l)
  unfolding through
  through_keeps P zero h p = p
  through_keeps P (suc c) h p =
      let ih = through_keeps P c (λ q g. h q (omega arith)) p in
      cond-case P (passes c) _ _ (λ t. h c (omega arith) t _ ih) (λ t. ih)

  -- what one card that passes makes, where it finds B, and every other keeps
  through_makes : (B P : List ℤ → Type 0) (c : ℕ) → ((q : ℕ) → q < c → T (passes q) → (us : List ℤ) → B us → B (f q us)) → ((q : ℕ) → q < c → T (passes q) → (us : List ℤ) → P us → P (f q us)) → (q : ℕ) → q < c → T (passes q) → ((us : List ℤ) → B us → P (f q us)) → B l → P (through passes f c l)
  unfolding through
  through_makes B P zero b h q g t m p = absurd (omega arith)
  through_makes B P (suc c) b h q g t m p = go (ℕ_discrete q c) (λ l. through_makes B P c (λ s k. b s (omega arith)) (λ s k. h s (omega arith)) q l t m p)
    where
      go : Dec (q ≡ c) → (q < c → P (through passes f c l)) → P (cond (passes c) (f c (through passes f c l)) (through passes f c l))
      go (yes e) ih = cond-case P (passes c) _ _ (λ u. subst (λ (s : ℕ). P (f s (through passes f c l))) e (m _ (through_keeps B c (λ s k. b s (omega arith)) p))) (λ u. absurd (T_not (passes c) u (subst (λ (s : ℕ). T (passes s)) e t)))
      go (no n) ih = cond-case P (passes c) _ _ (λ u. h c (omega arith) u _ (ih (omega arith))) (λ u. ih (omega arith))

-- the list keeps its length
module _ (f : List Bool → ℕ → ℕ → ℕ → ℤ) where
  pub length_put : (r d k : ℕ) (members : List Bool) (l : List ℤ) → length (put_in f members r d k l) ≡ length l
  unfolding put_in
  length_put zero d k members l = length-set l k _
  length_put (suc r) d k members l =
      length-set (put_below f members r d k 10 l) k _
      ∙ through_keeps _ _ l (λ us. length us ≡ length l) 10 (λ q g t us e. length_put r (d + 1) (below k q) (set members q false) us ∙ e) refl

  pub length-below : (r d k c : ℕ) (members : List Bool) (l : List ℤ) → length (put_below f members r d k c l) ≡ length l
  length-below r d k c members l = through_keeps _ _ l (λ us. length us ≡ length l) c (λ q g t us e. length_put r (d + 1) (below k q) (set members q false) us ∙ e) refl

-- ---- the slot e levels above j

unfoldable up : ℕ → ℕ → ℕ
up zero j = j
up (suc e) j = above (up e j)

up_is_live : (s : Settings) (e j : ℕ) → T (live s j) → e ≤ level j → T (live s (up e j)) × (level (up e j) + e ≡ level j)
unfolding up
up_is_live s zero j t h = (t, omega arith)
up_is_live s (suc e) j t h = go (level (up e j)) refl (up_is_live s e j t (omega arith))
  where
    go : (l : ℕ) → level (up e j) ≡ l → T (live s (up e j)) × (level (up e j) + e ≡ level j) → T (live s (above (up e j))) × (level (above (up e j)) + suc e ≡ level j)
    go zero q ih = absurd (omega (arith, ih.1))
    go (suc l) q ih = (live-above s (up e j) l ih.0 q, omega (arith, ih.1, level-above (up e j) l (live-slot s (up e j) ih.0) q))

-- ---- every word that is put in is w's, at its slot

abbrev pub Right : Settings → (List Bool → ℕ → ℕ → ℕ → ℤ) → (ℕ → ℤ) → Type 0
Right s f w = (r d k : ℕ) (members : List Bool) → Down s r d k members → f members r d k ≡ w k

module _ (s : Settings) (f : List Bool → ℕ → ℕ → ℕ → ℤ) (w : ℕ → ℤ) (right : Right s f w) (o : s.p ≡ s.t → ⊥) (few : s.rack.m ≤ 3) where
  -- what every right word that is put in keeps
  module _ (P : List ℤ → Type 0) (keep : (us : List ℤ) (i : ℕ) → T (live s i) → P us → P (set us i (w i))) where
    put_keeps : (r d k : ℕ) (members : List Bool) → Down s r d k members → (l : List ℤ) → P l → P (put_in f members r d k l)
    unfolding put_in
    put_keeps zero d k members h l p = rw (right _ _ _ _ h) (keep l k h.alive p)
    put_keeps (suc r) d k members h l p =
        rw (right _ _ _ _ h)
        (keep _ k h.alive
        (through_keeps _ _ l P 10 (λ q g t us. put_keeps r (d + 1) (below k q) (set members q false) (down_more s o few h q g t) us) p))

  -- a word is put in at every live slot e levels below k
  module _ (j : ℕ) (u : T (live s j)) where
    abbrev Whole : List ℤ → Type 0
    Whole us = length us ≡ slots

    abbrev Stands : List ℤ → Type 0
    Stands us = (length us ≡ slots) × (at us j ≡ w j)

    whole_keep : (us : List ℤ) (i : ℕ) → T (live s i) → Whole us → Whole (set us i (w i))
    whole_keep us i t e = length-set us i _ ∙ e

    stands_keep : (us : List ℤ) (i : ℕ) → T (live s i) → Stands us → Stands (set us i (w i))
    stands_keep us i t p = (length-set us i _ ∙ p.0, go (ℕ_discrete j i))
      where
        go : Dec (j ≡ i) → at (set us i (w i)) j ≡ w j
        go (yes e) = rw e (get_or-set_same us i _ (pos 0) (omega (arith, p.0, live-slot s i t)))
        go (no n) = get_or-set_other us i j _ (pos 0) n ∙ p.1

    reached : (e r d k : ℕ) (members : List Bool) → Down s r d k members → e ≤ r → e ≤ level j → up e j ≡ k → (l : List ℤ) → Whole l → Stands (put_in f members r d k l)
    unfolding up put_in
    reached zero r d k members h a m q l z = go r h
      where
        put : (us : List ℤ) → Whole us → Stands (set us k (w k))
        put us e = rw q (length-set us k _ ∙ e, get_or-set_same us k _ (pos 0) (omega (arith, live-slot s k h.alive)))

        go : (r : ℕ) → Down s r d k members → Stands (put_in f members r d k l)
        go zero h = rw (right _ _ _ _ h) (put l z)
        go (suc r) h = rw (right _ _ _ _ h) (put (put_below f members r d k 10 l) (length-below f r d k 10 members l ∙ z))
    reached (suc e) zero d k members h a m q l z = absurd (omega arith)
    reached (suc e) (suc r) d k members h a m q l z =
        rw (right _ _ _ _ h)
        (stands_keep (put_below f members r d k 10 l) k h.alive
        (through_makes (may members) (λ (i : ℕ). put_in f (set members i false) r (d + 1) (below k i)) l Whole Stands 10
        (λ i g t us. put_keeps Whole whole_keep r (d + 1) (below k i) (set members i false) (down_more s o few h i g t) us)
        (λ i g t us. put_keeps Stands stands_keep r (d + 1) (below k i) (set members i false) (down_more s o few h i g t) us)
        relay ten passes
        (λ us. reached e r (d + 1) (below k relay) (set members relay false) (down_more s o few h relay ten passes) (omega arith) (omega arith) (sym back) us)
        z))
      where
        relay : ℕ
        relay = last_relay (up e j)

        next : T (live s (up e j)) × (level (up e j) + e ≡ level j)
        next = up_is_live s e j u (omega arith)

        over : 0 < up e j
        over = go (up e j) refl
          where
            go : (i : ℕ) → up e j ≡ i → 0 < i
            go zero z = absurd (omega (arith, next.1, ap level z, level_0 0 (omega arith)))
            go (suc i) z = omega arith

        ten : relay < 10
        ten = omega arith

        back : below k relay ≡ up e j
        back = ap (λ (i : ℕ). below i relay) (sym q) ∙ below-above (up e j) over

        passes : T (may members relay)
        passes = subst T (sym (h.handed relay ten)) (below-lengthens s k relay ten (level_small k (live-slot s k h.alive) (omega (arith, h.deep, h.left))) (subst (λ (i : ℕ). T (live s i)) (sym back) next.0))

-- ---- from slot 0

module _ (s : Settings) (f : List Bool → ℕ → ℕ → ℕ → ℤ) (w : ℕ → ℤ) (l : List ℤ) (few : s.rack.m ≤ 3) (long : length l ≡ slots) where
  abbrev put : List ℤ
  put = put_in f (members_of s 0) (rounds_left s 0) 0 0 l

  put_table : ((k : ℕ) → T (live s k) → at put k ≡ w k) → ((k : ℕ) → T (not (live s k)) → at put k ≡ at l k) → put ≡ table slots 0 (λ k. cond (live s k) (w k) (at l k))
  put_table lives others =
      is_table slots _ (pos 0) put (length_put f (rounds_left s 0) 0 0 (members_of s 0) l ∙ long)
      (λ k h. cond-case (λ x. at put k ≡ x) (live s k) _ _ (lives k) (others k))

  -- p is t: slot 0 is the only live one
  put_own : s.p ≡ s.t → w 0 ≡ f (members_of s 0) (rounds_left s 0) 0 0 → put ≡ table slots 0 (λ k. cond (live s k) (w k) (at l k))
  put_own e right = put_table (λ k t. rw (live_own s k e t) (ap (λ (l : List ℤ). at l 0) only ∙ get_or-set_same l 0 _ (pos 0) (omega arith)))
      (λ k n. ap (λ (l : List ℤ). at l k) only ∙ get_or-set_other l 0 k _ (pos 0) (λ z. T_not (live s k) n (rw z (live_zero s))))
    where
      only : put ≡ set l 0 (w 0)
      only = sym (put_last f (members_of s 0) (rounds_left s 0) 0 0 l (left_own s 0 e) right)

  put_other : Right s f w → (s.p ≡ s.t → ⊥) → put ≡ table slots 0 (λ k. cond (live s k) (w k) (at l k))
  put_other right o = put_table
      (λ k t. (reached s f w right o few k t (level k) (rounds_left s 0) 0 0 (members_of s 0) (down_first s o) (omega (arith, left_other s 0 o, live-level s k t)) (omega arith) (at_top k t) l long).1)
      (λ k n. put_keeps s f w right o few (λ us. at us k ≡ at l k) (λ us j t e. get_or-set_other us j k _ (pos 0) (λ z. T_not (live s k) n (rw z t)) ∙ e) (rounds_left s 0) 0 0 (members_of s 0) (down_first s o) l refl)
    where
      at_top : (k : ℕ) → T (live s k) → up (level k) k ≡ 0
      at_top k t =
          let (u, e) = up_is_live s (level k) k t (omega arith) in
          level_zero (up (level k) k) (live-slot s (up (level k) k) u) (omega arith)

  -- w at every live slot, and what was there at every other
  pub put_is : ((s.p ≡ s.t → ⊥) → Right s f w) → (s.p ≡ s.t → w 0 ≡ f (members_of s 0) (rounds_left s 0) 0 0) → put ≡ table slots 0 (λ k. cond (live s k) (w k) (at l k))
  put_is right own = go (ℕ_discrete s.p s.t)
    where
      go : Dec (s.p ≡ s.t) → put ≡ table slots 0 (λ k. cond (live s k) (w k) (at l k))
      go (yes e) = put_own e (own e)
      go (no o) = put_other (right o) o

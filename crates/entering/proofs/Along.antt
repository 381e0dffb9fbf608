-- Laws of votes re-made at some slots, one after the other.
use Prim.Native.Nat.{ℕ, zero, suc, ◌<◌}
use mathlib.Core.Path.{◌≡◌, refl, sym, ap, ◌∙◌}
use mathlib.Core.Bool.{Bool, true, false, cond}
use mathlib.Core.List.Memᴰ
use mathlib.Core.List.{List, [], ◌∷◌, Memᴰ}
use mathlib.Core.Logic.{◌⊎◌, inl, inr, ⊎_elim}
use native.Mathlib.Omega.{arith}
use lib.Dec.{T, eqb, eqb→eq, eqb_refl, T_not}
use lib.IntN.{ℤ, pos}
use lib.ListN.{length, set, length-set}
use lib.Seq.{get_or-set_same, get_or-set_other}
use borrow.Author.Tests.{eqb-true, eqb-false}
use Rattle.ground.specs.Lists.{at}
use Rattle.ground.proofs.Bools.{cond-case}
use Rattle.words.specs.Rule.{Rule}
use Rattle.words.proofs.Lawful.{Lawful}
use Rattle.settings.specs.Settings.{slots}
use Rattle.settings.specs.declared.Settings.{Settings}
use Rattle.paths.specs.Slots.{below, above, level, way_by, way, live}
use Rattle.paths.proofs.Levels.{level-above, pos_level}
use Rattle.paths.proofs.Live.{live-slot, live-above}
use Rattle.vote.specs.Vote.{vote}
use Rattle.vote.proofs.Longer.{Longer}
use Rattle.vote.proofs.Votes.{from_same, vote_is, vote-read}
use Rattle.entering.specs.Entered.{remade, remade_along}

-- what a list holds at j after a store at k
pub at_set : (l : List ℤ) (k j : ℕ) (v : ℤ) → k < length l → at (set l k v) j ≡ cond (eqb k j) v (at l j)
at_set l k j v h = go (eqb k j) refl
  where
    go : (b : Bool) → eqb k j ≡ b → at (set l k v) j ≡ cond b v (at l j)
    go true e = rw (← eqb-true k j e) (get_or-set_same l k v (pos 0) h)
    go false e = get_or-set_other l k j v (pos 0) (λ q. eqb-false k j e (sym q))

-- ---- slots at which votes are re-made, higher slots first

-- live slots below n, each lower than the one before
abbrev pub Falls : Settings → ℕ → List ℕ → Type 0
Falls s n [] = Unit {0}
Falls s n (k ∷ ks) = (k < n) × T (live s k) × Falls s k ks

-- each of them is below n
falls_in : (s : Settings) (n : ℕ) (ks : List ℕ) (j : ℕ) → Falls s n ks → Memᴰ j ks → j < n
falls_in s n [] j f m = absurd (Memᴰ.not-nil m)
falls_in s n (k ∷ ks) j f m = go (Memᴰ.cases_cons m) (falls_in s k ks j f.2)
  where
    go : (j ≡ k) ⊎ Memᴰ j ks → (Memᴰ j ks → j < k) → j < n
    go (inl e) ih = rw e f.0
    go (inr m) ih = omega (arith, ih m, f.0)

-- the way up from a live slot is such
pub way_falls : (s : Settings) (k : ℕ) → T (live s k) → Falls s (suc k) (way k)
unfolding way_by
way_falls s k t = go (level k) k (suc k) refl t (omega arith)
  where
    go : (d k n : ℕ) → level k ≡ d → T (live s k) → k < n → Falls s n (way_by d k)
    go zero k n e t h = (h, t, tt)
    go (suc d) k n e t h =
        let p : 0 < k = pos_level k d e in
        (h, t, go d (above k) k (level-above k d (live-slot s k t) e) (live-above s k d t e) (omega arith))

-- ---- votes re-made at slots

-- every live held vote off the slots ks is the vote from the words
abbrev RightOff : Rule → Settings → List ℤ → List ℕ → List ℤ → Type 0
RightOff R s ws ks vs = (j : ℕ) → T (live s j) → (Memᴰ j ks → ⊥) → at vs j ≡ vote R s ws j

module _ (R : Rule) (s : Settings) (ws : List ℤ) where
  -- the list keeps its length
  pub length_along : (ks : List ℕ) (vs : List ℤ) → length (remade_along R s ws ks vs) ≡ length vs
  unfolding remade_along
  length_along [] vs = refl
  length_along (k ∷ ks) vs = length_along ks _ ∙ length-set vs k _

  -- no vote changes but those re-made
  pub along_other : (ks : List ℕ) (vs : List ℤ) (j : ℕ) → (Memᴰ j ks → ⊥) → at (remade_along R s ws ks vs) j ≡ at vs j
  unfolding remade_along
  along_other [] vs j off = refl
  along_other (k ∷ ks) vs j off =
      along_other ks _ j (λ m. off (Memᴰ.tail m)) ∙ get_or-set_other vs k j _ (pos 0) (λ e. off (Memᴰ.head e))

  module _ (L : Lawful R) where
    -- a re-made vote is the vote from the words where the held votes one relay longer are
    remade-right : (vs : List ℤ) (k : ℕ) → T (live s k) → Longer s k (λ j. at vs j ≡ vote R s ws j) → remade R s ws vs k ≡ vote R s ws k
    unfolding remade
    remade-right vs k t h =
        from_same R s ws ws _ _ k refl (λ n q a b u. ap (R.read (level (below k q))) (h q a b u) ∙ vote-read R s L ws (below k q))
        ∙ sym (vote_is R s ws k t)

    -- live held votes that are the votes from the words off some slots are so everywhere once those are re-made, higher slots first
    pub along_right : (n : ℕ) (ks : List ℕ) (vs : List ℤ) → Falls s n ks → length vs ≡ slots → RightOff R s ws ks vs → (j : ℕ) → T (live s j) → at (remade_along R s ws ks vs) j ≡ vote R s ws j
    unfolding remade_along
    along_right n [] vs f z h j u = h j u Memᴰ.not-nil
    along_right n (k ∷ ks) vs f z h j u = along_right k ks (set vs k (remade R s ws vs k)) f.2 (length-set vs k _ ∙ z) next j u
      where
        right : remade R s ws vs k ≡ vote R s ws k
        right = remade-right vs k f.1 (λ q a b t. h (below k q) t (λ m. omega (arith, falls_in s (suc k) (k ∷ ks) (below k q) (omega arith, f.1, f.2) m)))

        next : RightOff R s ws ks (set vs k (remade R s ws vs k))
        next j t off =
            at_set vs k j _ (omega (arith, live-slot s k f.1))
            ∙ cond-case (λ x. x ≡ vote R s ws j) (eqb k j) _ _
            (λ e. right ∙ ap (vote R s ws) (eqb→eq k j e))
            (λ n. h j t (λ m. ⊎_elim (λ (e : j ≡ k). T_not (eqb k j) n (rw e (eqb_refl k))) off (Memᴰ.cases_cons m)))

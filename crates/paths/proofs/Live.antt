-- Laws of the live paths.
use mathlib.Core.Path.{◌≡◌, refl, sym, subst}
use Prim.Native.Nat.{ℕ, suc, ◌≤◌, ◌<◌}
use mathlib.Core.Bool.{Bool, true, false, not, ◌&&◌, ◌||◌}
use mathlib.Core.List.{List, ◌∷◌}
use native.Mathlib.Omega.{arith}
use lib.Dec.{T, ltb, leb, eqb, ltb→lt, lt→ltb, leb→le, le→leb, eqb→eq, eqb_refl, T_not, not_T}
use Rattle.ground.specs.Lists.{all}
use Rattle.settings.specs.declared.Settings.{Settings}
use Rattle.paths.specs.Slots.{below, above, last_relay, level, relays_by, relays, none_of, different, may_relay, live, lengthens}
use Rattle.ground.proofs.Bools.{and_left, and_right, and_both, or_right, or_drop, iff_eq}
use Rattle.paths.proofs.Levels.{level-above, level-below, pos_level, relays-below}

module _ (s : Settings) (k : ℕ) (h : T (live s k)) where
  pub live-slot : k < 1111
  unfolding live
  live-slot = ltb→lt k 1111 (and_left (ltb k 1111) _ h)

  live1 : T (leb (level k) s.rack.m && (all (may_relay s) (relays k) && (different (relays k) && (eqb k 0 || not (eqb s.p s.t)))))
  unfolding live
  live1 = and_right (ltb k 1111) _ h

  pub live-level : level k ≤ s.rack.m
  live-level = leb→le (level k) s.rack.m (and_left (leb (level k) s.rack.m) _ live1)

  live2 : T (all (may_relay s) (relays k) && (different (relays k) && (eqb k 0 || not (eqb s.p s.t))))
  live2 = and_right (leb (level k) s.rack.m) _ live1

  pub live-relays : T (all (may_relay s) (relays k))
  live-relays = and_left (all (may_relay s) (relays k)) _ live2

  live3 : T (different (relays k) && (eqb k 0 || not (eqb s.p s.t)))
  live3 = and_right (all (may_relay s) (relays k)) _ live2

  pub live-different : T (different (relays k))
  live-different = and_left (different (relays k)) _ live3

  pub live-sender : T (eqb k 0 || not (eqb s.p s.t))
  live-sender = and_right (different (relays k)) _ live3

pub live_of : (s : Settings) (k : ℕ) → k < 1111 → level k ≤ s.rack.m → T (all (may_relay s) (relays k)) → T (different (relays k)) → T (eqb k 0 || not (eqb s.p s.t)) → T (live s k)
unfolding live
live_of s k a b c d e =
    and_both (ltb k 1111) _ (lt→ltb k 1111 a)
    (and_both (leb (level k) s.rack.m) _ (le→leb (level k) s.rack.m b)
    (and_both (all (may_relay s) (relays k)) _ c (and_both (different (relays k)) _ d e)))

-- slot 0 is live, whatever the settings
pub live_zero : (s : Settings) → T (live s 0)
unfolding relays_by all different level
live_zero s = live_of s 0 (omega arith) (omega arith) tt tt tt

-- p is not t
pub apart_of : (s : Settings) → (s.p ≡ s.t → ⊥) → T (not (eqb s.p s.t))
apart_of s o = not_T (eqb s.p s.t) (λ t. o (eqb→eq s.p s.t t))

-- if p is t only slot 0 is live
pub live_own : (s : Settings) (k : ℕ) → s.p ≡ s.t → T (live s k) → k ≡ 0
live_own s k e t = go (eqb k 0) refl
  where
    go : (b : Bool) → eqb k 0 ≡ b → k ≡ 0
    go true q = eqb→eq k 0 (subst T (sym q) tt)
    go false q = absurd (T_not (eqb s.p s.t) (or_drop (eqb k 0) (not (eqb s.p s.t)) (live-sender s k t) (λ u. subst T q u)) (subst (λ (x : ℕ). T (eqb s.p x)) e (eqb_refl s.p)))

all_tail : (f : ℕ → Bool) (q : ℕ) (qs : List ℕ) → T (all f (q ∷ qs)) → T (all f qs)
unfolding all
all_tail f q qs t = and_right (f q) _ t

different_tail : (q : ℕ) (qs : List ℕ) → T (different (q ∷ qs)) → T (different qs)
unfolding different
different_tail q qs t = and_right (none_of q qs) _ t

-- where p is not t, or the slot is over 0 and live
apart : (s : Settings) (k : ℕ) → 0 < k → T (live s k) → T (not (eqb s.p s.t))
apart s k p t = or_drop (eqb k 0) (not (eqb s.p s.t)) (live-sender s k t) (λ u. let z : k ≡ 0 = eqb→eq k 0 u in omega arith)

-- the slot above a live slot is live
pub live-above : (s : Settings) (k d : ℕ) → T (live s k) → level k ≡ suc d → T (live s (above k))
unfolding relays_by
live-above s k d h e =
    let lt : k < 1111 = live-slot s k h in
    let la : level (above k) ≡ d = level-above k d lt e in
    let lv : level k ≤ s.rack.m = live-level s k h in
    let r : T (all (may_relay s) (relays_by (suc d) k)) = rw e at (live-relays s k h) in
    let f : T (different (relays_by (suc d) k)) = rw e at (live-different s k h) in
    live_of s (above k) (omega arith) (omega arith)
    (rw la (all_tail (may_relay s) (last_relay k) (relays_by d (above k)) r))
    (rw la (different_tail (last_relay k) (relays_by d (above k)) f))
    (or_right (eqb (above k) 0) _ (apart s k (pos_level k d e) h))

-- ---- the live paths directly below a live path are those by the cards that may relay and are not on it

module _ (s : Settings) (k q : ℕ) (g : q < 10) where
  pub below-lengthens : k < 111 → T (live s (below k q)) → T (lengthens s k q)
  unfolding all different lengthens
  below-lengthens h u =
      let r : relays (below k q) ≡ q ∷ relays k = relays-below k q h g in
      let a : T (all (may_relay s) (q ∷ relays k)) = subst (λ (l : List ℕ). T (all (may_relay s) l)) r (live-relays s (below k q) u) in
      let b : T (different (q ∷ relays k)) = subst (λ (l : List ℕ). T (different l)) r (live-different s (below k q) u) in
      and_both (may_relay s q) _ (and_left (may_relay s q) _ a) (and_left (none_of q (relays k)) _ b)

  pub lengthens-below : T (live s k) → level k < s.rack.m → k < 111 → T (not (eqb s.p s.t)) → T (lengthens s k q) → T (live s (below k q))
  unfolding all different lengthens
  lengthens-below t l h n w =
      let r : relays (below k q) ≡ q ∷ relays k = relays-below k q h g in
      let e : level (below k q) ≡ suc (level k) = level-below k q h g in
      live_of s (below k q) (omega arith) (omega arith)
      (subst (λ (l : List ℕ). T (all (may_relay s) l)) (sym r) (and_both (may_relay s q) _ (and_left (may_relay s q) _ w) (live-relays s k t)))
      (subst (λ (l : List ℕ). T (different l)) (sym r) (and_both (none_of q (relays k)) _ (and_right (may_relay s q) _ w) (live-different s k t)))
      (or_right (eqb (below k q) 0) _ n)

  pub live_below : T (live s k) → level k < s.rack.m → k < 111 → T (not (eqb s.p s.t)) → live s (below k q) ≡ lengthens s k q
  live_below t l h n = iff_eq _ _ (below-lengthens h) (lengthens-below t l h n)

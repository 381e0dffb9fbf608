-- What the last relay of a live path received.
use Prim.Native.Nat.{ℕ, ◌<◌}
use mathlib.Core.Bool.{Bool, not, ◌&&◌}
use mathlib.Core.List.{List, [], ◌∷◌}
use lib.Dec.{T, eqb, eqb→eq, eqb_refl, T_not, not_T}
use Rattle.ground.specs.Lists.{all}
use Rattle.settings.specs.Settings.{fits}
use Rattle.settings.specs.declared.Settings.{Settings}
use Rattle.paths.specs.Slots.{above, last_relay, relays, none_of, different, may_relay, live}
use Rattle.ground.proofs.Bools.{and_left, and_right, and_both, or_right}
use Rattle.paths.proofs.Levels.{level_pos, relays_cons}
use Rattle.paths.proofs.Live.{live-slot, live-level, live-relays, live-different, live_of, live-above}

-- the same settings for another card
abbrev pub owned_by : Settings → ℕ → Settings
owned_by s q = record { rack = s.rack; t = s.t; p = q }

all_with : (f g h : ℕ → Bool) → ((q : ℕ) → T (f q) → T (g q) → T (h q)) → (qs : List ℕ) → T (all f qs) → T (all g qs) → T (all h qs)
unfolding all
all_with f g h e [] a b = tt
all_with f g h e (q ∷ qs) a b = and_both (h q) _ (e q (and_left (f q) _ a) (and_left (g q) _ b)) (all_with f g h e qs (and_right (f q) _ a) (and_right (g q) _ b))

-- a card that may relay, and is not q, may relay for q
may_for : (s : Settings) (q r : ℕ) → T (may_relay s r) → T (not (eqb q r)) → T (may_relay (owned_by s q) r)
unfolding may_relay
may_for s q r a n =
    and_both (fits s.rack r) _ (and_left (fits s.rack r) _ a)
    (and_both (not (eqb r s.t)) _ (and_left (not (eqb r s.t)) _ (and_right (fits s.rack r) _ a)) (not_T (eqb r q) (λ t. T_not (eqb q r) n (rw (eqb→eq r q t) (eqb_refl q)))))

-- the last relay of a live path is fitted, and the slot above is live for it
pub relay_received : (s : Settings) (k : ℕ) → T (live s k) → 0 < k → T (fits s.rack (last_relay k)) × T (live (owned_by s (last_relay k)) (above k))
unfolding all different none_of may_relay
relay_received s k t p =
    let h = live-slot s k t in
    let q = last_relay k in
    let rs = relays (above k) in
    let a : T (may_relay s q && all (may_relay s) rs) = rw (relays_cons k h p) at (live-relays s k t) in
    let b : T (none_of q rs && different rs) = rw (relays_cons k h p) at (live-different s k t) in
    let up = let (d, e) = level_pos k h p in live-above s k d t e in
    let may = and_left (may_relay s q) _ a in (
      and_left (fits s.rack q) _ may,
      live_of (owned_by s q) (above k) (live-slot s (above k) up) (live-level s (above k) up)
          (all_with (may_relay s) (λ r. not (eqb q r)) (may_relay (owned_by s q)) (may_for s q) rs (and_right (may_relay s q) _ a) (and_left (none_of q rs) _ b))
          (and_right (none_of q rs) _ b)
          (or_right (eqb (above k) 0) _ (and_left (not (eqb q s.t)) _ (and_right (fits s.rack q) _ may))),
    )

-- What is handed down to a path: the cards that may lengthen it, the rounds left, and room for them.
use Prim.Native.Nat.{ℕ, zero, suc, ◌+◌, ◌-◌, ◌≤◌, ◌<◌}
use mathlib.Core.Path.{◌≡◌, refl, sym, ap, ◌∙◌, subst}
use mathlib.Core.Bool.{Bool, true, false, not, ◌&&◌, and-false}
use mathlib.Core.List.{List}
use native.Mathlib.Numerals.{add-one}
use native.Mathlib.Omega.{arith}
use native.Mathlib.Decide.{ℕ_discrete}
use lib.Dec.{T, eqb}
use lib.ListN.{length, set, length-set}
use lib.Seq.{set-set, set-get_or, get_or-set_same, get_or-set_other}
use borrow.Author.Tests.{eq-eqb, ne_eqb}
use Rattle.ground.specs.Lists.{all}
use Rattle.ground.proofs.Lists.{length-table, at_table}
use Rattle.settings.specs.declared.Settings.{Settings}
use Rattle.paths.specs.Slots.{below, level, relays, none_of, may_relay, live, lengthens, members_of, rounds_left}
use Rattle.paths.specs.Walk.{may, room}
use Rattle.paths.proofs.Levels.{by_level, level_small, level-below, relays-below}
use Rattle.paths.proofs.Live.{live-slot, live-level, live_zero, lengthens-below, apart_of}

-- ---- the members

-- the cards that may lengthen the path at k, as the list says
abbrev pub Handed : Settings → List Bool → ℕ → Type 0
Handed s members k = (q : ℕ) → q < 10 → may members q ≡ lengthens s k q

pub handed_table : (s : Settings) (k : ℕ) → Handed s (members_of s k) k
handed_table s k q h = at_table 10 0 (lengthens s k) q false h ∙ ap (lengthens s k) (omega arith)

-- one relay longer, the relay itself may not relay again, and the others go on as before
module _ (s : Settings) (k q r : ℕ) (h : k < 111) (g : q < 10) where
  lengthens-longer : lengthens s (below k q) r ≡ (may_relay s r && (not (eqb r q) && none_of r (relays k)))
  unfolding lengthens none_of all
  lengthens-longer = rw (relays-below k q h g)

  lengthens_itself : r ≡ q → lengthens s (below k q) r ≡ false
  lengthens_itself e = lengthens-longer ∙ ap (λ (b : Bool). may_relay s r && (not b && none_of r (relays k))) (eq-eqb r q e) ∙ and-false (may_relay s r)

  lengthens-other : (r ≡ q → ⊥) → lengthens s (below k q) r ≡ lengthens s k r
  unfolding lengthens
  lengthens-other n = lengthens-longer ∙ rw (ne_eqb r q n)

pub handed_below : (s : Settings) (members : List Bool) (k q : ℕ) → length members ≡ 10 → k < 111 → q < 10 → Handed s members k → Handed s (set members q false) (below k q)
handed_below s members k q e h g m r l = go (ℕ_discrete r q)
  where
    go : Dec (r ≡ q) → may (set members q false) r ≡ lengthens s (below k q) r
    go (yes e') = ap (may (set members q false)) e' ∙ get_or-set_same members q false false (omega arith) ∙ sym (lengthens_itself s k q r h g e')
    go (no n) = get_or-set_other members q r false false n ∙ m r l ∙ sym (lengthens-other s k q r h g n)

-- the card that relayed is put back
pub put_back : (members held : List Bool) (q : ℕ) → may members q ≡ true → held ≡ set members q false → set held q true ≡ members
put_back members held q t e = rw (e, set-set, ← t) (set-get_or members q false)

-- ---- the rounds left

module _ (s : Settings) (d : ℕ) where
  pub left_own : s.p ≡ s.t → rounds_left s d ≡ 0
  unfolding rounds_left
  left_own e = rw (eq-eqb s.p s.t e)

  pub left_other : (s.p ≡ s.t → ⊥) → rounds_left s d ≡ s.rack.m - d
  unfolding rounds_left
  left_other o = rw (ne_eqb s.p s.t o)

  -- no more than there are
  pub left_few : rounds_left s d ≤ s.rack.m
  left_few = go (ℕ_discrete s.p s.t)
    where
      go : Dec (s.p ≡ s.t) → rounds_left s d ≤ s.rack.m
      go (yes e) = omega (arith, left_own e)
      go (no o) = omega (arith, left_other o)

-- ---- room for the rounds left

-- slot 0 leaves room for any rounds
pub room_zero : (r : ℕ) → 0 < room r
room_zero zero = omega arith
room_zero (suc zero) = omega arith
room_zero (suc (suc zero)) = omega arith
room_zero (suc (suc (suc r))) = omega arith

-- a longer path leaves room for a round less
pub room_less : (r k q : ℕ) → r + 1 ≤ 3 → k < room (r + 1) → q < 10 → below k q < room r
room_less zero k q a b c = omega arith
room_less (suc zero) k q a b c = omega arith
room_less (suc (suc zero)) k q a b c = omega arith
room_less (suc (suc (suc r))) k q a b c = absurd (omega arith)

pub room_most : (r k : ℕ) → k < room r → k < 1111
room_most zero k h = omega arith
room_most (suc zero) k h = omega arith
room_most (suc (suc zero)) k h = omega arith
room_most (suc (suc (suc r))) k h = omega arith

pub room_back : (r : ℕ) → (r ≡ 0 → ⊥) → room (r - 1 + 1) ≡ room r
room_back r n = let e : r - 1 + 1 ≡ r = omega arith in cc

-- a live slot leaves room for the rounds left
live-room : (s : Settings) (k r : ℕ) → T (live s k) → s.rack.m ≤ 3 → r ≡ s.rack.m - level k → k < room r
live-room s k r t few e = go r e
  where
    slot : k < 1111
    slot = live-slot s k t

    go : (r : ℕ) → r ≡ s.rack.m - level k → k < room r
    go zero e = slot
    go (suc zero) e = level_small k slot (omega arith)
    go (suc (suc zero)) e = by_level (λ d. d ≤ 1 → k < 11) k slot (λ a l. omega arith) (λ a b l. b) (λ a b l. absurd (omega arith)) (λ a b l. absurd (omega arith)) (omega arith)
    go (suc (suc (suc r))) e = by_level (λ d. d ≤ 0 → k < 1) k slot (λ a l. a) (λ a b l. absurd (omega arith)) (λ a b l. absurd (omega arith)) (λ a b l. absurd (omega arith)) (omega arith)

-- by its path's rounds
pub path_room : (s : Settings) (k : ℕ) → T (live s k) → s.rack.m ≤ 3 → k < room (rounds_left s (level k))
path_room s k t few = go (ℕ_discrete s.p s.t)
  where
    go : Dec (s.p ≡ s.t) → k < room (rounds_left s (level k))
    go (yes e) = rw (left_own s (level k) e) (live-slot s k t)
    go (no o) = live-room s k _ t few (left_other s (level k) o)

pub path-deep : (s : Settings) (k : ℕ) → T (live s k) → rounds_left s (level k) + level k ≤ s.rack.m
path-deep s k t = go (ℕ_discrete s.p s.t)
  where
    go : Dec (s.p ≡ s.t) → rounds_left s (level k) + level k ≤ s.rack.m
    go (yes e) = omega (arith, left_own s (level k) e, live-level s k t)
    go (no o) = omega (arith, left_other s (level k) o, live-level s k t)

-- ---- all of it

-- what is handed down belongs to the live slot k
pub record Down (s : Settings) (r d k : ℕ) (members : List Bool) : Type 0 where
  pub cards : length members ≡ 10
  pub alive : T (live s k)
  pub deep : level k ≡ d
  pub left : d + r ≡ s.rack.m
  pub handed : Handed s members k

pub down_more : (s : Settings) {r d k : ℕ} {members : List Bool} → (s.p ≡ s.t → ⊥) → s.rack.m ≤ 3 → Down s (suc r) d k members → (q : ℕ) → q < 10 → T (may members q) → Down s r (d + 1) (below k q) (set members q false)
down_more s {r} {d} {k} {members} o few h q g t =
    let small : k < 111 = level_small k (live-slot s k h.alive) (omega (arith, h.deep, h.left)) in
    record {
      cards = length-set members q false ∙ h.cards;
      alive = lengthens-below s k q g h.alive (omega (arith, h.deep, h.left)) small (apart_of s o) (subst T (h.handed q g) t);
      deep = level-below k q small g ∙ ap suc h.deep ∙ sym (add-one d);
      left = omega (arith, h.left);
      handed = handed_below s members k q h.cards small g h.handed;
    }

-- from any live slot, with its path's members and rounds
pub down_path : (s : Settings) (k : ℕ) → (s.p ≡ s.t → ⊥) → T (live s k) → Down s (rounds_left s (level k)) (level k) k (members_of s k)
down_path s k o t = record {
  cards = length-table 10 0 (lengthens s k);
  alive = t;
  deep = refl;
  left = omega (arith, left_other s (level k) o, live-level s k t);
  handed = handed_table s k;
}

-- and from slot 0
pub down_first : (s : Settings) → (s.p ≡ s.t → ⊥) → Down s (rounds_left s 0) 0 0 (members_of s 0)
unfolding level
down_first s o = down_path s 0 o (live_zero s)

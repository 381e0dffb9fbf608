-- Document 01, 'Settings and paths': the slots of paths, and which are live.
use Rattle.std.specs.Prelude.{ℕ, zero, suc, ◌+◌, ◌*◌, ◌-◌, ◌/◌, ◌%◌, Bool, true, cond, not, ◌&&◌, ◌||◌, List, [], ◌∷◌, ltb, leb, eqb}
use Rattle.ground.specs.Lists.{table, all}
use Rattle.settings.specs.Settings.{most_cards, slots, fits}
use Rattle.settings.specs.declared.Settings.{Settings}

-- the slot of the path that is one relay longer than the path at k, by the relay q
abbrev pub below : ℕ → ℕ → ℕ
below k q = 10 * k + 1 + q

-- the slot of a path, given as its relays, the last relay first
unfoldable pub slot_of : List ℕ → ℕ
slot_of [] = 0
slot_of (q ∷ path) = below (slot_of path) q

-- the slot above k, for k over 0
abbrev pub above : ℕ → ℕ
above k = (k - 1) / 10

-- the last relay of the path at k, for k over 0
abbrev pub last_relay : ℕ → ℕ
last_relay k = (k - 1) % 10

-- the level of the path at k; a number over 1,110 is no slot, and gets a level over every m
unfoldable pub level : ℕ → ℕ
level k = cond (ltb k 1) 0 (cond (ltb k 11) 1 (cond (ltb k 111) 2 (cond (ltb k slots) 3 4)))

-- the last d relays of the path at k, the last relay first
unfoldable pub relays_by : ℕ → ℕ → List ℕ
relays_by zero k = []
relays_by (suc d) k = last_relay k ∷ relays_by d (above k)

abbrev pub relays : ℕ → List ℕ
relays k = relays_by (level k) k

-- the slots from k up to slot 0, k first
unfoldable pub way_by : ℕ → ℕ → List ℕ
way_by zero k = k ∷ []
way_by (suc d) k = k ∷ way_by d (above k)

abbrev pub way : ℕ → List ℕ
way k = way_by (level k) k

-- q is none of these cards
unfoldable pub none_of : ℕ → List ℕ → Bool
none_of q qs = all (λ r. not (eqb q r)) qs

unfoldable pub different : List ℕ → Bool
different [] = true
different (q ∷ qs) = none_of q qs && different qs

-- a card of the rack that is neither the sender nor the own card
unfoldable pub may_relay : Settings → ℕ → Bool
may_relay s q = fits s.rack q && (not (eqb q s.t) && not (eqb q s.p))

-- Live for the own card: a slot, its level at most m, its relays of the rack, neither t nor p, and all different; where p is t, slot 0 only.
unfoldable pub live : Settings → ℕ → Bool
live s k =
    ltb k slots
    && (leb (level k) s.rack.m
    && (all (may_relay s) (relays k)
    && (different (relays k)
    && (eqb k 0 || not (eqb s.p s.t)))))

-- q may lengthen the path at k: it may relay, and is not on the path
unfoldable pub lengthens : Settings → ℕ → ℕ → Bool
lengthens s k q = may_relay s q && none_of q (relays k)

-- whether each of the ten cards may lengthen the path at k
abbrev pub members_of : Settings → ℕ → List Bool
members_of s k = table most_cards 0 (lengthens s k)

-- the rounds left at level d; none where p is t
unfoldable pub rounds_left : Settings → ℕ → ℕ
rounds_left s d = cond (eqb s.p s.t) 0 (s.rack.m - d)

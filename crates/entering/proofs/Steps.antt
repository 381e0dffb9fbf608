-- Laws of the loop that re-makes votes on the way up from a slot.
use Prim.Native.Nat.{ℕ, zero, suc, ◌+◌, ◌-◌, ◌≤◌, ◌<◌}
use mathlib.Core.Path.{◌≡◌, refl, sym, ap, ◌∙◌, subst}
use mathlib.Core.Bool.{Bool, true, false}
use mathlib.Core.List.{List, ◌∷◌}
use native.Mathlib.Omega.{arith}
use native.Mathlib.Decide.{ℕ_discrete}
use lib.Dec.{T}
use lib.IntN.{ℤ}
use lib.ListN.{length, set, drop, length-set}
use lib.Seq.{get_or-set_same, get_or-set_other}
use Rattle.ground.specs.Lists.{at}
use Rattle.ground.proofs.Bools.{T_eq}
use Rattle.ground.proofs.Lists.{length-table}
use Rattle.words.specs.Rule.{Rule}
use Rattle.settings.specs.Settings.{slots}
use Rattle.settings.specs.declared.Settings.{Settings}
use Rattle.paths.specs.Slots.{above, last_relay, level, way_by, way, live, lengthens, rounds_left}
use Rattle.paths.specs.Walk.{may}
use Rattle.paths.proofs.Levels.{level_pos, level-above, below-above, way_cons}
use Rattle.paths.proofs.Live.{live-slot, live-level, live_own, live-above, below-lengthens}
use Rattle.paths.proofs.Members.{none-next}
use Rattle.paths.proofs.Handed.{Handed, handed_table, left_other}
use Rattle.vote.specs.Vote.{rule_of, decided}
use Rattle.book.specs.Book.{book_of}
use Rattle.entering.specs.Entered.{remade, remade_along}
use Rattle.entering.specs.Remaking.{held_votes, member_remade, Remakes, Enters}
use Rattle.entering.proofs.Leaf.{left_inner, made_more, remade_handed}

-- ---- one step up

-- the slot above a live slot over 0 is live
up_live : (s : Settings) (k : ℕ) → T (live s k) → 0 < k → T (live s (above k))
up_live s k t p = let (d, e) = level_pos k (live-slot s k t) p in live-above s k d t e

-- a way begins at its slot
way-first : (d k : ℕ) → way_by d k ≡ k ∷ drop 1 (way_by d k)
unfolding way_by
way-first zero k = refl
way-first (suc d) k = refl

-- the votes re-made from slot k up, once its own is
along_step : (R : Rule) (s : Settings) (ws vs : List ℤ) (k : ℕ) {v : ℤ} → v ≡ remade R s ws vs k → remade_along R s ws (drop 1 (way k)) (set vs k v) ≡ remade_along R s ws (way k) vs
unfolding remade_along
along_step R s ws vs k e = rw e (ap (λ (l : List ℕ). remade_along R s ws l vs) (sym (way-first (level k) k)))

-- the last relay may lengthen the path above, and the others go on as before
handed_above : (s : Settings) (members : List Bool) (k : ℕ) → length members ≡ 10 → T (live s k) → 0 < k → Handed s members k → Handed s (set members (last_relay k) true) (above k)
unfolding lengthens
handed_above s members k e t p m q g = go (ℕ_discrete q (last_relay k))
  where
    slot : k < 1111
    slot = live-slot s k t

    itself : lengthens s (above k) (last_relay k) ≡ true
    itself = T_eq _ (below-lengthens s (above k) (last_relay k) (omega arith) (omega (arith, slot)) (subst (λ (j : ℕ). T (live s j)) (sym (below-above k p)) t))

    go : Dec (q ≡ last_relay k) → may (set members (last_relay k) true) q ≡ lengthens s (above k) q
    go (yes r) = rw r (get_or-set_same members (last_relay k) true false (omega arith) ∙ sym itself)
    go (no n) = get_or-set_other members (last_relay k) q true false n ∙ m q g ∙ rw (none-next q k slot p n)

-- and one round more is left
left_above : (s : Settings) (k : ℕ) → T (live s k) → 0 < k → rounds_left s (level (above k)) ≡ rounds_left s (level k) + 1
left_above s k t p =
    let (d, e) = level_pos k (live-slot s k t) p in
    let o : s.p ≡ s.t → ⊥ = λ q. omega (arith, live_own s k q t) in
    omega (arith, left_other s (level k) o, left_other s (level (above k)) o, level-above k d (live-slot s k t) e, live-level s k t)

-- ---- the walk

-- the walk from `slot` has come to k and re-made the vote there: what is handed on belongs to k, and what is left to re-make is the way above k
pub record Climbs (s : Settings) (words votes₀ : List ℤ) (slot : ℕ) (votes : List ℤ) (members : List Bool) (d k : ℕ) : Type 0 where
  pub few : s.rack.m ≤ 3
  pub words_whole : length words ≡ slots
  pub votes_whole : length votes ≡ slots
  pub alive : T (live s k)
  pub cards : length members ≡ 10
  pub handed : Handed s members k
  pub deep : d ≡ level k
  pub same : remade_along (rule_of s.rack) s words (drop 1 (way k)) votes ≡ remade_along (rule_of s.rack) s words (way slot) votes₀

module _ {s : Settings} {ws vs : List ℤ} {members : List Bool} {slot left d : ℕ} (a : Enters s (book_of ws vs) members slot) (g : d ≡ level slot) (e : left ≡ rounds_left s d) where
  rounds : left ≡ rounds_left s (level slot)
  rounds = e ∙ ap (rounds_left s) g

  -- what the re-making at the entered slot is asked
  pub first_asks : Remakes vs members left d slot
  first_asks = record {
    votes_whole = a.whole.votes_long;
    cards = ap length a.here ∙ length-table 10 0 (lengthens s slot);
    deep = omega (arith, g, a.few, live-level s slot a.alive);
    slot = live-slot s slot a.alive;
    inner = λ n. left_inner s slot a.few a.alive (λ z. n (rounds ∙ z));
  }

  -- the walk begins with its vote, and with what the slot's path has
  pub climb_first : {v w : ℤ} → v ≡ member_remade (rule_of s.rack) w vs members left d slot → w ≡ at ws slot → Climbs s ws vs slot (set vs slot v) members d slot
  climb_first {v = v} made own = record {
    few = a.few;
    words_whole = a.whole.words_long;
    votes_whole = length-set vs slot v ∙ a.whole.votes_long;
    alive = a.alive;
    cards = first_asks.cards;
    handed = handed;
    deep = g;
    same = along_step (rule_of s.rack) s ws vs slot
        (made
        ∙ ap (λ (w : ℤ). member_remade (rule_of s.rack) w vs members left d slot) own
        ∙ remade_handed (rule_of s.rack) s ws vs members left d slot a.few a.alive handed rounds g);
  }
    where
      handed : Handed s members slot
      handed = rw a.here (handed_table s slot)

module _ {s : Settings} {ws vs₀ : List ℤ} {slot : ℕ} {vs : List ℤ} {members : List Bool} {d k : ℕ} (c : Climbs s ws vs₀ slot vs members d k) where
  pub climb_level : 0 < k → 0 < d
  climb_level p = let (e, f) = level_pos k (live-slot s k c.alive) p in omega (arith, c.deep)

  pub climb_deep : d ≤ 3
  climb_deep = omega (arith, c.few, c.deep, live-level s k c.alive)

  -- one step up: the vote there is decided from its word and the held votes
  module _ (p : 0 < k) {q j : ℕ} (last : q ≡ last_relay k) (next : j ≡ above k) where
    abbrev members' : List Bool
    members' = set members (last_relay k) true

    -- what is asked of the votes and cards
    pub climb_asks : (length vs ≡ slots) × (length (set members q true) ≡ 10) × (j < 111)
    climb_asks = (c.votes_whole, length-set members q true ∙ c.cards, omega (arith, next, live-slot s k c.alive))

    level_up : d - 1 ≡ level (above k)
    level_up = let (f, g) = level_pos k (live-slot s k c.alive) p in omega (arith, c.deep, level-above k f (live-slot s k c.alive) g)

    handed_up : Handed s members' (above k)
    handed_up = handed_above s members k c.cards c.alive p c.handed

    -- the vote there is the one made again
    gives : {v own w : ℤ} → v ≡ decided (rule_of s.rack) own (held_votes (rule_of s.rack) vs members' (d - 1 + 1) (above k) 10) → own ≡ (rule_of s.rack).read (d - 1) w → w ≡ at ws (above k) → v ≡ remade (rule_of s.rack) s ws vs (above k)
    gives {w = w} e read f =
        let R = rule_of s.rack in
        let left = rounds_left s (level (above k)) in
        e
        ∙ ap (λ (own : ℤ). decided R own (held_votes R vs members' (d - 1 + 1) (above k) 10)) read
        ∙ sym (made_more R w vs members' left (d - 1) (above k) (λ z. omega (arith, z, left_above s k c.alive p)))
        ∙ ap (λ (w : ℤ). member_remade R w vs members' left (d - 1) (above k)) f
        ∙ remade_handed R s ws vs members' left (d - 1) (above k) c.few (up_live s k c.alive p) handed_up refl level_up

    pub climb_more : {v own w : ℤ} → v ≡ decided (rule_of s.rack) own (held_votes (rule_of s.rack) vs (set members q true) (d - 1 + 1) j 10) → own ≡ (rule_of s.rack).read (d - 1) w → w ≡ at ws j → Climbs s ws vs₀ slot (set vs j v) (set members q true) (d - 1) j
    climb_more {v} e read f = rw (last, next) (record {
      few = c.few;
      words_whole = c.words_whole;
      votes_whole = length-set vs (above k) v ∙ c.votes_whole;
      alive = up_live s k c.alive p;
      cards = length-set members (last_relay k) true ∙ c.cards;
      handed = handed_up;
      deep = level_up;
      same = along_step (rule_of s.rack) s ws vs (above k) (gives (rw (last, next) at e) read (rw next at f)) ∙ ap (λ (l : List ℕ). remade_along (rule_of s.rack) s ws (drop 1 l) vs) (sym (way_cons k (live-slot s k c.alive) p)) ∙ c.same;
    })

  -- at slot 0 nothing is left to re-make
  pub climb_done : k ≤ 0 → vs ≡ remade_along (rule_of s.rack) s ws (way slot) vs₀
  unfolding remade_along way_by level
  climb_done h = let z : k ≡ 0 = omega arith in rw z at c.same

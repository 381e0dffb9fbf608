-- The vote as the code asks for it: which cards may still relay is handed down, and no slot is tested. `proofs/Handed.antt` leads from `Vote` to it.
use Rattle.std.specs.Prelude.{ℕ, zero, suc, ◌+◌, ◌≤◌, ◌<◌, ◌≡◌, Bool, false, List, T, ℤ, length, set}
use Rattle.words.specs.Rule.{Rule}
use Rattle.ground.specs.Lists.{at, over}
use Rattle.settings.specs.Settings.{slots}
use Rattle.settings.specs.declared.Settings.{Settings}
use Rattle.paths.specs.declared.Place.{Place}
use Rattle.paths.specs.Slots.{below, live, members_of}
use Rattle.paths.specs.Walk.{may, room}
use Rattle.vote.specs.Vote.{decided}

-- the vote at slot k of level d with r rounds left; a card that relays does not do so again
unfoldable pub member_vote : Rule → List ℤ → List Bool → ℕ → ℕ → ℕ → ℤ
member_vote R words members zero d k = R.read d (at words k)
member_vote R words members (suc r) d k =
    decided R (R.read d (at words k)) (over (may members) (λ q. member_vote R words (set members q false) r (d + 1) (below k q)) 10 0)

-- the votes of the longer paths by the first c cards, with r rounds left for each
abbrev pub members_votes : Rule → List ℤ → List Bool → ℕ → ℕ → ℕ → ℕ → List ℤ
members_votes R words members r d k c = over (may members) (λ q. member_vote R words (set members q false) r (d + 1) (below k q)) c 0

-- what an instance is asked: the words of a whole book, at most three relays in all, and a slot with room for those left
pub record Asked (words : List ℤ) (at : Place) : Type 0 where
  pub whole : length words ≡ slots
  pub deep : at.left + at.d ≤ 3
  pub slot : at.k < room at.left

-- what the vote at a slot is asked: at most three rounds, a live path with its members, and the words of a whole book
pub record Whole (s : Settings) (words : List ℤ) (members : List Bool) (k : ℕ) : Type 0 where
  pub few : s.rack.m ≤ 3
  pub alive : T (live s k)
  pub whole : length words ≡ slots
  pub here : members ≡ members_of s k

-- Re-making votes as the code does it: which cards may still relay is handed on.
use Rattle.std.specs.Prelude.{ℕ, zero, suc, ◌+◌, ◌≤◌, ◌<◌, ◌≡◌, Bool, List, T, ℤ, length}
use Rattle.ground.specs.Lists.{at, over}
use Rattle.words.specs.Rule.{Rule}
use Rattle.settings.specs.Settings.{slots}
use Rattle.settings.specs.declared.Settings.{Settings}
use Rattle.paths.specs.Slots.{below, live, members_of}
use Rattle.paths.specs.Walk.{may}
use Rattle.vote.specs.Vote.{decided}
use Rattle.book.specs.Book.{Book, Sized}

-- the held votes one relay longer than slot k by the first c cards that may relay, read at level d
abbrev pub held_votes : Rule → List ℤ → List Bool → ℕ → ℕ → ℕ → List ℤ
held_votes R votes members d k c = over (may members) (λ q. R.read d (at votes (below k q))) c 0

-- the vote at slot k of level d, made again from its own word with r rounds left
unfoldable pub member_remade : Rule → ℤ → List ℤ → List Bool → ℕ → ℕ → ℕ → ℤ
member_remade R word votes members zero d k = R.read d word
member_remade R word votes members (suc r) d k = decided R (R.read d word) (held_votes R votes members (d + 1) k 10)

-- what a re-making is asked: whole votes, all ten cards, at most three relays in all, and a slot with room for one relay more where rounds are left
pub record Remakes (votes : List ℤ) (members : List Bool) (r d k : ℕ) : Type 0 where
  pub votes_whole : length votes ≡ slots
  pub cards : length members ≡ 10
  pub deep : d ≤ 3
  pub slot : k < slots
  pub inner : (r ≡ 0 → ⊥) → k < 111

-- what an entering is asked: at most three rounds, a whole book, and a live path with its members
pub record Enters (s : Settings) (b : Book) (members : List Bool) (k : ℕ) : Type 0 where
  pub few : s.rack.m ≤ 3
  pub whole : Sized b
  pub alive : T (live s k)
  pub here : members ≡ members_of s k

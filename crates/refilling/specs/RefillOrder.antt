-- Refilling as the code does it: each vote is worked out from the words as `Rattle.vote.specs.Members` has it, and put in its place after those of the longer paths.
use Rattle.std.specs.Prelude.{◌-◌, ◌≤◌, ◌≡◌, Bool, List, ℤ, length}
use Rattle.words.specs.Rule.{Rule}
use Rattle.settings.specs.Settings.{slots}
use Rattle.settings.specs.declared.Settings.{Settings}
use Rattle.paths.specs.declared.Place.{Place}
use Rattle.paths.specs.Walk.{put_in, put_below}
use Rattle.vote.specs.Vote.{decided}
use Rattle.vote.specs.Members.{member_vote, members_votes, Asked}
use Rattle.book.specs.Book.{Book, book_of, Sized}

-- what putting in is asked: what the vote's instance is, and whole votes
pub record Fills (b : Book) (at : Place) : Type 0 where
  pub asked : Asked b.words at
  pub votes_whole : length b.votes ≡ slots

-- what a refilling is asked: at most three rounds, and both lists whole
pub record Refills (s : Settings) (b : Book) : Type 0 where
  pub few : s.rack.m ≤ 3
  pub whole : Sized b

-- the vote at a place, and it and those of the longer paths in their places
pub record Refilling (R : Rule) (b : Book) (cards : List Bool) (at : Place) (told : ℤ) (after : Book) : Type 0 where
  pub vote : told ≡ member_vote R b.words cards at.left at.d at.k
  pub book : after ≡ book_of b.words (put_in (member_vote R b.words) cards at.left at.d at.k b.votes)

-- what the own reading and the votes of the longer paths decide, and those in their places
pub record RefillingBelow (R : Rule) (b : Book) (cards : List Bool) (at : Place) (own told : ℤ) (after : Book) : Type 0 where
  pub vote : told ≡ decided R own (members_votes R b.words cards (at.left - 1) at.d at.k 10)
  pub book : after ≡ book_of b.words (put_below (member_vote R b.words) cards (at.left - 1) at.d at.k 10 b.votes)

-- Document 01, 'The book': two lent lists, words received and votes held.
use Rattle.std.specs.Prelude.{◌≡◌, Bool, ◌&&◌, List, eqb, ℤ, length, replicate, take, drop}
use Rattle.ground.specs.Lists.{at}
use Rattle.words.specs.Word.{E}
use Rattle.words.specs.Rule.{Rule}
use Rattle.settings.specs.Settings.{slots}

-- the words received and the votes held
pub record Book : Type 0 where
  pub words : List ℤ
  pub votes : List ℤ

abbrev pub book_of : List ℤ → List ℤ → Book
book_of words votes = record { words = words; votes = votes }

-- a book in one list: its words, and then its votes
abbrev pub halves : List ℤ → Book
halves l = book_of (take slots l) (drop slots l)

-- both lists have their right length
abbrev pub sized : Book → Bool
sized b = eqb (length b.words) slots && eqb (length b.votes) slots

-- the same, as two equations
pub record Sized (b : Book) : Type 0 where
  pub words_long : length b.words ≡ slots
  pub votes_long : length b.votes ≡ slots

-- opening: every word is missing, every vote is that of no word
unfoldable pub opened : Rule → Book
opened R = record { words = replicate slots E; votes = replicate slots R.none }

-- the held answer: the vote at slot 0 as it stands
abbrev pub held : Book → ℤ
held b = at b.votes 0

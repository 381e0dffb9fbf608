-- Words reach a card one at a time, for all senders: what calls on the long list leave.
use Rattle.std.specs.Prelude.{◌≢◌, List, [], ◌∷◌, ℤ}
use Rattle.settings.specs.declared.Settings.{Settings}
use Rattle.book.specs.Book.{Book}
use Rattle.book.specs.Asked.{open_asked}
use Rattle.refilling.specs.Refilled.{refill_asked}
use Rattle.arrivals.specs.Run.{Arrival, word, frame, left_by}
use Rattle.books.specs.Asked.{books_open_asked, books_enter_asked, books_refill_asked, books_frame_asked}

-- what is called for a sender: its book opened, a word or a frame entered, its votes made again
pub data Act : Type 0 where
  opens : Act
  enters : Arrival → Act
  refills : Act

-- the long list that such a call leaves
abbrev pub long_left : Settings → List ℤ → Act → List ℤ
long_left s l opens = (books_open_asked s l).leaves
long_left s l (enters (word e)) = (books_enter_asked s l e.slot e.word).leaves
long_left s l (enters (frame current bytes)) = (books_frame_asked s l current bytes).leaves
long_left s l refills = (books_refill_asked s l).leaves

-- and the book that the same call leaves of a book by itself
abbrev pub book_left : Settings → Book → Act → Book
book_left s b opens = (open_asked s b).leaves
book_left s b (enters x) = left_by s b x
book_left s b refills = (refill_asked s b).leaves

-- a call in a run for all senders: for that of s, by these settings, a word or a frame, or its votes made again; for another, anything, by any settings
pub data Mixed (s : Settings) : Type 0 where
  own : Arrival → Mixed s
  again : Mixed s
  other : (o : Settings) → o.t ≢ s.t → Act → Mixed s

abbrev pub mixed_left : (s : Settings) → List ℤ → Mixed s → List ℤ
mixed_left s l (own x) = long_left s l (enters x)
mixed_left s l again = long_left s l refills
mixed_left s l (other o n a) = long_left o l a

-- the long list that such calls leave, the first of the list first
unfoldable pub called : (s : Settings) → List ℤ → List (Mixed s) → List ℤ
called s l [] = l
called s l (x ∷ xs) = called s (mixed_left s l x) xs

-- and after `open` for the sender of s
abbrev pub open_called : (s : Settings) → List ℤ → List (Mixed s) → List ℤ
open_called s l xs = called s (long_left s l opens) xs

-- the words and frames among them that are for the sender of s
unfoldable pub own_of : (s : Settings) → List (Mixed s) → List Arrival
own_of s [] = []
own_of s (own x ∷ xs) = x ∷ own_of s xs
own_of s (again ∷ xs) = own_of s xs
own_of s (other o n a ∷ xs) = own_of s xs

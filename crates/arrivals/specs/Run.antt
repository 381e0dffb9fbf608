-- Words reach a card one at a time, as words and as frames: a run of enterings, refused ones among them.
use Rattle.std.specs.Prelude.{ℕ, Bool, true, cond, List, [], ◌∷◌, eqb}
use Rattle.ground.specs.Checks.{verdict}
use Rattle.settings.specs.declared.Settings.{Settings}
use Rattle.book.specs.Book.{Book}
use Rattle.book.specs.Asked.{open_asked}
use Rattle.entering.specs.declared.Entry.{Entry}
use Rattle.entering.specs.Asked.{enter_asked}
use Rattle.frames.specs.Frame.{frame_of}
use Rattle.arrivals.specs.Entry.{frame_entry, frame_checks, frame_asked}

-- what comes in: a word for a slot, or bytes as a frame and the exchange number that is current then
pub data Arrival : Type 0 where
  word : Entry → Arrival
  frame : ℕ → List ℕ → Arrival

-- a word is taken; a frame that is not refused itself: 17 bytes, marked, version 1, well formed, current, and the book's
abbrev pub taken : Settings → Arrival → Bool
taken s (word e) = true
taken s (frame current bytes) = eqb (verdict (frame_checks s current bytes)) 0

-- the entry that it gives
abbrev pub entry_of : Arrival → Entry
entry_of (word e) = e
entry_of (frame current bytes) = frame_entry (frame_of bytes)

-- the entries of a run; what is not taken gives none
unfoldable pub entries_of : Settings → List Arrival → List Entry
entries_of s [] = []
entries_of s (x ∷ xs) = cond (taken s x) (entry_of x ∷ entries_of s xs) (entries_of s xs)

-- the book that a call of `entering::enter` or `arrivals::enter` leaves
abbrev pub left_by : Settings → Book → Arrival → Book
left_by s b (word e) = (enter_asked s b e.slot e.word).leaves
left_by s b (frame current bytes) = (frame_asked s b current bytes).leaves

-- the book that such calls leave, the first of the list first
unfoldable pub arrived : Settings → Book → List Arrival → Book
arrived s b [] = b
arrived s b (x ∷ xs) = arrived s (left_by s b x) xs

-- and after `open`
abbrev pub open_arrived : Settings → Book → List Arrival → Book
open_arrived s b xs = arrived s (open_asked s b).leaves xs

-- Document 02, Q-1: a card's books, one for each sender, in one list.
use Rattle.std.specs.Prelude.{ℕ, Bool, not, ◌&&◌, List, [], ◌∷◌, ◌++◌, eqb, ltb, ℤ, length}
use Rattle.ground.specs.Refusal as refusal
use Rattle.ground.specs.Checks.{Check, check}
use Rattle.ground.specs.Lists.{part, with_part}
use Rattle.settings.specs.Settings.{most_cards, settings_checks}
use Rattle.settings.specs.declared.Settings.{Settings}
use Rattle.paths.specs.Slots.{live}
use Rattle.book.specs.Book.{Book, halves}

-- each sender's part, 1,111 words and then 1,111 votes; the long list has ten of them, sender after sender
abbrev pub book_words : ℕ
book_words = 2222

abbrev pub books_words : ℕ
books_words = 22220

-- the book of the sender t
abbrev pub book_from : ℕ → List ℤ → Book
book_from t l = halves (part book_words t l)

-- the long list with another book for the sender t
abbrev pub with_book : ℕ → List ℤ → Book → List ℤ
with_book t l b = with_part book_words t l (b.words ++ b.votes)

-- the sender is one of the ten cards, and the long list has its length: it has a part for the sender
abbrev pub has_part : Settings → List ℤ → Bool
has_part s l = ltb s.t most_cards && eqb (length l) books_words

-- settings, then the long list's length
abbrev pub books_checks : Settings → List ℤ → List Check
books_checks s l = settings_checks s ++ check refusal.long (not (eqb (length l) books_words)) ∷ []

-- and then the slot
abbrev pub books_slot_checks : Settings → List ℤ → ℕ → List Check
books_slot_checks s l k = books_checks s l ++ check refusal.path (not (live s k)) ∷ []

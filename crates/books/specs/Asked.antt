-- The long list as it is asked of the functions: the call on a book, on that of the settings' sender.
use Rattle.std.specs.Prelude.{ℕ, not, List, [], ◌∷◌, ◌++◌, ℤ}
use Rattle.ground.specs.Refusal as refusal
use Rattle.ground.specs.Checks.{Check, check, verdict}
use Rattle.ground.specs.Answer.{Answer, Outcome, outcome_by}
use Rattle.settings.specs.declared.Settings.{Settings}
use Rattle.paths.specs.Slots.{live}
use Rattle.vote.specs.Vote.{rule_of}
use Rattle.book.specs.Book.{opened}
use Rattle.entering.specs.Entered.{entered}
use Rattle.refilling.specs.Refilled.{refilled}
use Rattle.frames.specs.Frame.{frame_of}
use Rattle.arrivals.specs.Entry.{frame_slot, frame_checks}
use Rattle.books.specs.Books.{book_from, with_book, books_checks, books_slot_checks}

unfoldable pub books_open_asked : Settings → List ℤ → Outcome (Answer (Unit {0})) (List ℤ)
books_open_asked s l = outcome_by (verdict (books_checks s l)) l (with_book s.t l (opened (rule_of s.rack)))

unfoldable pub books_enter_asked : Settings → List ℤ → ℕ → ℤ → Outcome (Answer (Unit {0})) (List ℤ)
books_enter_asked s l k word =
    outcome_by (verdict (books_slot_checks s l k)) l (with_book s.t l (entered (rule_of s.rack) s (book_from s.t l) k word))

unfoldable pub books_refill_asked : Settings → List ℤ → Outcome (Answer (Unit {0})) (List ℤ)
books_refill_asked s l = outcome_by (verdict (books_checks s l)) l (with_book s.t l (refilled (rule_of s.rack) s (book_from s.t l)))

-- 1 to 5 first, and the slot last
abbrev pub books_frame_checks : Settings → List ℤ → ℕ → List ℕ → List Check
books_frame_checks s l current bytes =
    books_checks s l ++ frame_checks s current bytes ++ check refusal.path (not (live s (frame_slot (frame_of bytes)))) ∷ []

-- a frame is its word entered at its path's slot
unfoldable pub books_frame_asked : Settings → List ℤ → ℕ → List ℕ → Outcome (Answer (Unit {0})) (List ℤ)
books_frame_asked s l current bytes =
    outcome_by (verdict (books_frame_checks s l current bytes)) l
    (with_book s.t l (entered (rule_of s.rack) s (book_from s.t l) (frame_slot (frame_of bytes)) (frame_of bytes).word))

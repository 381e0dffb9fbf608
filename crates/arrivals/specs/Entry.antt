-- Document 01, 'Frames' and 'Refusal numbers': entering a frame in a book.
use Rattle.std.specs.Prelude.{ℕ, Bool, true, false, not, ◌&&◌, List, [], ◌∷◌, ◌++◌, eqb}
use Rattle.ground.specs.Refusal as refusal
use Rattle.ground.specs.Checks.{Check, check, verdict}
use Rattle.ground.specs.Answer.{Answer, answer, Outcome, outcome_by}
use Rattle.settings.specs.declared.Settings.{Settings}
use Rattle.paths.specs.Slots.{slot_of, live}
use Rattle.paths.specs.Asked.{used, path_checks}
use Rattle.vote.specs.Vote.{rule_of}
use Rattle.book.specs.Book.{Book}
use Rattle.book.specs.Asked.{book_checks}
use Rattle.entering.specs.Entered.{entered}
use Rattle.entering.specs.declared.Entry.{Entry}
use Rattle.ages.specs.Ages.{age_of, class_of}
use Rattle.frames.specs.Frame.{frame_of}
use Rattle.frames.specs.Asked.{read_checks}
use Rattle.frames.specs.declared.Frame.{Frame}
use Rattle.ages.specs.declared.Age.{Age}
use Rattle.ages.specs.declared.Age.TheVariants.{Current, Old, Ahead}

-- the slot of a frame's path
abbrev pub frame_slot : Frame → ℕ
frame_slot f = slot_of (used f.level f.q1 f.q2 f.q3)

abbrev pub is_old : Age → Bool
is_old Current = false
is_old Old = true
is_old Ahead = false

abbrev pub is_ahead : Age → Bool
is_ahead Current = false
is_ahead Old = false
is_ahead Ahead = true

-- old, ahead, another sender or receiver than the book
abbrev pub timely_checks : Settings → ℕ → Frame → List Check
timely_checks s current f =
    check refusal.old (is_old (class_of (age_of current f.exchange)))
    ∷ check refusal.ahead (is_ahead (class_of (age_of current f.exchange)))
    ∷ check refusal.foreign (not (eqb f.sender s.t && eqb f.receiver s.p))
    ∷ []

-- of the frame alone: 9, 10, 11, 14, 12, 13, 15
abbrev pub frame_checks : Settings → ℕ → List ℕ → List Check
frame_checks s current bytes = read_checks bytes ++ timely_checks s current (frame_of bytes)

-- the entry that a record gives
abbrev pub frame_entry : Frame → Entry
frame_entry f = record { slot = frame_slot f; word = f.word }

-- a record's: refused where it is not timely, or has no path
abbrev pub entry_checks : Settings → ℕ → Frame → List Check
entry_checks s current f = timely_checks s current f ++ path_checks f.level f.q1 f.q2 f.q3

unfoldable pub entry_asked : Settings → ℕ → Frame → Answer Entry
entry_asked s current f = answer (verdict (entry_checks s current f)) (frame_entry f)

-- that of bytes; a frame that reads has a path
unfoldable pub arrival_asked : Settings → ℕ → List ℕ → Answer Entry
arrival_asked s current bytes = answer (verdict (frame_checks s current bytes)) (frame_entry (frame_of bytes))

-- 1 to 5 first, and the slot last
abbrev pub arrival_checks : Settings → Book → ℕ → List ℕ → List Check
arrival_checks s b current bytes =
    book_checks s b ++ frame_checks s current bytes ++ check refusal.path (not (live s (frame_slot (frame_of bytes)))) ∷ []

-- it is the book's entering
unfoldable pub frame_asked : Settings → Book → ℕ → List ℕ → Outcome (Answer (Unit {0})) Book
frame_asked s b current bytes =
    outcome_by (verdict (arrival_checks s b current bytes)) b
    (entered (rule_of s.rack) s b (frame_slot (frame_of bytes)) (frame_of bytes).word)

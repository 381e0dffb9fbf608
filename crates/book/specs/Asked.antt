-- Document 01, 'The book', as it is asked of the functions.
use Rattle.std.specs.Prelude.{ℕ, not, List, [], ◌∷◌, ◌++◌, ℤ}
use Rattle.ground.specs.Refusal as refusal
use Rattle.ground.specs.Checks.{Check, check, verdict}
use Rattle.ground.specs.Answer.{Answer, answer, Outcome, outcome_by}
use Rattle.settings.specs.Settings.{settings_checks}
use Rattle.settings.specs.declared.Settings.{Settings}
use Rattle.paths.specs.Slots.{live}
use Rattle.vote.specs.Vote.{rule_of}
use Rattle.book.specs.Book.{Book, sized, opened, held}

-- settings, then the lists' length
abbrev pub book_checks : Settings → Book → List Check
book_checks s b = settings_checks s ++ check refusal.long (not (sized b)) ∷ []

-- and then the slot
abbrev pub slot_checks : Settings → Book → ℕ → List Check
slot_checks s b k = book_checks s b ++ check refusal.path (not (live s k)) ∷ []

abbrev pub open_asked : Settings → Book → Outcome (Answer (Unit {0})) Book
open_asked s b = outcome_by (verdict (book_checks s b)) b (opened (rule_of s.rack))

-- the held answer takes no settings
abbrev pub held_checks : Book → List Check
held_checks b = check refusal.long (not (sized b)) ∷ []

abbrev pub held_asked : Book → Answer ℤ
held_asked b = answer (verdict (held_checks b)) (held b)

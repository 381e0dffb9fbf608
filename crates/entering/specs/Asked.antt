-- Entering as it is asked of the function.
use Rattle.std.specs.Prelude.{ℕ, ℤ}
use Rattle.ground.specs.Checks.{verdict}
use Rattle.ground.specs.Answer.{Answer, Outcome, outcome_by}
use Rattle.settings.specs.declared.Settings.{Settings}
use Rattle.vote.specs.Vote.{rule_of}
use Rattle.book.specs.Book.{Book}
use Rattle.book.specs.Asked.{slot_checks}
use Rattle.entering.specs.Entered.{entered}

abbrev pub enter_asked : Settings → Book → ℕ → ℤ → Outcome (Answer (Unit {0})) Book
enter_asked s b k word = outcome_by (verdict (slot_checks s b k)) b (entered (rule_of s.rack) s b k word)

-- Document 01, 'The book': refilling re-makes every live vote from the words; votes at other slots stay. Over any rule, and as it is asked of the function.
use Rattle.std.specs.Prelude.{cond, List, ℤ}
use Rattle.ground.specs.Checks.{verdict}
use Rattle.ground.specs.Answer.{Answer, Outcome, outcome_by}
use Rattle.ground.specs.Lists.{at, table}
use Rattle.words.specs.Rule.{Rule}
use Rattle.settings.specs.Settings.{slots}
use Rattle.settings.specs.declared.Settings.{Settings}
use Rattle.paths.specs.Slots.{live}
use Rattle.vote.specs.Vote.{rule_of, vote}
use Rattle.book.specs.Book.{Book}
use Rattle.book.specs.Asked.{book_checks}

unfoldable pub refilled_votes : Rule → Settings → List ℤ → List ℤ → List ℤ
refilled_votes R s words votes = table slots 0 (λ k. cond (live s k) (vote R s words k) (at votes k))

abbrev pub refilled : Rule → Settings → Book → Book
refilled R s b = record { words = b.words; votes = refilled_votes R s b.words b.votes }

abbrev pub refill_asked : Settings → Book → Outcome (Answer (Unit {0})) Book
refill_asked s b = outcome_by (verdict (book_checks s b)) b (refilled (rule_of s.rack) s b)

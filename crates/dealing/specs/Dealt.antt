-- Document 01, 'The exchange on the bench': a book filled, over any rule.
use Rattle.std.specs.Prelude.{ℕ, cond, List, ℤ}
use Rattle.ground.specs.Lists.{at, table}
use Rattle.words.specs.Rule.{Rule}
use Rattle.settings.specs.Settings.{slots}
use Rattle.paths.specs.Slots.{live}
use Rattle.book.specs.Book.{Book, book_of}
use Rattle.refilling.specs.Refilled.{refilled}
use Rattle.exchange.specs.Exchange.{Exchange, settings_for, dealt}

-- the words of p dealt at its live slots, other places untouched
unfoldable pub dealt_over : Rule → Exchange → ℕ → List ℤ → List ℤ
dealt_over R X p before = table slots 0 (λ k. cond (live (settings_for X p) k) (dealt R X k p) (at before k))

-- a book filled for p: live words dealt, live votes refilled, other places untouched
unfoldable pub filled_for : Rule → Exchange → ℕ → Book → Book
filled_for R X p b = refilled R (settings_for X p) (book_of (dealt_over R X p b.words) b.votes)

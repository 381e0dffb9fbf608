-- `books::refill` meets its contract: it is the call on the sender's part.
use mathlib.Core.Path.{◌≡◌}
use mathlib.Core.List.{[]}
use Rattle.std.proofs.Common.{rules}
use Rattle.ground.specs.Answer.{outcome, of_result}
use Rattle.book.specs.Book.{halves}
use Rattle.refilling.specs.Refilled.{refill_asked}
use Rattle.vote.specs.Vote.{rule_of}
use Rattle.refilling.specs.Refilled.{refilled}
use Rattle.books.specs.Books.{book_from}
use Rattle.books.specs.Asked.{books_refill_asked}
use Rattle.books.proofs.Parts.{by_part}
use Rattle.books.proofs.refill.Goals as goal

pub returns : goal.returns
unfolding books_refill_asked
returns c =
    let a = c.args in
    by_part a.s a.books.now [] (refilled (rule_of a.s.rack) a.s (book_from a.s.t a.books.now)) c.on_part.result c.on_part.ensures.called c.on_part.ensures.refused (λ new e.
    let told : outcome (of_result c.on_part.result) (halves e.left.now) ≡ refill_asked a.s (halves e.shown.now) = search rules in
    rw (← e.leaves, ← e.shows) told)

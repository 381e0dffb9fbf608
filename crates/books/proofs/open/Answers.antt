-- `books::open` meets its contract: it is the call on the sender's part.
use Rattle.vote.specs.Vote.{rule_of}
use Rattle.std.proofs.Common.{rules}
use Rattle.ground.specs.Answer.{outcome, of_result}
use Rattle.book.specs.Book.{halves, opened}
use Rattle.book.specs.Asked.{open_asked}
use mathlib.Core.Path.{◌≡◌}
use Rattle.books.specs.Asked.{books_open_asked}
use Rattle.books.proofs.Parts.{by_part}
use Rattle.books.proofs.open.Goals as goal
use mathlib.Core.List.{[]}

pub returns : goal.returns
unfolding books_open_asked
returns c =
    let a = c.args in
    by_part a.s a.books.now [] (opened (rule_of a.s.rack)) c.on_part.result c.on_part.ensures.called c.on_part.ensures.refused (λ new e.
    let told : outcome (of_result c.on_part.result) (halves e.left.now) ≡ open_asked a.s (halves e.shown.now) = search rules in
    rw (← e.leaves, ← e.shows) told)

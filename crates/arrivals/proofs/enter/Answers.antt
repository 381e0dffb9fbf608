-- `arrivals::enter` meets its contract: the entry that the bytes give is the book's entering, or they are refused after the book.
use mathlib.Core.Path.{ap, ◌∙◌}
use Rattle.std.proofs.Common.{rules}
use Rattle.book.specs.Book.{book_of}
use Rattle.book.specs.Asked.{book_checks}
use Rattle.entering.specs.Asked.{enter_asked}
use Rattle.arrivals.specs.Entry.{frame_asked}
use Rattle.arrivals.proofs.Entering.{arrival_enters, arrival_refused, book_made}
use Rattle.arrivals.proofs.enter.Goals as goal

pub returns-in-Ok : goal.returns-in-Ok
unfolding frame_asked
returns-in-Ok c =
    let a = c.args in
    let b = book_of a.words.now a.votes.now in
    arrival_enters (book_checks a.s b) tt a.s a.current a.bytes.now b (book_made a.s b) c.in-Ok.ensures (c.enter.ensures ∙ ap (enter_asked a.s b _) (search rules))

pub returns-in-Err : goal.returns-in-Err
unfolding frame_asked
returns-in-Err c =
    let a = c.args in
    let b = book_of a.words.now a.votes.now in
    arrival_refused (book_checks a.s b) tt a.s a.current a.bytes.now b (book_made a.s b) _ c.in-Err.ensures c.first.ensures.asked c.book_refused.ensures

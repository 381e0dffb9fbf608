-- `books::enter_frame` meets its contract: the entry that the bytes give is the long list's entering, or they are refused after the long list.
use mathlib.Core.Path.{ap, ◌∙◌}
use mathlib.Core.List.{List}
use lib.IntN.{ℤ}
use Rattle.std.proofs.Common.{rules}
use Rattle.settings.specs.declared.Settings.{Settings}
use Rattle.vote.specs.Vote.{rule_of}
use Rattle.entering.specs.Entered.{entered}
use Rattle.entering.specs.declared.Entry.{Entry}
use Rattle.arrivals.proofs.Entering.{arrival_enters, arrival_refused}
use Rattle.books.specs.Books.{book_from, with_book, books_checks}
use Rattle.books.specs.Asked.{books_enter_asked, books_frame_asked}
use Rattle.books.proofs.enter_frame.Goals as goal

-- what an entry makes of the long list
abbrev made : Settings → List ℤ → Entry → List ℤ
made s l e = with_book s.t l (entered (rule_of s.rack) s (book_from s.t l) e.slot e.word)

pub returns-in-Ok : goal.returns-in-Ok
unfolding books_enter_asked books_frame_asked
returns-in-Ok c =
    let a = c.args in
    let l = a.books.now in
    arrival_enters (books_checks a.s l) tt a.s a.current a.bytes.now l (made a.s l) c.in-Ok.ensures (c.enter.ensures ∙ ap (books_enter_asked a.s l _) (search rules))

pub returns-in-Err : goal.returns-in-Err
unfolding books_frame_asked
returns-in-Err c =
    let a = c.args in
    let l = a.books.now in
    arrival_refused (books_checks a.s l) tt a.s a.current a.bytes.now l (made a.s l) _ c.in-Err.ensures c.first.ensures.asked c.books_refused.ensures

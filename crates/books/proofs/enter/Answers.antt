-- `books::enter` meets its contract: it is the call on the sender's part.
use mathlib.Core.Path.{◌≡◌}
use mathlib.Core.Bool.{not}
use mathlib.Core.List.{[], ◌∷◌}
use Rattle.std.proofs.Common.{rules}
use Rattle.ground.specs.Checks.{check}
use Rattle.ground.specs.Answer.{outcome, of_result}
use Rattle.paths.specs.Slots.{live}
use Rattle.book.specs.Book.{halves}
use Rattle.entering.specs.Asked.{enter_asked}
use Rattle.vote.specs.Vote.{rule_of}
use Rattle.entering.specs.Entered.{entered}
use Rattle.books.specs.Books.{book_from}
use Rattle.books.specs.Asked.{books_enter_asked}
use Rattle.books.proofs.Parts.{by_part}
use Rattle.books.proofs.enter.Goals as goal

pub returns : goal.returns
unfolding books_enter_asked
returns c =
    let a = c.args in
    by_part a.s a.books.now (check 8 (not (live a.s a.slot)) ∷ []) (entered (rule_of a.s.rack) a.s (book_from a.s.t a.books.now) a.slot a.word) c.on_part.result c.on_part.ensures.called c.on_part.ensures.refused (λ new e.
    let told : outcome (of_result c.on_part.result) (halves e.left.now) ≡ enter_asked a.s (halves e.shown.now) a.slot a.word = search rules in
    rw (← e.leaves, ← e.shows) told)

-- `refilling::refill` meets its contract: the verdict decides.
use mathlib.Core.Path.{refl, sym}
use Rattle.ground.proofs.Answers.{leaves_outcome, outcome_done}
use Rattle.book.specs.Book.{book_of}
use Rattle.refilling.proofs.Refilled.{refill-asked}
use Rattle.refilling.proofs.refill.Goals as goal

pub returns-in_err-book_refused : goal.returns-in_err-book_refused
returns-in_err-book_refused c = leaves_outcome _ _ c.from_residual.ensures.1 c.in_err-book_refused.ensures _ _

pub refill_all-requires : goal.refill_all-requires
refill_all-requires c =
    let a = c.args in
    refill-asked a.s (book_of a.words.now a.votes.now) (sym c.in_ok-book_refused.ensures)

pub returns : goal.returns
returns c = outcome_done c.in_ok-book_refused.ensures refl _ c.refill_all.ensures

-- `book::held_answer` meets its contract: the lists' length decides.
use mathlib.Core.Path.{◌≡◌, refl, sym, ap}
use mathlib.Core.Bool.{not}
use native.Mathlib.Omega.{arith}
use borrow.Author.Rules.{sfits_of}
use Rattle.ground.proofs.Bits.{back_is}
use Rattle.ground.specs.Checks.{verdict}
use Rattle.ground.proofs.Answers.{leaves_answer, answer-given}
use Rattle.ground.proofs.Verdicts.{alone, no_verdict}
use Rattle.book.specs.Book.{book_of}
use Rattle.book.specs.Asked.{held_checks}
use Rattle.book.proofs.Asking.{sized_both}
use Rattle.book.proofs.held_answer.Goals as goal
use Rattle.book.proofs.held_answer.Goals.{In_ok-when}

pub returns-in_err-when : goal.returns-in_err-when
returns-in_err-when c = leaves_answer _ _ c.from_residual.ensures.1 (alone 5 c.in_err-when.ensures.asked (ap not c.is_whole.ensures)) _

-- no refusal
passes : (c : In_ok-when) → let a = c.args in 0 ≡ verdict (held_checks (book_of a.words.now a.votes.now))
passes c = alone 5 c.in_ok-when.ensures.asked (ap not c.is_whole.ensures)

pub bounds-votes-0 : goal.bounds-votes-0
bounds-votes-0 c =
    let a = c.args in
    let none = no_verdict (held_checks (book_of a.words.now a.votes.now)) tt (sym (passes (goal.at.bounds-votes-0 c).In_ok-when)) in
    omega (arith, (sized_both (book_of a.words.now a.votes.now) none.0).votes_long)

pub returns : goal.returns
returns c = answer-given (passes (goal.at.returns c).In_ok-when) refl (back_is (sfits_of c.result-1.given))

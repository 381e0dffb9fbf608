-- `book::open` meets its contract: the verdict decides, and every word and vote is cleared.
use Prim.Native.Nat.{ℕ}
use mathlib.Core.Path.{refl, sym, ap, ap₂, ◌∙◌}
use lib.ListN.{replicate}
use Rattle.ground.proofs.Answers.{leaves_outcome, outcome_done}
use Rattle.words.specs.Word.{E}
use Rattle.book.specs.Book.{book_of, opened}
use Rattle.book.proofs.Asking.{book-asked}
use Rattle.book.proofs.open.Goals as goal

pub returns-in_err-book_refused : goal.returns-in_err-book_refused
returns-in_err-book_refused c = leaves_outcome _ _ c.from_residual.ensures.1 c.in_err-book_refused.ensures _ _

pub returns : goal.returns
unfolding opened
returns c =
    let a = c.before.args in
    let book = (book-asked a.s (book_of a.words.now a.votes.now) (sym c.in_ok-book_refused.ensures)).1 in
    outcome_done c.in_ok-book_refused.ensures refl _
    (ap₂ book_of
    (c.fill.ensures.after (λ y e. e) ∙ ap (λ (n : ℕ). replicate n E) book.words_long)
    (c.fill-2.ensures.after (λ y e. e) ∙ ap (λ (n : ℕ). replicate n E) book.votes_long))

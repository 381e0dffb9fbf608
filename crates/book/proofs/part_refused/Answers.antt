-- `book::part_refused` meets its contract: it is the check of its two halves.
use mathlib.Core.Path.{ap, ◌∙◌}
use Rattle.ground.specs.Checks.{verdict}
use Rattle.book.specs.Book.{Book}
use Rattle.book.specs.Asked.{book_checks}
use Rattle.book.proofs.Halves.{split_halves}
use Rattle.book.proofs.part_refused.Goals as goal

pub returns : goal.returns
returns c =
    c.book_refused.ensures ∙ ap (λ (b : Book). verdict (book_checks c.args.s b)) (split_halves c.args.part.now c.min.ensures c.split_at.ensures.front c.split_at.ensures.back)

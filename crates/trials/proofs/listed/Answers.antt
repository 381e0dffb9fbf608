-- `trials::listed` meets its contract: each answer gives the card lines and then its own, and a file that is not refused has one.
use mathlib.Core.Path.{◌∙◌}
use native.Mathlib.Omega.{arith}
use Rattle.files.proofs.Good.{file_good}
use Rattle.trials.specs.Listing.{bound_line}
use Rattle.trials.proofs.Asking.{bound_given}
use Rattle.trials.proofs.Text.{listed_as}
use Rattle.trials.proofs.listed.Goals as goal

pub slice_bounds-bound-end : goal.slice_bounds-bound-end
slice_bounds-bound-end c =
    omega (arith, (file_good c.args.file.now c.requires.passes).head)

pub returns-in-Ok-true : goal.returns-in-Ok-true
unfolding bound_line
returns-in-Ok-true c =
    c.cards.ensures ∙ listed_as c.args.file.now c.requires (rw c.in-Ok-true.field-0-test at c.in-Ok-true.ensures)

pub returns-in-Ok-false : goal.returns-in-Ok-false
unfolding bound_line
returns-in-Ok-false c =
    c.cards-in-Ok-false.ensures ∙ listed_as c.args.file.now c.requires (rw c.in-Ok-false.field-0-test at c.in-Ok-false.ensures)

-- it cannot be refused
pub returns-in-Err : goal.returns-in-Err
returns-in-Err c =
    absurd (bound_given c.args.file.now c.requires c.in-Err.ensures)

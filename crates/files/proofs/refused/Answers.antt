-- `files::refused` meets its contract: the verdict on the shape, then on the turn, on the statuses and the value, and on the exceptions.
use mathlib.Core.Path.{◌≡◌, sym}
use native.Mathlib.Omega.{arith}
use Rattle.std.proofs.Common.{rules}
use Rattle.ground.proofs.Answers.{leaves_refusal, refused-first, then-decided}
use Rattle.ground.proofs.Bits.{back}
use Rattle.ground.proofs.Verdicts.{alone}
use Rattle.settings.specs.Settings.{turn_checks}
use Rattle.exchange.specs.Asked.{status_checks}
use Rattle.files.specs.File.{turn_in, value_in, statuses, shape_checks}
use Rattle.files.proofs.Good.{head_there}
use Rattle.files.proofs.refused.Goals as goal

pub returns-in_err-shape_refused : goal.returns-in_err-shape_refused
returns-in_err-shape_refused c =
    leaves_refusal _ _ c.from_residual.ensures.1 (refused-first (shape_checks c.args.file.now) _ tt _ c.in_err-shape_refused.ensures)

pub returns-in_err-turn_refused : goal.returns-in_err-turn_refused
returns-in_err-turn_refused c =
    let file = c.args.file.now in
    leaves_refusal _ _ c.from_residual-in_err-turn_refused.ensures.1
    (then-decided (shape_checks file) _ tt c.in_ok-shape_refused.ensures (refused-first (turn_checks (turn_in file)) _ tt _ (rw c.requires at c.in_err-turn_refused.ensures)))

pub slice_bounds-statuses_refused-end : goal.slice_bounds-statuses_refused-end
slice_bounds-statuses_refused-end c =
    omega (arith, head_there c.args.file.now (sym c.in_ok-shape_refused.ensures))

pub returns-in_err-statuses_refused : goal.returns-in_err-statuses_refused
returns-in_err-statuses_refused c =
    let file = c.args.file.now in
    let value-is : back c.args.h.x ≡ c.args.h.x = search rules in
    leaves_refusal _ _ c.from_residual-in_err-statuses_refused.ensures.1
    (then-decided (shape_checks file) _ tt c.in_ok-shape_refused.ensures
    (then-decided (turn_checks (turn_in file)) _ tt (rw c.requires at c.in_ok-turn_refused.ensures)
    (refused-first (status_checks (turn_in file).rack (value_in file) (statuses file)) _ tt _ (rw (value-is, c.requires) at c.in_err-statuses_refused.ensures))))

pub returns : goal.returns
returns c =
    let file = c.args.file.now in
    let value-is : back c.args.h.x ≡ c.args.h.x = search rules in
    then-decided (shape_checks file) _ tt c.in_ok-shape_refused.ensures
    (then-decided (turn_checks (turn_in file)) _ tt (rw c.requires at c.in_ok-turn_refused.ensures)
    (then-decided (status_checks (turn_in file).rack (value_in file) (statuses file)) _ tt (rw (value-is, c.requires) at c.in_ok-statuses_refused.ensures) (alone 16 c.when.ensures.asked c.exceptions_bad.ensures)))

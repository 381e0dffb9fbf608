-- `bound::bound_refused` meets its contract: the rack's verdict, then the length, then the statuses.
use mathlib.Core.List.{[], ◌∷◌}
use Rattle.ground.proofs.Answers.{leaves_refusal, refused-first, then-decided}
use Rattle.ground.proofs.Verdicts.{alone}
use Rattle.ground.specs.Checks.{check}
use Rattle.settings.specs.Settings.{rack_checks}
use Rattle.bound.proofs.bound_refused.Goals as goal

pub returns-in_err-rack_refused : goal.returns-in_err-rack_refused
returns-in_err-rack_refused c =
    leaves_refusal _ _ c.from_residual.ensures.1 (refused-first (rack_checks c.args.rack) _ tt _ c.in_err-rack_refused.ensures)

pub returns-in_err-when : goal.returns-in_err-when
returns-in_err-when c =
    leaves_refusal _ _ c.from_residual-in_err-when.ensures.1
    (then-decided (rack_checks c.args.rack) _ tt c.in_ok-rack_refused.ensures (refused-first (check 5 _ ∷ []) _ tt _ c.in_err-when.ensures.asked))

pub returns : goal.returns
returns c =
    then-decided (rack_checks c.args.rack) _ tt c.in_ok-rack_refused.ensures
    (then-decided (check 5 _ ∷ []) _ tt c.in_ok-when.ensures.asked (alone 7 c.when-2.ensures.asked c.statuses_bad.ensures))

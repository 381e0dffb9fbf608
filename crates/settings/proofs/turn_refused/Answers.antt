-- `settings::turn_refused` meets its contract: the verdict on the rack, then the sender.
use mathlib.Core.Path.{ap}
use mathlib.Core.Bool.{not}
use Rattle.ground.proofs.Answers.{leaves_refusal, refused-first, then-decided}
use Rattle.ground.proofs.Verdicts.{alone}
use Rattle.settings.specs.Settings.{rack_checks}
use Rattle.settings.proofs.turn_refused.Goals as goal

pub returns-in_err-rack_refused : goal.returns-in_err-rack_refused
returns-in_err-rack_refused c =
    leaves_refusal _ _ c.from_residual.ensures.1 (refused-first (rack_checks c.args.turn.rack) _ tt _ c.in_err-rack_refused.ensures)

pub returns : goal.returns
returns c =
    then-decided (rack_checks c.args.turn.rack) _ tt c.in_ok-rack_refused.ensures (alone 3 c.when.ensures.asked (ap not c.fits.ensures))

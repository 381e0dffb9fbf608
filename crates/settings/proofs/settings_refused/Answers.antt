-- `settings::settings_refused` meets its contract: the verdict on the turn, then the own card.
use mathlib.Core.Path.{ap}
use mathlib.Core.Bool.{not}
use Rattle.ground.proofs.Answers.{leaves_refusal, refused-first, then-decided}
use Rattle.ground.proofs.Verdicts.{alone}
use Rattle.settings.specs.Settings.{turn_of, turn_checks}
use Rattle.settings.proofs.settings_refused.Goals as goal

pub returns-in_err-turn_refused : goal.returns-in_err-turn_refused
returns-in_err-turn_refused c =
    leaves_refusal _ _ c.from_residual.ensures.1 (refused-first (turn_checks (turn_of c.args.s)) _ tt _ c.in_err-turn_refused.ensures)

pub returns : goal.returns
returns c =
    then-decided (turn_checks (turn_of c.args.s)) _ tt c.in_ok-turn_refused.ensures (alone 4 c.when.ensures.asked (ap not c.fits.ensures))

-- `paths::is_live` meets its contract: the verdict decides.
use mathlib.Core.Path.{refl}
use Rattle.ground.proofs.Answers.{leaves_answer, answer-given}
use Rattle.paths.specs.Asked.{live_asked}
use Rattle.paths.proofs.Members.{in_tells}
use Rattle.paths.proofs.is_live.Goals as goal

pub returns-in_err-settings_refused : goal.returns-in_err-settings_refused
unfolding live_asked
returns-in_err-settings_refused c = leaves_answer _ _ c.from_residual.ensures.1 c.in_err-settings_refused.ensures _

pub returns : goal.returns
unfolding live_asked
returns c =
    let a = c.args in
    answer-given c.in_ok-settings_refused.ensures refl (in_tells a.s a.slot c.may_relay-members.ensures c.live_in.ensures)

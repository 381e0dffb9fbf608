-- `Settings::new` meets its contract: the verdict decides.
use mathlib.Core.Path.{refl}
use Rattle.ground.proofs.Answers.{leaves_answer, answer-given}
use Rattle.settings.proofs.Settings.new.Goals as goal

pub returns-in_err-settings_refused : goal.returns-in_err-settings_refused
returns-in_err-settings_refused c = leaves_answer _ _ c.from_residual.ensures.1 c.in_err-settings_refused.ensures _

pub returns : goal.returns
returns c = answer-given c.in_ok-settings_refused.ensures refl refl

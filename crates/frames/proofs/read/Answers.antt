-- `frames::read` meets its contract: the verdict decides.
use mathlib.Core.Path.{refl}
use Rattle.ground.proofs.Answers.{leaves_answer, answer-given}
use Rattle.frames.specs.Asked.{read_asked}
use Rattle.frames.proofs.read.Goals as goal

pub returns-in_err-refused : goal.returns-in_err-refused
unfolding read_asked
returns-in_err-refused c = leaves_answer _ _ c.from_residual.ensures.1 c.in_err-refused.ensures _

pub returns : goal.returns
unfolding read_asked
returns c = answer-given c.in_ok-refused.ensures refl c.frame_of.ensures

-- `outcomes::start` meets its contract: ten rows of ten E.
use mathlib.Core.Path.{refl}
use Rattle.outcomes.specs.Rows.{start}
use Rattle.outcomes.proofs.start.Goals as goal

pub returns : goal.returns
unfolding start
returns c = refl

-- `bound::bound` meets its contract: the verdict decides, then the three counts.
use mathlib.Core.Path.{refl, sym}
use native.Mathlib.Omega.{arith}
use Rattle.ground.proofs.Answers.{leaves_answer, answer-given}
use Rattle.ground.proofs.Verdicts.{no_verdicts}
use Rattle.settings.specs.Settings.{rack_checks}
use Rattle.settings.proofs.Good.{rack_good}
use Rattle.exchange.specs.Exchange.{statuses_of}
use Rattle.bound.specs.Bound.{bound_asked}
use Rattle.bound.proofs.Counting.{bounded_by}
use Rattle.bound.proofs.bound.Goals as goal
use Rattle.bound.proofs.bound.Goals.{After-count_of-c}

pub returns-in_err-bound_refused : goal.returns-in_err-bound_refused
unfolding bound_asked
returns-in_err-bound_refused c = leaves_answer _ _ c.from_residual.ensures.1 c.in_err-bound_refused.ensures _

-- no sum is large
pub overflow_add-result-3 : goal.overflow_add-result-3
overflow_add-result-3 c =
    let deep = (rack_good c.args.rack (no_verdicts (rack_checks c.args.rack) _ tt (sym c.in_ok-bound_refused.ensures)).0).deep in
    omega arith

pub returns : goal.returns
unfolding bound_asked
returns c =
    let a = c.args in
    answer-given c.in_ok-bound_refused.ensures refl (bounded_by a.rack (statuses_of a.statuses.now) c.count_of-a.ensures.value c.count_of-s.ensures.value c.count_of-c.ensures.value c.cards.ensures)

-- `bench::answer_for` meets its contract: the verdict decides.
use mathlib.Core.Path.{refl}
use Rattle.std.proofs.Common.{rules}
use Rattle.ground.proofs.Answers.{leaves_answer, answer-given}
use Rattle.exchange.specs.Asked.{inputs_long}
use Rattle.bench.specs.Asked.{answer_for_asked}
use Rattle.exchange.proofs.Asking.{card-asked, deals, own-card}
use Rattle.bench.proofs.answer_for.Goals as goal

pub returns-in_err-card_refused : goal.returns-in_err-card_refused
unfolding answer_for_asked
returns-in_err-card_refused c = leaves_answer _ _ c.from_residual.ensures.1 (search rules) _

pub dealt_answer-requires : goal.dealt_answer-requires
dealt_answer-requires c =
    let a = c.args in
    let given = card-asked a.s a.x a.statuses.now (inputs_long a.statuses.now a.table.now) (search rules) in
    (deals _ a.statuses.now a.table.now given.0.turn given.1, given.0.turn.rack.deep, own-card a.s given.0)

pub returns : goal.returns
unfolding answer_for_asked
returns c = answer-given {no = 0} (search rules) refl (search rules)

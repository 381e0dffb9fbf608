-- `outcomes::row_for` meets its contract: all answers, asked for a row of ten E.
use mathlib.Core.Path.{refl, sym}
use Rattle.std.proofs.Common.{rules}
use Rattle.ground.proofs.Answers.{leaves_answer, answer-given}
use Rattle.outcomes.specs.Asked.{row_made}
use Rattle.outcomes.proofs.Asking.{answers_refused, answers_done, sender_ten}
use Rattle.outcomes.proofs.row_for.Goals as goal

pub returns-in_err-all_answers-clause-row : goal.returns-in_err-all_answers-clause-row
unfolding row_made
returns-in_err-all_answers-clause-row c =
    let a = c.args in
    leaves_answer _ _ c.from_residual.ensures.1 (answers_refused a.turn a.x a.statuses.now a.table.now {row = c.all_answers.new.answers} (search rules)) _

pub returns : goal.returns
unfolding row_made
returns c =
    let a = c.args in
    let done = answers_done a.turn a.x a.statuses.now a.table.now {row = c.all_answers.new.answers} (search rules) in
    record { row = answer-given done.0 refl done.1; sender = sender_ten a.turn a.x a.statuses.now a.table.now (sym done.0) }

-- `outcomes::set_row` meets its contract: the outcome as it was with a refusal, or the row at its sender's place.
use Rattle.std.proofs.Common.{rules}
use Rattle.outcomes.proofs.Asking.{row_refused, row_set}
use Rattle.outcomes.proofs.set_row.Goals as goal

pub returns-in-Ok : goal.returns-in-Ok
returns-in-Ok c =
    let a = c.args in
    row_set a.turn a.x a.statuses.now a.table.now {row = c.in-Ok.row} (search rules) a.outcome

pub returns-in-Err : goal.returns-in-Err
returns-in-Err c =
    let a = c.args in
    row_refused a.turn a.x a.statuses.now a.table.now (search rules) a.outcome

-- `outcomes::set_in_list` meets its contract: a refusal, or the row put over the ten words from its sender's first on.
use mathlib.Core.Path.{refl, sym, ap, ◌∙◌}
use native.Mathlib.Omega.{arith}
use borrow.Author.Tests.{eq-eqb}
use lib.ListN.{length}
use Rattle.std.proofs.Common.{rules}
use Rattle.ground.specs.Lists.{with_part}
use Rattle.ground.proofs.Answers.{leaves_outcome, outcome-refused, refused-first, then-decided}
use Rattle.ground.proofs.Parts.{part_back}
use Rattle.settings.specs.Settings.{turn_checks}
use Rattle.outcomes.specs.Rows.{outcome_words}
use Rattle.outcomes.specs.Asked.{list_asked}
use Rattle.outcomes.proofs.Asking.{right-long, row_number, list_set, list_wrong}
use Rattle.outcomes.proofs.set_in_list.Goals as goal

pub returns-in_err-turn_refused : goal.returns-in_err-turn_refused
unfolding list_asked
returns-in_err-turn_refused c =
    leaves_outcome _ _ c.from_residual.ensures.1 (refused-first (turn_checks c.args.turn) _ tt _ c.in_err-turn_refused.ensures) _ _

pub returns-then-list-ne-LIST : goal.returns-then-list-ne-LIST
unfolding list_asked
returns-then-list-ne-LIST c =
    let a = c.args in
    outcome-refused (then-decided (turn_checks a.turn) _ tt c.in_ok-turn_refused.ensures (list_wrong a.turn a.x a.statuses.now a.table.now a.list.now c.if-list-ne-LIST.true)) (λ z. omega arith) _ _

pub returns-in_err-row : goal.returns-in_err-row
unfolding list_asked
returns-in_err-row c =
    let a = c.args in
    leaves_outcome _ _ c.from_residual-in_err-row.ensures.1
    (row_number a.turn a.x a.statuses.now a.table.now (search rules) ∙ sym (right-long a.turn a.x a.statuses.now a.table.now (eq-eqb (length a.list.now) outcome_words c.if-list-ne-LIST.false))) _ _

pub returns : goal.returns
returns c =
    let a = c.args in
    list_set a.turn a.x a.statuses.now a.table.now {row = c.in_ok-row.row} (search rules) a.list.now c.if-list-ne-LIST.false
    (part_back 10 a.turn.t a.list.now refl c.copy_from_slice.new.self ∙ ap (with_part 10 a.turn.t a.list.now) c.copy_from_slice.ensures.after)

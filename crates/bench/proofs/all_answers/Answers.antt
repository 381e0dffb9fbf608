-- `bench::all_answers` meets its contract: the verdict decides.
use mathlib.Core.Path.{◌≡◌, refl, sym}
use mathlib.Core.Bool.{and-eq-true_iff}
use borrow.Author.Tests.{eqb-true}
use lib.Dec.{eqb}
use lib.ListN.{length}
use Rattle.std.proofs.Common.{rules}
use Rattle.ground.specs.Checks.{verdict}
use Rattle.ground.proofs.Answers.{leaves_outcome, outcome_done, refused-first, then-decided}
use Rattle.settings.specs.Settings.{turn_checks}
use Rattle.exchange.specs.Asked.{inputs_long}
use Rattle.bench.specs.Asked.{answers_checks, answers_asked}
use Rattle.exchange.proofs.Asking.{turn-asked, deals}
use Rattle.bench.proofs.all_answers.Goals as goal
use Rattle.bench.proofs.all_answers.Goals.{In_ok-values_refused}

pub returns-in_err-turn_refused : goal.returns-in_err-turn_refused
unfolding answers_asked
returns-in_err-turn_refused c =
    leaves_outcome _ _ c.from_residual.ensures.1 (refused-first (turn_checks c.args.turn) _ tt _ c.in_err-turn_refused.ensures) _ _

pub returns-in_err-values_refused : goal.returns-in_err-values_refused
unfolding answers_asked
returns-in_err-values_refused c =
    leaves_outcome _ _ c.from_residual-in_err-values_refused.ensures.1
    (then-decided (turn_checks c.args.turn) _ tt c.in_ok-turn_refused.ensures (search rules)) _ _

none : (c : In_ok-values_refused) → let a = c.args in 0 ≡ verdict (answers_checks a.turn a.x a.statuses.now a.table.now a.answers.now)
none c = then-decided (turn_checks c.args.turn) _ tt c.in_ok-turn_refused.ensures (search rules)

pub answer_all-requires : goal.answer_all-requires
answer_all-requires c =
    let a = c.args in
    let given = turn-asked a.turn a.x a.statuses.now _ (sym (none (goal.at.answer_all-requires c).In_ok-values_refused)) in
    let long = (and-eq-true_iff (inputs_long a.statuses.now a.table.now) (eqb (length a.answers.now) 10)).0 given.1 in
    (deals a.turn a.statuses.now a.table.now given.0 long.0, given.0.rack.deep, eqb-true _ 10 long.1)

pub returns : goal.returns
unfolding answers_asked
returns c = outcome_done (none (goal.at.returns c).In_ok-values_refused) refl _ (search rules)

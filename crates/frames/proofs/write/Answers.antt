-- `frames::write` meets its contract: the buffer's length, then the record.
use mathlib.Core.Path.{refl, sym, ap}
use mathlib.Core.Bool.{not}
use borrow.Author.Tests.{eqb-true, not-false}
use Rattle.ground.proofs.Answers.{leaves_outcome, outcome_done, refused-first, then-decided}
use Rattle.ground.proofs.Verdicts.{no_verdict, alone}
use Rattle.frames.specs.Asked.{write_asked}
use Rattle.frames.proofs.write.Goals as goal

pub returns-in_err-when : goal.returns-in_err-when
unfolding write_asked
returns-in_err-when c = leaves_outcome _ _ c.from_residual.ensures.1 (refused-first _ _ tt _ c.in_err-when.ensures.asked) _ _

pub returns-in_err-when-2 : goal.returns-in_err-when-2
unfolding write_asked
returns-in_err-when-2 c =
    leaves_outcome _ _ c.from_residual-in_err-when-2.ensures.1 (then-decided _ _ tt c.in_ok-when.ensures.asked (alone 14 c.in_err-when-2.ensures.asked (ap not c.well_formed-2.ensures))) _ _

pub put-requires : goal.put-requires
put-requires c = eqb-true _ _ (not-false _ (no_verdict _ tt (sym c.in_ok-when.ensures.asked)).0)

pub returns : goal.returns
unfolding write_asked
returns c =
    outcome_done (then-decided _ _ tt c.in_ok-when.ensures.asked (alone 14 c.in_ok-when-2.ensures.asked (ap not c.well_formed-2.ensures))) refl _ c.put.ensures

-- `frames::refused` meets its contract: the checks of `read_checks`, one after the other.
use mathlib.Core.Path.{ap, ◌∙◌}
use mathlib.Core.Bool.{not}
use Rattle.ground.proofs.Answers.{leaves_refusal, refused-first, then-decided}
use Rattle.ground.proofs.Verdicts.{alone}
use Rattle.frames.specs.Frame.{well_formed}
use Rattle.frames.proofs.refused.Goals as goal

pub returns-in_err-when : goal.returns-in_err-when
returns-in_err-when c = leaves_refusal _ _ c.from_residual.ensures.1 (refused-first _ _ tt _ c.in_err-when.ensures.asked)

pub returns-in_err-when-2 : goal.returns-in_err-when-2
returns-in_err-when-2 c =
    leaves_refusal _ _ c.from_residual-in_err-when-2.ensures.1
    (then-decided _ _ tt c.in_ok-when.ensures.asked (refused-first _ _ tt _ (alone 10 c.in_err-when-2.ensures.asked (ap not c.starts_with.ensures))))

pub returns-in_err-when-3 : goal.returns-in_err-when-3
returns-in_err-when-3 c =
    leaves_refusal _ _ c.from_residual-in_err-when-3.ensures.1
    (then-decided _ _ tt c.in_ok-when.ensures.asked (then-decided _ _ tt (alone 10 c.in_ok-when-2.ensures.asked (ap not c.starts_with.ensures)) (refused-first _ _ tt _ (alone 11 c.in_err-when-3.ensures.asked (cc c.get16.ensures)))))

pub returns : goal.returns
returns c =
    then-decided _ _ tt c.in_ok-when.ensures.asked
    (then-decided _ _ tt (alone 10 c.in_ok-when-2.ensures.asked (ap not c.starts_with.ensures))
    (then-decided _ _ tt (alone 11 c.in_ok-when-3.ensures.asked (cc c.get16.ensures))
    (alone 14 c.when-4.ensures.asked (ap not (c.well_formed-2.ensures ∙ ap well_formed c.frame_of.ensures)))))

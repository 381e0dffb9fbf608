-- `entering::over_held` meets its contract: the held votes of the members so far stand after the own report, and all of them decide.
use mathlib.Core.Path.{ap, ◌∙◌}
use borrow.Author.Rules.{rules, sfits_of}
use Rattle.ground.proofs.Bits.{back_is}
use Rattle.words.specs.Rule.{omh}
use Rattle.vote.proofs.Gather.{gather_none, gather_more, gather_same, gather_decides}
use Rattle.entering.proofs.over_held.Goals as goal
use Rattle.entering.proofs.over_held.Goals.{then-may, else-may}

pub loop-q-init : goal.loop-q-init
loop-q-init c = gather_none omh _ _ _ c.begin-reports.ensures

pub loop-q-preserved : goal.loop-q-preserved
loop-q-preserved c =
    let so_far = c.loop-q.invariant in
    elim c.if-may.branch [
      | then-may w ↦ gather_more so_far c.loop-q-test.true w.if-may.true (back_is (sfits_of w.read_at-vote.type_inv) ∙ w.read_at-vote.ensures ∙ ap (omh.read _) (search rules)) (w.reports-is ∙ w.add.ensures)
      | else-may w ↦ gather_same so_far w.if-may.false w.reports-is
    ]

pub returns : goal.returns
returns c =
    gather_decides c.loop-q.invariant c.loop-q.auto.q-end c.loop-q-test.false (back_is c.ranges.own) (back_is (sfits_of c.decide.type_inv) ∙ c.decide.ensures)

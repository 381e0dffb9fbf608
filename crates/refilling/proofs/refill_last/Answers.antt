-- `refilling::refill_last` meets its contract: the readings of the members so far stand in their places and after the own report.
use mathlib.Core.Path.{refl, ap, ◌∙◌}
use native.Mathlib.Omega.{arith}
use borrow.Author.Rules.{sfits_of}
use Rattle.ground.proofs.Bits.{back_is}
use Rattle.words.specs.Rule.{omh}
use Rattle.refilling.proofs.RefillOrder.{refill_reading, place_first, place_more, place_same, place_done}
use Rattle.refilling.proofs.refill_last.Goals as goal
use Rattle.refilling.proofs.refill_last.Goals.{then-may, else-may}

pub loop-q-init : goal.loop-q-init
loop-q-init c = place_first omh _ _ _ _ _ c.begin-reports.ensures

pub loop-q-preserved : goal.loop-q-preserved
loop-q-preserved c =
    let loop = c.loop-q in
    let h = c.loop-q-test.true in
    elim c.if-may.branch [
      | then-may w ↦
          let read = back_is (sfits_of w.read_at-vote.type_inv) ∙ w.read_at-vote.ensures ∙ ap (omh.read _) (back_is (sfits_of w.read_at-arg-1.given)) in
          place_more loop.invariant h refl w.if-may.true w.votes-is (refill_reading omh _ _ _ _ (omega arith) refl read) refl (w.reports-is ∙ w.add.ensures)
      | else-may w ↦ place_same loop.invariant h refl w.if-may.false w.votes-is w.reports-is
    ]

pub returns : goal.returns
returns c =
    place_done c.loop-q.invariant c.loop-q.auto.q-end c.loop-q-test.false (back_is c.ranges.own) (back_is (sfits_of c.decide.type_inv) ∙ c.decide.ensures)

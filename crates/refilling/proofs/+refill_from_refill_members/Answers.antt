-- `refilling::refill_from` and `refilling::refill_members`, which call each other, meet their contracts. The measure is the rounds left, as for the vote.
use mathlib.Core.Path.{refl, ap, ◌∙◌}
use borrow.Author.Rules.{sfits_of}
use Rattle.ground.proofs.Bits.{back_is}
use Rattle.words.specs.Rule.{omh}
use Rattle.paths.proofs.Handed.{put_back}
use Rattle.refilling.proofs.RefillOrder.{refill_reading, refill_decided, place_first, place_more, place_same, place_done}
use Rattle.refilling.proofs.+refill_from_refill_members.Goals as goal
use Rattle.refilling.proofs.+refill_from_refill_members.Goals.{refill_members-then-members-q, refill_members-else-members-q, refill_from-then-at-eq0, refill_from-else-at-eq0+then-at-eq1, refill_from-else-at-eq0+else-at-eq1}

pub refill_from-returns-clause-refilling : goal.refill_from-returns-clause-refilling
refill_from-returns-clause-refilling t c =
    let own = back_is (sfits_of c.read_at-own.type_inv) ∙ c.read_at-own.ensures ∙ ap (omh.read _) (back_is (sfits_of c.read_at-arg-1.given)) in
    elim c.if-at-eq0.branch [
      | refill_from-then-at-eq0 w ↦
          refill_reading omh _ _ _ _ w.if-at-eq0.true w.votes-is (w.vote-is ∙ own)
      | refill_from-else-at-eq0+then-at-eq1 w ↦
          refill_decided omh _ _ _ _ w.if-at-eq0.false w.votes-is own w.refill_last.ensures (w.vote-is ∙ back_is (sfits_of w.refill_last.type_inv))
      | refill_from-else-at-eq0+else-at-eq1 w ↦
          refill_decided omh _ _ _ _ w.if-at-eq0.false w.votes-is own w.refill_members.ensures.refilling_below (w.vote-is ∙ back_is (sfits_of w.refill_members.type_inv))
    ]

pub refill_members-loop-q-init : goal.refill_members-loop-q-init
refill_members-loop-q-init t c = record { members = refl; placing = place_first omh _ _ _ _ _ c.begin-reports.ensures }

pub refill_members-loop-q-preserved : goal.refill_members-loop-q-preserved
refill_members-loop-q-preserved t c =
    let loop = c.loop-q in
    let h = c.loop-q-test.true in
    let same = loop.invariant.members in
    elim c.if-members-q.branch [
      | refill_members-then-members-q w ↦
          let vote = w.refill_from-vote.ensures in
          record {
            members = w.members-is ∙ put_back loop.members _ loop.q w.if-members-q.true vote.members_unchanged ∙ same;
            placing = place_more loop.invariant.placing h same w.if-members-q.true w.votes-is vote.refilling (back_is (sfits_of w.refill_from-vote.type_inv)) (w.reports-is ∙ w.add.ensures);
          }
      | refill_members-else-members-q w ↦
          record { members = w.members-is ∙ same; placing = place_same loop.invariant.placing h same w.if-members-q.false w.votes-is w.reports-is }
    ]

pub refill_members-returns-clause-refilling_below : goal.refill_members-returns-clause-refilling_below
refill_members-returns-clause-refilling_below t c =
    place_done c.loop-q.invariant.placing c.loop-q.auto.q-end c.loop-q-test.false (back_is c.ranges.own) (back_is (sfits_of c.decide.type_inv) ∙ c.decide.ensures)

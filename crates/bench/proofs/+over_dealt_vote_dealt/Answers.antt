-- `bench::vote_dealt` and `bench::over_dealt`, which call each other, meet their contracts. The measure is the rounds left.
use mathlib.Core.Path.{ap, ◌∙◌}
use native.Mathlib.Omega.{arith}
use borrow.Author.Rules.{sfits_of}
use Rattle.ground.proofs.Bits.{back_is}
use Rattle.words.specs.Rule.{omh}
use Rattle.exchange.proofs.Dealing.{deals_below}
use Rattle.bench.proofs.Dealing.{voted-last, voted_all, below-first, below_more, below-same}
use Rattle.bench.proofs.+over_dealt_vote_dealt.Goals as goal
use Rattle.bench.proofs.+over_dealt_vote_dealt.Goals.{over_dealt-then-members-q, over_dealt-else-members-q}

pub vote_dealt-returns-then-at-eq0 : goal.vote_dealt-returns-then-at-eq0
vote_dealt-returns-then-at-eq0 t c =
    voted-last c.requires
    (back_is (sfits_of c.read_at-own.type_inv) ∙ c.read_at-own.ensures ∙ ap (omh.read c.args.at.d) (back_is (sfits_of c.sent_to.type_inv) ∙ c.sent_to.ensures))
    c.if-at-eq0.true

pub over_dealt-loop-q-init : goal.over_dealt-loop-q-init
over_dealt-loop-q-init t c = below-first c.begin-reports.ensures

pub over_dealt-vote_dealt-vote-requires : goal.over_dealt-vote_dealt-vote-requires
over_dealt-vote_dealt-vote-requires t c = (omega arith, deals_below c.requires.asked c.requires.more c.loop-q-test.true _ c.loop-q.invariant.same)

pub over_dealt-loop-q-preserved : goal.over_dealt-loop-q-preserved
over_dealt-loop-q-preserved t c =
    elim c.if-members-q.branch [
      | over_dealt-then-members-q w ↦ below_more c.requires.asked (back_is c.ranges.own ∙ c.requires.own_value) c.requires.more c.loop-q.invariant c.loop-q-test.true w.if-members-q.true
          (back_is (sfits_of w.sent_to-received.type_inv) ∙ w.sent_to-received.ensures)
          (back_is (sfits_of c.wrap-wrapped.type_inv) ∙ c.wrap-wrapped.ensures)
          (back_is (sfits_of w.sent_on-word.type_inv) ∙ w.sent_on-word.ensures)
          w.vote_dealt-vote.ensures (back_is (sfits_of w.vote_dealt-vote.type_inv)) (w.reports-is ∙ w.add.ensures) w.members-is
      | over_dealt-else-members-q w ↦ below-same c.loop-q.invariant w.if-members-q.false w.reports-is w.members-is
    ]

pub over_dealt-returns : goal.over_dealt-returns
over_dealt-returns t c =
    voted_all c.requires.asked (back_is c.ranges.own ∙ c.requires.own_value) c.requires.more c.loop-q.invariant c.loop-q.auto.q-end c.loop-q-test.false
    (back_is (sfits_of c.decide.type_inv) ∙ c.decide.ensures)

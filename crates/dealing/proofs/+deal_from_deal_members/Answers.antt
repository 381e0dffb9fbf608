-- `dealing::deal_from` and `dealing::deal_members`, which call each other, meet their contracts: the words of the longer paths by the members so far stand in their places. The measure is the rounds left.
use mathlib.Core.Path.{ap, ◌∙◌}
use native.Mathlib.Omega.{arith}
use borrow.Author.Rules.{sfits_of}
use lib.IntN.{ℤ}
use Rattle.ground.proofs.Bits.{back_is}
use Rattle.words.specs.Word.{read_at, wrapped}
use Rattle.exchange.proofs.Dealing.{deals_below}
use Rattle.dealing.proofs.DealOrder.{deal_last, deal_more, below-first, below_more, below-same}
use Rattle.dealing.proofs.+deal_from_deal_members.Goals as goal
use Rattle.dealing.proofs.+deal_from_deal_members.Goals.{deal_from-then-at-gt0, deal_from-else-at-gt0, deal_members-then-members-q, deal_members-else-members-q}

pub deal_from-returns : goal.deal_from-returns
deal_from-returns t c =
    let v = back_is (sfits_of c.sent_to.type_inv) ∙ c.sent_to.ensures in
    elim c.if-at-gt0.branch [
      | deal_from-then-at-gt0 w ↦ deal_more v w.if-at-gt0.true w.deal_members.ensures w.words-is w.members-is
      | deal_from-else-at-gt0 w ↦ deal_last v w.if-at-gt0.false w.words-is w.members-is
    ]

pub deal_members-loop-q-init : goal.deal_members-loop-q-init
deal_members-loop-q-init t c = below-first

pub deal_members-deal_from-requires : goal.deal_members-deal_from-requires
deal_members-deal_from-requires t c =
    (omega arith, (deals_below c.requires.asked c.requires.more c.loop-q-test.true _ c.loop-q.invariant.members, c.loop-q.auto.words ∙ c.requires.whole))

pub deal_members-loop-q-preserved : goal.deal_members-loop-q-preserved
deal_members-loop-q-preserved t c =
    let told = back_is (sfits_of c.relayed-told.type_inv) ∙ c.relayed-told.ensures ∙ ap (λ (v : ℤ). wrapped (read_at c.args.at.d v)) (back_is (sfits_of c.sent_to.type_inv) ∙ c.sent_to.ensures) in
    elim c.if-members-q.branch [
      | deal_members-then-members-q w ↦ below_more c.requires.asked c.requires.more c.loop-q.invariant c.loop-q-test.true w.if-members-q.true
          (back_is (sfits_of w.sent_to-received.type_inv) ∙ w.sent_to-received.ensures) told (back_is (sfits_of w.sent_on-word.type_inv) ∙ w.sent_on-word.ensures)
          w.deal_from.ensures w.words-is w.members-is
      | deal_members-else-members-q w ↦ below-same c.loop-q.invariant w.if-members-q.false w.words-is w.members-is
    ]

use Prim.Native.Nat.{◌+◌, ◌*◌}
use Rattle.words.specs.Rule.{omh}
use Rattle.dealing.specs.DealOrder.{DealtBelow}
use Rattle.dealing.proofs.+deal_from_deal_members.Given as goal

abbrev pub decreases-deal_from : goal.decreases-deal_from
decreases-deal_from l = 2 * l.at.left + 1

abbrev pub decreases-deal_members : goal.decreases-deal_members
decreases-deal_members l = 2 * l.at.left

abbrev pub invariant-deal_members-loop-q : goal.invariant-deal_members-loop-q
invariant-deal_members-loop-q l =
    DealtBelow omh l.statuses l.table l.p l.initial.members l.at l.sent l.initial.words l.q l.words l.members

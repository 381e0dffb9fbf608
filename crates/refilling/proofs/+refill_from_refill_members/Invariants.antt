use Prim.Native.Nat.{◌+◌, ◌*◌}
use mathlib.Core.Path.{◌≡◌}
use Rattle.words.specs.Rule.{omh}
use Rattle.refilling.proofs.RefillOrder.{Placing}
use Rattle.refilling.proofs.+refill_from_refill_members.Given as goal

abbrev pub decreases-refill_from : goal.decreases-refill_from
decreases-refill_from l = 2 * l.at.left + 1

abbrev pub decreases-refill_members : goal.decreases-refill_members
decreases-refill_members l = 2 * l.at.left

abbrev pub invariant-refill_members-loop-q : goal.invariant-refill_members-loop-q
invariant-refill_members-loop-q l = record {
  members : l.members ≡ l.initial.members;
  placing : Placing omh l.words l.initial.votes l.initial.members l.at l.own l.q l.votes l.reports;
}

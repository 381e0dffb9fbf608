use Prim.Native.Nat.{◌+◌, ◌-◌, ◌*◌}
use mathlib.Core.Path.{◌≡◌}
use mathlib.Core.Bool.{false}
use lib.ListN.{set}
use Rattle.words.specs.Rule.{omh}
use Rattle.paths.specs.Slots.{below}
use Rattle.paths.specs.Walk.{may}
use Rattle.vote.specs.Members.{member_vote}
use Rattle.vote.proofs.Gather.{Gathered}
use Rattle.vote.proofs.+instance_over_members.Given as goal

abbrev pub decreases-instance : goal.decreases-instance
decreases-instance l = 2 * l.at.left + 1

abbrev pub decreases-over_members : goal.decreases-over_members
decreases-over_members l = 2 * l.at.left

abbrev pub invariant-over_members-loop-q : goal.invariant-over_members-loop-q
invariant-over_members-loop-q l = record {
  members : l.members ≡ l.initial.members;
  reports : Gathered omh (may l.initial.members) (λ q. member_vote omh l.words (set l.initial.members q false) (l.at.left - 1) (l.at.d + 1) (below l.at.k q)) l.own l.q l.reports;
}

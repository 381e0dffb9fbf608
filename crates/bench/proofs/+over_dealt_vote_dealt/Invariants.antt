use Prim.Native.Nat.{◌+◌, ◌-◌, ◌*◌}
use Rattle.words.specs.Rule.{omh}
use Rattle.bench.proofs.Dealing.{VotedBelow}
use Rattle.bench.proofs.+over_dealt_vote_dealt.Given as goal

abbrev pub decreases-over_dealt : goal.decreases-over_dealt
decreases-over_dealt l = 2 * l.at.left

abbrev pub decreases-vote_dealt : goal.decreases-vote_dealt
decreases-vote_dealt l = 2 * l.at.left + 1

abbrev pub invariant-over_dealt-loop-q : goal.invariant-over_dealt-loop-q
invariant-over_dealt-loop-q l =
    VotedBelow omh l.statuses l.table l.p l.initial.members l.at l.sent l.own l.q l.reports l.members

abbrev pub decreases-over_dealt-loop-q : goal.decreases-over_dealt-loop-q
decreases-over_dealt-loop-q l = 10 - l.q

use Rattle.paths.proofs.Members.{Taking}
use Rattle.paths.proofs.take_out.Given as goal

abbrev pub invariant-loop-k : goal.invariant-loop-k
invariant-loop-k l = Taking l.initial.members l.slot l.members l.k

abbrev pub decreases-loop-k : goal.decreases-loop-k
decreases-loop-k l = l.k

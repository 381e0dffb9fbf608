use Rattle.ground.specs.Lists.{at}
use Rattle.words.specs.Rule.{omh}
use Rattle.paths.specs.Slots.{below}
use Rattle.paths.specs.Walk.{may}
use Rattle.vote.proofs.Gather.{Gathered}
use Rattle.entering.proofs.over_held.Given as goal

abbrev pub invariant-loop-q : goal.invariant-loop-q
invariant-loop-q l =
    Gathered omh (may l.members) (λ q. omh.read l.d (at l.votes (below l.k q))) l.own l.q l.reports

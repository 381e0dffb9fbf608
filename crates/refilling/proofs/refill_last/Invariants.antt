use Rattle.words.specs.Rule.{omh}
use Rattle.refilling.proofs.RefillOrder.{Placing}
use Rattle.refilling.proofs.refill_last.Given as goal

abbrev pub invariant-loop-q : goal.invariant-loop-q
invariant-loop-q l =
    Placing omh l.words l.initial.votes l.members l.at l.own l.q l.votes l.reports

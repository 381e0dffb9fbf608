-- `listing::read_input`: what is kept lies within the places, and a turn that goes on leaves fewer of them free.
use Rattle.std.proofs.Common.{◌≤◌, ◌-◌, length}
use Rattle.listing.proofs.read_input.Given as goal

abbrev pub invariant-loop-many : goal.invariant-loop-many
invariant-loop-many l = l.many ≤ length l.file

abbrev pub decreases-loop-many : goal.decreases-loop-many
decreases-loop-many l = length l.file - l.many

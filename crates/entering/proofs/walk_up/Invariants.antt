use mathlib.Core.List.{List}
use lib.IntN.{ℤ}
use Rattle.settings.specs.declared.Settings.{Settings}
use Rattle.entering.proofs.Steps.{Climbs}
use Rattle.entering.proofs.walk_up.Given as goal

-- for all settings and votes for which the walk begins so
abbrev pub invariant-loop-k : goal.invariant-loop-k
invariant-loop-k l =
    (s : Settings) (vs : List ℤ) → Climbs s l.words vs l.slot l.initial.votes l.initial.members l.initial.d l.initial.k → Climbs s l.words vs l.slot l.votes l.members l.d l.k

abbrev pub decreases-loop-k : goal.decreases-loop-k
decreases-loop-k l = l.k

-- `words::majority_of`: the search finds in `rest` what it finds in the list; too few of a word are seen, and the others of them are still to come.
use mathlib.Core.Path.{◌≡◌}
use Prim.Native.Nat.{◌≤◌, ◌+◌}
use lib.ListN.{length}
use Rattle.words.specs.Word.{E}
use Rattle.words.specs.Majority.{occurs}
use Rattle.words.specs.Rule.{omh}
use Rattle.words.specs.Counted.{majority_of}
use Rattle.words.proofs.majority_of.Given as goal

abbrev pub invariant-outer : goal.invariant-outer
invariant-outer l = (length l.rest ≤ length l.list) × (majority_of omh.struck E l.n l.rest ≡ majority_of omh.struck E l.n l.list)

abbrev pub decreases-outer : goal.decreases-outer
decreases-outer l = length l.rest

abbrev pub invariant-loop-seen : goal.invariant-loop-seen
invariant-loop-seen l = (length l.others ≤ length l.rest) × (l.seen + length l.others ≤ 1 + length l.rest) × (l.seen + occurs l.word l.others ≡ 1 + occurs l.word l.rest)

abbrev pub decreases-loop-seen : goal.decreases-loop-seen
decreases-loop-seen l = length l.others

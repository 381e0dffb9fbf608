-- `words::kept_len`: what is left and the struck words so far make up the list.
use mathlib.Core.Path.{◌≡◌}
use Prim.Native.Nat.{◌+◌}
use lib.ListN.{length, take}
use Rattle.std.specs.List.{count_by}
use Rattle.words.specs.Rule.{omh}
use Rattle.words.proofs.kept_len.Given as goal

abbrev pub invariant-loop-word : goal.invariant-loop-word
invariant-loop-word l = l.left + count_by omh.struck (take l.word-index l.list) ≡ length l.list

-- `words::majority_of` meets its contract, by the laws of the search.
use native.Mathlib.Omega.{arith}
use Rattle.words.proofs.Search.{recounting, occurs_most, search_found, search_next}
use Rattle.words.proofs.majority_of.Goals as goal

pub outer-preserved-then-is_empty : goal.outer-preserved-then-is_empty
outer-preserved-then-is_empty c = grind (arith, recounting, occurs_most, search_next)

pub loop-seen-preserved : goal.loop-seen-preserved
loop-seen-preserved c = grind (arith, recounting)

pub returns-then-half-seen : goal.returns-then-half-seen
returns-then-half-seen c = grind (arith, recounting, search_found)

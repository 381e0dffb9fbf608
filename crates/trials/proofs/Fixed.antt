-- The public function's contract fixes its answer and what it is lent: two outcomes that it allows are equal.
use Prim.Native.Nat.{ℕ}
use mathlib.Core.Path.{sym, ◌∙◌}
use mathlib.Core.List.{List}
use Rattle.ground.specs.Fixes.{Fixes}
use Rattle.trials.proofs.list.Kinds as list
use Rattle.trials.proofs.list.Reads as list_says

pub list_fixed : Fixes 2 list.ps list.r list_says.Post (ℕ × List ℕ) (λ κs x s. (x, s.1.0.now))
list_fixed κs a x y s t p q = λ i. ((p.0 ∙ sym q.0) i, (p.1 ∙ sym q.1) i)

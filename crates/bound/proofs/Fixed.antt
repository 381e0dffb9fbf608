-- The public function's contract fixes its answer: two answers that it allows are equal.
use mathlib.Core.Path.{sym, ◌∙◌}
use Rattle.ground.specs.Fixes.{Fixes}
use Rattle.std.specs.Prelude.{Bool, Result}
use Rattle.ground.specs.declared.refusal.Refusal.{Refusal}
use Rattle.ground.proofs.Answers.{result_apart}
use Rattle.bound.proofs.bound.Kinds as bound
use Rattle.bound.proofs.bound.Reads as bound_says

pub bound_fixed : Fixes 1 bound.ps bound.r bound_says.Post (Result Bool Refusal) (λ κs x s. x)
bound_fixed κs a x y s t p q = result_apart x y (p ∙ sym q)

-- Each public function's contract fixes its answer and what it is lent: two outcomes that it allows are equal.
use mathlib.Core.Path.{sym, ◌∙◌}
use mathlib.Core.List.{List}
use lib.IntN.{ℤ}
use Rattle.ground.specs.Fixes.{Fixes}
use Rattle.std.specs.Prelude.{Result}
use Rattle.files.specs.declared.Head.{Head}
use Rattle.ground.specs.declared.refusal.Refusal.{Refusal}
use Rattle.ground.proofs.Answers.{result_apart}
use Rattle.files.proofs.read.Kinds as read
use Rattle.files.proofs.read.Reads as read_says
use Rattle.files.proofs.tell.Kinds as tell
use Rattle.files.proofs.tell.Reads as tell_says

pub read_fixed : Fixes 1 read.ps read.r read_says.Post (Result Head Refusal) (λ κs x s. x)
read_fixed κs a x y s t p q = result_apart x y (p ∙ sym q)

pub tell_fixed : Fixes 2 tell.ps tell.r tell_says.Post (List ℤ) (λ κs x s. s.1.0.now)
tell_fixed κs a x y s t p q = p ∙ sym q

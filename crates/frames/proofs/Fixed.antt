-- Each public function's contract fixes its answer, and the lent buffer afterwards: two outcomes that it allows are equal.
use Prim.Native.Nat.{ℕ}
use mathlib.Core.Path.{sym, ◌∙◌}
use mathlib.Core.List.{List}
use Rattle.ground.specs.Fixes.{Fixes}
use Rattle.ground.specs.Answer.{Outcome, outcome}
use Rattle.std.specs.Prelude.{Result}
use Rattle.ground.specs.declared.refusal.Refusal.{Refusal}
use Rattle.ground.proofs.Answers.{refusal_apart, result_apart, outcome_apart}
use Rattle.frames.specs.declared.Frame.{Frame}
use Rattle.frames.proofs.frame_of.Kinds as frame_of
use Rattle.frames.proofs.frame_of.Reads as frame_of_says
use Rattle.frames.proofs.refused.Kinds as refused
use Rattle.frames.proofs.refused.Reads as refused_says
use Rattle.frames.proofs.read.Kinds as read
use Rattle.frames.proofs.read.Reads as read_says
use Rattle.frames.proofs.write.Kinds as write
use Rattle.frames.proofs.write.Reads as write_says

pub frame_of_fixed : Fixes 1 frame_of.ps frame_of.r frame_of_says.Post Frame (λ κs x s. x)
frame_of_fixed κs a x y s t p q = p ∙ sym q

pub refused_fixed : Fixes 1 refused.ps refused.r refused_says.Post (Result (Unit {0}) Refusal) (λ κs x s. x)
refused_fixed κs a x y s t p q = refusal_apart x y (p ∙ sym q)

pub read_fixed : Fixes 1 read.ps read.r read_says.Post (Result Frame Refusal) (λ κs x s. x)
read_fixed κs a x y s t p q = result_apart x y (p ∙ sym q)

pub write_fixed : Fixes 1 write.ps write.r write_says.Post (Outcome (Result (Unit {0}) Refusal) (List ℕ)) (λ κs x s. outcome x s.1.0.now)
write_fixed κs a x y s t p q = outcome_apart x y (p ∙ sym q)

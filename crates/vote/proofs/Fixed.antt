-- Each public function's contract fixes its answer, and what the reports are afterwards: two outcomes that it allows are equal.
use mathlib.Core.Path.{sym, ◌∙◌}
use mathlib.Core.List.{List}
use lib.IntN.{ℤ}
use Rattle.ground.specs.Fixes.{Fixes}
use Rattle.std.specs.Prelude.{Result}
use Rattle.ground.specs.declared.refusal.Refusal.{Refusal}
use Rattle.ground.proofs.Answers.{result_apart}
use Rattle.vote.proofs.reports.Reports.begin.Kinds as begin
use Rattle.vote.proofs.reports.Reports.begin.Reads as begin_says
use Rattle.vote.proofs.reports.Reports.add.Kinds as add
use Rattle.vote.proofs.reports.Reports.add.Reads as add_says
use Rattle.vote.proofs.reports.Reports.decide.Kinds as decide
use Rattle.vote.proofs.reports.Reports.decide.Reads as decide_says
use Rattle.vote.proofs.vote_at.Kinds as vote_at
use Rattle.vote.proofs.vote_at.Reads as vote_at_says
use Rattle.vote.proofs.answer.Kinds as answer
use Rattle.vote.proofs.answer.Reads as answer_says

pub begin_fixed : Fixes 0 begin.ps begin.r begin_says.Post (List ℤ) (λ κs x s. x)
begin_fixed κs a x y s t p q = p ∙ sym q

pub add_fixed : Fixes 1 add.ps add.r add_says.Post (List ℤ) (λ κs x s. s.0.now)
add_fixed κs a x y s t p q = p ∙ sym q

pub decide_fixed : Fixes 1 decide.ps decide.r decide_says.Post ℤ (λ κs x s. x)
decide_fixed κs a x y s t p q = p ∙ sym q

pub vote_at_fixed : Fixes 1 vote_at.ps vote_at.r vote_at_says.Post (Result ℤ Refusal) (λ κs x s. x)
vote_at_fixed κs a x y s t p q = result_apart x y (p ∙ sym q)

pub answer_fixed : Fixes 1 answer.ps answer.r answer_says.Post (Result ℤ Refusal) (λ κs x s. x)
answer_fixed κs a x y s t p q = result_apart x y (p ∙ sym q)

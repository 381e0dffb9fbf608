-- Each public function's contract fixes its answer and the lists that it is lent: two outcomes that it allows are equal.
use mathlib.Core.Path.{sym, ◌∙◌}
use mathlib.Core.List.{List}
use lib.IntN.{ℤ}
use Rattle.ground.specs.Answer.{Outcome, outcome}
use Rattle.ground.specs.Fixes.{Fixes}
use Rattle.std.specs.Prelude.{Result}
use Rattle.ground.specs.declared.refusal.Refusal.{Refusal}
use Rattle.ground.proofs.Answers.{result_apart, outcome_apart}
use Rattle.bench.proofs.answer_for.Kinds as answer_for
use Rattle.bench.proofs.answer_for.Reads as answer_for_says
use Rattle.bench.proofs.all_answers.Kinds as all_answers
use Rattle.bench.proofs.all_answers.Reads as all_answers_says

pub answer_for_fixed : Fixes 2 answer_for.ps answer_for.r answer_for_says.Post (Result ℤ Refusal) (λ κs x s. x)
answer_for_fixed κs a x y s t p q = result_apart x y (p ∙ sym q)

pub all_answers_fixed : Fixes 3 all_answers.ps all_answers.r all_answers_says.Post (Outcome (Result (Unit {0}) Refusal) (List ℤ)) (λ κs x s. outcome x s.1.1.1.1.0.now)
all_answers_fixed κs a x y s t p q = outcome_apart x y (p ∙ sym q)

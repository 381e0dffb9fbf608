-- Each public function's contract fixes its answer, and what both lists hold afterwards: two outcomes that it allows are equal.
use mathlib.Core.Path.{sym, ◌∙◌}
use mathlib.Core.Bool.{Bool}
use mathlib.Core.List.{List}
use lib.IntN.{ℤ}
use Rattle.ground.specs.Answer.{Outcome, outcome}
use Rattle.ground.specs.Fixes.{Fixes}
use Rattle.std.specs.Prelude.{Result}
use Rattle.ground.specs.declared.refusal.Refusal.{Refusal}
use Rattle.ground.proofs.Answers.{refusal_apart, result_apart, outcome_apart}
use Rattle.book.specs.Book.{Book, book_of}
use Rattle.book.proofs.Halves.{part_apart}
use Rattle.book.proofs.is_whole.Kinds as is_whole
use Rattle.book.proofs.is_whole.Reads as is_whole_says
use Rattle.book.proofs.book_refused.Kinds as book_refused
use Rattle.book.proofs.book_refused.Reads as book_refused_says
use Rattle.book.proofs.part_refused.Kinds as part_refused
use Rattle.book.proofs.part_refused.Reads as part_refused_says
use Rattle.book.proofs.open.Kinds as «open»
use Rattle.book.proofs.open.Reads as open_says
use Rattle.book.proofs.open_part.Kinds as open_part
use Rattle.book.proofs.open_part.Reads as open_part_says
use Rattle.book.proofs.held_answer.Kinds as held_answer
use Rattle.book.proofs.held_answer.Reads as held_answer_says

pub is_whole_fixed : Fixes 2 is_whole.ps is_whole.r is_whole_says.Post Bool (λ κs x s. x)
is_whole_fixed κs a x y s t p q = p ∙ sym q

pub book_refused_fixed : Fixes 2 book_refused.ps book_refused.r book_refused_says.Post (Result (Unit {0}) Refusal) (λ κs x s. x)
book_refused_fixed κs a x y s t p q = refusal_apart x y (p ∙ sym q)

pub part_refused_fixed : Fixes 1 part_refused.ps part_refused.r part_refused_says.Post (Result (Unit {0}) Refusal) (λ κs x s. x)
part_refused_fixed κs a x y s t p q = refusal_apart x y (p ∙ sym q)

pub open_fixed : Fixes 2 «open».ps «open».r open_says.Post (Outcome (Result (Unit {0}) Refusal) Book) (λ κs x s. outcome x (book_of s.1.0.now s.1.1.0.now))
open_fixed κs a x y s t p q = outcome_apart x y (p ∙ sym q)

pub open_part_fixed : Fixes 1 open_part.ps open_part.r open_part_says.Post (Outcome (Result (Unit {0}) Refusal) (List ℤ)) (λ κs x s. outcome x s.1.0.now)
open_part_fixed κs a x y s t p q = part_apart x y (p ∙ sym q)

-- a list that is lent to be read only stays as it is by its type: here both
pub held_answer_fixed : Fixes 2 held_answer.ps held_answer.r held_answer_says.Post (Result ℤ Refusal) (λ κs x s. x)
held_answer_fixed κs a x y s t p q = result_apart x y (p ∙ sym q)

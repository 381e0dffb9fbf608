-- Each public function's contract fixes its answer, and what each list holds afterwards: two outcomes that it allows are equal.
use mathlib.Core.Path.{sym, ◌∙◌}
use mathlib.Core.List.{List}
use lib.IntN.{ℤ}
use Rattle.ground.specs.Answer.{Outcome, outcome}
use Rattle.ground.specs.Fixes.{Fixes}
use Rattle.std.specs.Prelude.{Result}
use Rattle.ground.specs.declared.refusal.Refusal.{Refusal}
use Rattle.ground.proofs.Answers.{outcome_apart}
use Rattle.book.specs.Book.{Book, book_of}
use Rattle.book.proofs.Halves.{part_apart}
use Rattle.entering.proofs.enter.Kinds as enter
use Rattle.entering.proofs.enter.Reads as enter_says
use Rattle.entering.proofs.enter_part.Kinds as enter_part
use Rattle.entering.proofs.enter_part.Reads as enter_part_says

pub enter_fixed : Fixes 2 enter.ps enter.r enter_says.Post (Outcome (Result (Unit {0}) Refusal) Book) (λ κs x s. outcome x (book_of s.1.0.now s.1.1.0.now))
enter_fixed κs a x y s t p q = outcome_apart x y (p ∙ sym q)

pub enter_part_fixed : Fixes 1 enter_part.ps enter_part.r enter_part_says.Post (Outcome (Result (Unit {0}) Refusal) (List ℤ)) (λ κs x s. outcome x s.1.0.now)
enter_part_fixed κs a x y s t p q = part_apart x y (p ∙ sym q)

-- Each public function's contract fixes its answer, and both lent lists afterwards: two outcomes that it allows are equal.
use mathlib.Core.Path.{sym, ◌∙◌}
use Rattle.ground.specs.Fixes.{Fixes}
use Rattle.ground.specs.Answer.{Outcome, outcome}
use Rattle.std.specs.Prelude.{Result}
use Rattle.ground.specs.declared.refusal.Refusal.{Refusal}
use Rattle.ground.proofs.Answers.{result_apart, outcome_apart}
use Rattle.book.specs.Book.{Book, book_of}
use Rattle.entering.specs.declared.Entry.{Entry}
use Rattle.arrivals.proofs.entry_of.Kinds as entry_of
use Rattle.arrivals.proofs.entry_of.Reads as entry_of_says
use Rattle.arrivals.proofs.arrival.Kinds as arrival
use Rattle.arrivals.proofs.arrival.Reads as arrival_says
use Rattle.arrivals.proofs.enter.Kinds as enter
use Rattle.arrivals.proofs.enter.Reads as enter_says

pub entry_of_fixed : Fixes 0 entry_of.ps entry_of.r entry_of_says.Post (Result Entry Refusal) (λ κs x s. x)
entry_of_fixed κs a x y s t p q = result_apart x y (p ∙ sym q)

pub arrival_fixed : Fixes 1 arrival.ps arrival.r arrival_says.Post (Result Entry Refusal) (λ κs x s. x)
arrival_fixed κs a x y s t p q = result_apart x y (p ∙ sym q)

pub enter_fixed : Fixes 3 enter.ps enter.r enter_says.Post (Outcome (Result (Unit {0}) Refusal) Book) (λ κs x s. outcome x (book_of s.1.0.now s.1.1.0.now))
enter_fixed κs a x y s t p q = outcome_apart x y (p ∙ sym q)

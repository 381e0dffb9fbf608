-- Each public function's contract fixes its answer and the lists that it is lent: two outcomes that it allows are equal.
use mathlib.Core.Path.{sym, ◌∙◌}
use lib.IntN.{ℤ}
use Rattle.std.specs.Prelude.{Result}
use Rattle.ground.specs.Answer.{Outcome, outcome}
use Rattle.ground.specs.Fixes.{Fixes}
use Rattle.ground.specs.declared.refusal.Refusal.{Refusal}
use Rattle.ground.proofs.Answers.{result_apart, outcome_apart}
use Rattle.book.specs.Book.{Book, book_of}
use Rattle.dealing.proofs.word_for.Kinds as word_for
use Rattle.dealing.proofs.word_for.Reads as word_for_says
use Rattle.dealing.proofs.fill.Kinds as fill
use Rattle.dealing.proofs.fill.Reads as fill_says

pub word_for_fixed : Fixes 2 word_for.ps word_for.r word_for_says.Post (Result ℤ Refusal) (λ κs x s. x)
word_for_fixed κs a x y s t p q = result_apart x y (p ∙ sym q)

pub fill_fixed : Fixes 4 fill.ps fill.r fill_says.Post (Outcome (Result (Unit {0}) Refusal) Book) (λ κs x s. outcome x (book_of s.1.1.1.1.0.now s.1.1.1.1.1.0.now))
fill_fixed κs a x y s t p q = outcome_apart x y (p ∙ sym q)

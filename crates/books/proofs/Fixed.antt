-- Each public function's contract fixes its answer, and what the whole long list holds afterwards: two outcomes that it allows are equal.
use mathlib.Core.Path.{sym, ◌∙◌}
use mathlib.Core.List.{List}
use lib.IntN.{ℤ}
use Rattle.ground.specs.Answer.{Outcome, outcome}
use Rattle.ground.specs.Fixes.{Fixes}
use Rattle.std.specs.Prelude.{Result}
use Rattle.ground.specs.declared.refusal.Refusal.{Refusal}
use Rattle.ground.proofs.Answers.{refusal_apart, outcome_apart}
use Rattle.books.proofs.books_refused.Kinds as books_refused
use Rattle.books.proofs.books_refused.Reads as books_refused_says
use Rattle.books.proofs.open.Kinds as «open»
use Rattle.books.proofs.open.Reads as open_says
use Rattle.books.proofs.enter.Kinds as enter
use Rattle.books.proofs.enter.Reads as enter_says
use Rattle.books.proofs.refill.Kinds as refill
use Rattle.books.proofs.refill.Reads as refill_says
use Rattle.books.proofs.enter_frame.Kinds as enter_frame
use Rattle.books.proofs.enter_frame.Reads as enter_frame_says

pub books_refused_fixed : Fixes 1 books_refused.ps books_refused.r books_refused_says.Post (Result (Unit {0}) Refusal) (λ κs x s. x)
books_refused_fixed κs a x y s t p q = refusal_apart x y (p ∙ sym q)

pub open_fixed : Fixes 1 «open».ps «open».r open_says.Post (Outcome (Result (Unit {0}) Refusal) (List ℤ)) (λ κs x s. outcome x s.1.0.now)
open_fixed κs a x y s t p q = outcome_apart x y (p ∙ sym q)

pub enter_fixed : Fixes 1 enter.ps enter.r enter_says.Post (Outcome (Result (Unit {0}) Refusal) (List ℤ)) (λ κs x s. outcome x s.1.0.now)
enter_fixed κs a x y s t p q = outcome_apart x y (p ∙ sym q)

pub refill_fixed : Fixes 1 refill.ps refill.r refill_says.Post (Outcome (Result (Unit {0}) Refusal) (List ℤ)) (λ κs x s. outcome x s.1.0.now)
refill_fixed κs a x y s t p q = outcome_apart x y (p ∙ sym q)

pub enter_frame_fixed : Fixes 2 enter_frame.ps enter_frame.r enter_frame_says.Post (Outcome (Result (Unit {0}) Refusal) (List ℤ)) (λ κs x s. outcome x s.1.0.now)
enter_frame_fixed κs a x y s t p q = outcome_apart x y (p ∙ sym q)

-- Each public function's contract fixes its answer, and what the votes or the whole list hold afterwards: two outcomes that it allows are equal.
use mathlib.Core.Path.{sym, ap, ◌∙◌}
use mathlib.Core.List.{List}
use lib.IntN.{ℤ}
use Rattle.ground.specs.Answer.{Outcome, outcome}
use Rattle.ground.specs.Fixes.{Fixes}
use Rattle.std.specs.Prelude.{Result}
use Rattle.ground.specs.declared.refusal.Refusal.{Refusal}
use Rattle.ground.proofs.Answers.{outcome_apart}
use Rattle.book.specs.Book.{Book}
use Rattle.book.proofs.Halves.{part_apart}
use Rattle.refilling.proofs.refill.Kinds as refill
use Rattle.refilling.proofs.refill.Reads as refill_says
use Rattle.refilling.proofs.refill_part.Kinds as refill_part
use Rattle.refilling.proofs.refill_part.Reads as refill_part_says

-- the words are lent to be read only, and stay by their type
pub refill_fixed : Fixes 2 refill.ps refill.r refill_says.Post (Outcome (Result (Unit {0}) Refusal) (List ℤ)) (λ κs x s. outcome x s.1.1.0.now)
refill_fixed κs a x y s t p q = ap (λ (o : Outcome (Result (Unit {0}) Refusal) Book). outcome o.yields o.leaves.votes) (outcome_apart x y (p ∙ sym q))

pub refill_part_fixed : Fixes 1 refill_part.ps refill_part.r refill_part_says.Post (Outcome (Result (Unit {0}) Refusal) (List ℤ)) (λ κs x s. outcome x s.1.0.now)
refill_part_fixed κs a x y s t p q = part_apart x y (p ∙ sym q)

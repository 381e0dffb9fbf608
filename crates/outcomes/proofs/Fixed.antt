-- Each public function's contract fixes its answer and what it is lent: two outcomes that it allows are equal.
use Prim.Native.Nat.{ℕ}
use mathlib.Core.Path.{sym, ap, ◌∙◌}
use mathlib.Core.List.{List}
use lib.IntN.{ℤ}
use Rattle.ground.specs.Answer.{Outcome, outcome}
use Rattle.ground.specs.Fixes.{Fixes}
use Rattle.std.specs.Prelude.{Result}
use Rattle.ground.specs.declared.refusal.Refusal.{Refusal}
use Rattle.ground.proofs.Answers.{refusal_apart, outcome_apart}
use Rattle.outcomes.proofs.start.Kinds as start
use Rattle.outcomes.proofs.start.Reads as start_says
use Rattle.outcomes.proofs.set_row.Kinds as set_row
use Rattle.outcomes.proofs.set_row.Reads as set_row_says
use Rattle.outcomes.proofs.start_list.Kinds as start_list
use Rattle.outcomes.proofs.start_list.Reads as start_list_says
use Rattle.outcomes.proofs.set_in_list.Kinds as set_in_list
use Rattle.outcomes.proofs.set_in_list.Reads as set_in_list_says

pub start_fixed : Fixes 0 start.ps start.r start_says.Post (List (List ℤ)) (λ κs x s. x)
start_fixed κs a x y s t p q = p ∙ sym q

pub set_row_fixed : Fixes 2 set_row.ps set_row.r set_row_says.Post (List (List ℤ) × Result (Unit {0}) Refusal) (λ κs x s. x)
set_row_fixed κs a x y s t p q =
    let rows = ap (λ (o : Outcome ℕ (List (List ℤ))). o.leaves) (p ∙ sym q) in
    let told = refusal_apart x.1 y.1 (ap (λ (o : Outcome ℕ (List (List ℤ))). o.yields) (p ∙ sym q)) in
    λ i. (rows i, told i)

pub start_list_fixed : Fixes 1 start_list.ps start_list.r start_list_says.Post (Outcome (Result (Unit {0}) Refusal) (List ℤ)) (λ κs x s. outcome x s.0.now)
start_list_fixed κs a x y s t p q = outcome_apart x y (p ∙ sym q)

pub set_in_list_fixed : Fixes 3 set_in_list.ps set_in_list.r set_in_list_says.Post (Outcome (Result (Unit {0}) Refusal) (List ℤ)) (λ κs x s. outcome x s.1.1.1.1.0.now)
set_in_list_fixed κs a x y s t p q = outcome_apart x y (p ∙ sym q)

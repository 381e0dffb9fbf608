-- Each public function's contract fixes its answer, and what the lent cards are afterwards: two outcomes that it allows are equal.
use Prim.Native.Nat.{ℕ}
use mathlib.Core.Path.{sym, ◌∙◌}
use mathlib.Core.Bool.{Bool}
use mathlib.Core.List.{List}
use Rattle.ground.specs.Answer.{Outcome, outcome}
use Rattle.ground.specs.Fixes.{Fixes}
use Rattle.std.specs.Prelude.{Result}
use Rattle.ground.specs.declared.refusal.Refusal.{Refusal}
use Rattle.ground.proofs.Answers.{result_apart}
use Rattle.paths.proofs.slot_of.Kinds as slot_of
use Rattle.paths.proofs.slot_of.Reads as slot_of_says
use Rattle.paths.proofs.slot_above.Kinds as slot_above
use Rattle.paths.proofs.slot_above.Reads as slot_above_says
use Rattle.paths.proofs.above.Kinds as above
use Rattle.paths.proofs.above.Reads as above_says
use Rattle.paths.proofs.last_relay.Kinds as last_relay
use Rattle.paths.proofs.last_relay.Reads as last_relay_says
use Rattle.paths.proofs.level_of.Kinds as level_of
use Rattle.paths.proofs.level_of.Reads as level_of_says
use Rattle.paths.proofs.rounds_left.Kinds as rounds_left
use Rattle.paths.proofs.rounds_left.Reads as rounds_left_says
use Rattle.paths.proofs.may_relay.Kinds as may_relay
use Rattle.paths.proofs.may_relay.Reads as may_relay_says
use Rattle.paths.proofs.live_in.Kinds as live_in
use Rattle.paths.proofs.live_in.Reads as live_in_says
use Rattle.paths.proofs.is_live.Kinds as is_live
use Rattle.paths.proofs.is_live.Reads as is_live_says

pub slot_of_fixed : Fixes 0 slot_of.ps slot_of.r slot_of_says.Post (Result ℕ Refusal) (λ κs x s. x)
slot_of_fixed κs a x y s t p q = result_apart x y (p ∙ sym q)

pub slot_above_fixed : Fixes 0 slot_above.ps slot_above.r slot_above_says.Post (Result ℕ Refusal) (λ κs x s. x)
slot_above_fixed κs a x y s t p q = result_apart x y (p ∙ sym q)

pub above_fixed : Fixes 0 above.ps above.r above_says.Post ℕ (λ κs x s. x)
above_fixed κs a x y s t p q = p ∙ sym q

pub last_relay_fixed : Fixes 0 last_relay.ps last_relay.r last_relay_says.Post ℕ (λ κs x s. x)
last_relay_fixed κs a x y s t p q = p ∙ sym q

pub level_of_fixed : Fixes 0 level_of.ps level_of.r level_of_says.Post ℕ (λ κs x s. x)
level_of_fixed κs a x y s t p q = p ∙ sym q

pub rounds_left_fixed : Fixes 0 rounds_left.ps rounds_left.r rounds_left_says.Post ℕ (λ κs x s. x)
rounds_left_fixed κs a x y s t p q = p ∙ sym q

pub may_relay_fixed : Fixes 0 may_relay.ps may_relay.r may_relay_says.Post (List Bool) (λ κs x s. x)
may_relay_fixed κs a x y s t p q = p ∙ sym q

pub live_in_fixed : Fixes 1 live_in.ps live_in.r live_in_says.Post (Outcome Bool (List Bool)) (λ κs x s. outcome x s.1.0.now)
live_in_fixed κs a x y s t p q = p ∙ sym q

pub is_live_fixed : Fixes 0 is_live.ps is_live.r is_live_says.Post (Result Bool Refusal) (λ κs x s. x)
is_live_fixed κs a x y s t p q = result_apart x y (p ∙ sym q)

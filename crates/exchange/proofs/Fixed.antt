-- Each public function's contract fixes its answer: two answers that it allows are equal.
use mathlib.Core.Path.{sym, ◌∙◌}
use mathlib.Core.Bool.{Bool}
use lib.IntN.{ℤ}
use Rattle.ground.specs.Fixes.{Fixes}
use Rattle.std.specs.Prelude.{Result}
use Rattle.ground.specs.declared.refusal.Refusal.{Refusal}
use Rattle.ground.proofs.Answers.{refusal_apart}
use Rattle.exchange.proofs.statuses_bad.Kinds as statuses_bad
use Rattle.exchange.proofs.statuses_bad.Reads as statuses_bad_says
use Rattle.exchange.proofs.statuses_refused.Kinds as statuses_refused
use Rattle.exchange.proofs.statuses_refused.Reads as statuses_refused_says
use Rattle.exchange.proofs.values_refused.Kinds as values_refused
use Rattle.exchange.proofs.values_refused.Reads as values_refused_says
use Rattle.exchange.proofs.inputs_long.Kinds as inputs_long
use Rattle.exchange.proofs.inputs_long.Reads as inputs_long_says
use Rattle.exchange.proofs.card_refused.Kinds as card_refused
use Rattle.exchange.proofs.card_refused.Reads as card_refused_says
use Rattle.exchange.proofs.sent_by.Kinds as sent_by
use Rattle.exchange.proofs.sent_by.Reads as sent_by_says
use Rattle.exchange.proofs.Sent.received.Kinds as received
use Rattle.exchange.proofs.Sent.received.Reads as received_says
use Rattle.exchange.proofs.relayed.Kinds as relayed
use Rattle.exchange.proofs.relayed.Reads as relayed_says
use Rattle.exchange.proofs.sent_on.Kinds as sent_on
use Rattle.exchange.proofs.sent_on.Reads as sent_on_says

pub statuses_bad_fixed : Fixes 1 statuses_bad.ps statuses_bad.r statuses_bad_says.Post Bool (λ κs x s. x)
statuses_bad_fixed κs a x y s t p q = p ∙ sym q

pub statuses_refused_fixed : Fixes 1 statuses_refused.ps statuses_refused.r statuses_refused_says.Post (Result (Unit {0}) Refusal) (λ κs x s. x)
statuses_refused_fixed κs a x y s t p q = refusal_apart x y (p ∙ sym q)

pub values_refused_fixed : Fixes 1 values_refused.ps values_refused.r values_refused_says.Post (Result (Unit {0}) Refusal) (λ κs x s. x)
values_refused_fixed κs a x y s t p q = refusal_apart x y (p ∙ sym q)

pub inputs_long_fixed : Fixes 2 inputs_long.ps inputs_long.r inputs_long_says.Post Bool (λ κs x s. x)
inputs_long_fixed κs a x y s t p q = p ∙ sym q

pub card_refused_fixed : Fixes 1 card_refused.ps card_refused.r card_refused_says.Post (Result (Unit {0}) Refusal) (λ κs x s. x)
card_refused_fixed κs a x y s t p q = refusal_apart x y (p ∙ sym q)

pub sent_by_fixed : Fixes 0 sent_by.ps sent_by.r sent_by_says.Post ℤ (λ κs x s. x)
sent_by_fixed κs a x y s t p q = p ∙ sym q

pub received_fixed : Fixes 0 received.ps received.r received_says.Post ℤ (λ κs x s. x)
received_fixed κs a x y s t p q = p ∙ sym q

pub relayed_fixed : Fixes 0 relayed.ps relayed.r relayed_says.Post ℤ (λ κs x s. x)
relayed_fixed κs a x y s t p q = p ∙ sym q

pub sent_on_fixed : Fixes 0 sent_on.ps sent_on.r sent_on_says.Post ℤ (λ κs x s. x)
sent_on_fixed κs a x y s t p q = p ∙ sym q

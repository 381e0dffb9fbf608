-- Each public function's contract fixes its answer: two answers that it allows are equal.
use Rattle.std.proofs.Common.{ℕ, sym, ◌∙◌}
use Rattle.ground.specs.Fixes.{Fixes}
use Rattle.ages.specs.declared.Age.{Age}
use Rattle.ages.proofs.next_exchange.Kinds as next_exchange
use Rattle.ages.proofs.next_exchange.Reads as next_exchange_says
use Rattle.ages.proofs.age_of.Kinds as age_of
use Rattle.ages.proofs.age_of.Reads as age_of_says
use Rattle.ages.proofs.age_class.Kinds as age_class
use Rattle.ages.proofs.age_class.Reads as age_class_says

pub next_exchange_fixed : Fixes 0 next_exchange.ps next_exchange.r next_exchange_says.Post ℕ (λ κs x s. x)
next_exchange_fixed κs a x y s t p q = p ∙ sym q

pub age_of_fixed : Fixes 0 age_of.ps age_of.r age_of_says.Post ℕ (λ κs x s. x)
age_of_fixed κs a x y s t p q = p ∙ sym q

pub age_class_fixed : Fixes 0 age_class.ps age_class.r age_class_says.Post Age (λ κs x s. x)
age_class_fixed κs a x y s t p q = p ∙ sym q

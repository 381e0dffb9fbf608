-- Each public function's contract fixes its answer: two answers that it allows are equal.
use Prim.Native.Nat.{ℕ}
use mathlib.Core.Path.{sym, ◌∙◌}
use lib.IntN.{ℤ}
use Rattle.ground.specs.Fixes.{Fixes}
use Rattle.words.specs.declared.Kind.{Kind}
use Rattle.words.proofs.kind_of.Kinds as kind_of
use Rattle.words.proofs.kind_of.Reads as kind_of_says
use Rattle.words.proofs.read_at.Kinds as read_at
use Rattle.words.proofs.read_at.Reads as read_at_says
use Rattle.words.proofs.wrap.Kinds as wrap
use Rattle.words.proofs.wrap.Reads as wrap_says
use Rattle.words.proofs.unwrap.Kinds as unwrap
use Rattle.words.proofs.unwrap.Reads as unwrap_says
use Rattle.words.proofs.majority.Kinds as majority
use Rattle.words.proofs.majority.Reads as majority_says
use Rattle.words.proofs.weight.Kinds as weight
use Rattle.words.proofs.weight.Reads as weight_says
use Rattle.words.proofs.decide.Kinds as decide
use Rattle.words.proofs.decide.Reads as decide_says

pub kind_of_fixed : Fixes 0 kind_of.ps kind_of.r kind_of_says.Post Kind (λ κs x s. x)
kind_of_fixed κs a x y s t p q = p ∙ sym q

pub read_at_fixed : Fixes 0 read_at.ps read_at.r read_at_says.Post ℤ (λ κs x s. x)
read_at_fixed κs a x y s t p q = p ∙ sym q

pub wrap_fixed : Fixes 0 wrap.ps wrap.r wrap_says.Post ℤ (λ κs x s. x)
wrap_fixed κs a x y s t p q = p ∙ sym q

pub unwrap_fixed : Fixes 0 unwrap.ps unwrap.r unwrap_says.Post ℤ (λ κs x s. x)
unwrap_fixed κs a x y s t p q = p ∙ sym q

pub majority_fixed : Fixes 1 majority.ps majority.r majority_says.Post ℤ (λ κs x s. x)
majority_fixed κs a x y s t p q = p ∙ sym q

pub weight_fixed : Fixes 0 weight.ps weight.r weight_says.Post ℕ (λ κs x s. x)
weight_fixed κs a x y s t p q = p ∙ sym q

pub decide_fixed : Fixes 1 decide.ps decide.r decide_says.Post ℤ (λ κs x s. x)
decide_fixed κs a x y s t p q = p ∙ sym q

-- The contract of `decimal` fixes its answer and the whole list: two outcomes that it allows are equal.
use Prim.Native.Nat.{ℕ}
use mathlib.Core.Path.{sym, ◌∙◌}
use mathlib.Core.List.{List}
use Rattle.ground.specs.Fixes.{Fixes}
use Rattle.text.proofs.decimal.Kinds as decimal
use Rattle.text.proofs.decimal.Reads as decimal_says

pub decimal_fixed : Fixes 1 decimal.ps decimal.r decimal_says.Post (ℕ × List ℕ) (λ κs x s. (x, s.1.0.now))
decimal_fixed κs a x y s t p q = λ i. ((p.0 ∙ sym q.0) i, (p.1 ∙ sym q.1) i)

-- Each public function's contract fixes its answer: two answers that it allows are equal.
use Prim.Native.Nat.{ℕ}
use mathlib.Core.Path.{sym, ◌∙◌}
use mathlib.Core.Bool.{Bool}
use lib.IntN.{ℤ}
use mir.Syntax.{Dict}
use denote.RattleType.{RattleType}
use denote.Param.Laws.{Laws, IsCopy}
use Rattle.std.specs.Prelude.{Result}
use Rattle.ground.specs.Fixes.{Fixes}
use Rattle.std.specs.declared.clone.Clone.{Ghosts as Clone}
use Rattle.ground.specs.declared.refusal.Numbered.{Ghosts as Numbered}
use Rattle.ground.proofs.refusal.Refusal.number.Kinds as number
use Rattle.ground.proofs.refusal.Refusal.number.Reads as number_says
use Rattle.ground.proofs.refusal.when.Kinds as when
use Rattle.ground.proofs.refusal.when.Reads as when_says
use Rattle.ground.proofs.refusal.first.Kinds as first
use Rattle.ground.proofs.refusal.first.Reads as first_says
use Rattle.ground.proofs.bytes.starts_with.Kinds as starts_with
use Rattle.ground.proofs.bytes.starts_with.Reads as starts_with_says
use Rattle.ground.proofs.bytes.byte_at.Kinds as byte_at
use Rattle.ground.proofs.bytes.byte_at.Reads as byte_at_says
use Rattle.ground.proofs.bytes.get16.Kinds as get16
use Rattle.ground.proofs.bytes.get16.Reads as get16_says
use Rattle.ground.proofs.bytes.get32.Kinds as get32
use Rattle.ground.proofs.bytes.get32.Reads as get32_says
use Rattle.ground.proofs.bytes.from_bits.Kinds as from_bits
use Rattle.ground.proofs.bytes.from_bits.Reads as from_bits_says
use Rattle.ground.proofs.bytes.to_bits.Kinds as to_bits
use Rattle.ground.proofs.bytes.to_bits.Reads as to_bits_says

pub number_fixed : Fixes 0 number.ps number.r number_says.Post ℕ (λ κs x s. x)
number_fixed κs a x y s t p q = p ∙ sym q

-- of every type of refusal T
pub when_fixed : (T : RattleType) (l : Laws T) (c : IsCopy T) (n : Numbered T.Denot) (d : Dict) (k : Clone T.Denot) (e : Dict) → Fixes 1 (when.ps T l c) (when.r T l c) (when_says.Post T l c n d k e) (Result (Unit {0}) T.Denot) (λ κs x s. x)
when_fixed T l c n d k e κs a x y s t p q = p.1 ∙ sym q.1

pub first_fixed : (T : RattleType) (l : Laws T) (c : IsCopy T) (n : Numbered T.Denot) (d : Dict) (k : Clone T.Denot) (e : Dict) → Fixes 1 (first.ps T l c) (first.r T l c) (first_says.Post T l c n d k e) (Result (Unit {0}) T.Denot) (λ κs x s. x)
first_fixed T l c n d k e κs a x y s t p q = p.1 ∙ sym q.1

pub starts_with_fixed : Fixes 2 starts_with.ps starts_with.r starts_with_says.Post Bool (λ κs x s. x)
starts_with_fixed κs a x y s t p q = p ∙ sym q

pub byte_at_fixed : Fixes 1 byte_at.ps byte_at.r byte_at_says.Post ℕ (λ κs x s. x)
byte_at_fixed κs a x y s t p q = p ∙ sym q

pub get16_fixed : Fixes 1 get16.ps get16.r get16_says.Post ℕ (λ κs x s. x)
get16_fixed κs a x y s t p q = p ∙ sym q

pub get32_fixed : Fixes 1 get32.ps get32.r get32_says.Post ℕ (λ κs x s. x)
get32_fixed κs a x y s t p q = p ∙ sym q

pub from_bits_fixed : Fixes 0 from_bits.ps from_bits.r from_bits_says.Post ℤ (λ κs x s. x)
from_bits_fixed κs a x y s t p q = p ∙ sym q

pub to_bits_fixed : Fixes 0 to_bits.ps to_bits.r to_bits_says.Post ℕ (λ κs x s. x)
to_bits_fixed κs a x y s t p q = p ∙ sym q

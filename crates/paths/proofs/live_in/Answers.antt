-- `paths::live_in` meets its contract: each return is a case of `live_in`.
use native.Mathlib.Omega.{arith}
use mathlib.Core.Path.{◌∙◌}
use Rattle.paths.proofs.Members.{in_zero, in_own, in_none, in_deep, in_slot}
use Rattle.paths.proofs.live_in.Goals as goal

pub returns-then-slot-eq0 : goal.returns-then-slot-eq0
returns-then-slot-eq0 c = in_zero _ _ _ c.if-slot-eq0.true

pub returns-then-s : goal.returns-then-s
returns-then-s c = in_own _ _ _ c.if-slot-eq0.false c.if-s.true

pub returns-then-slot-ge-SLOTS : goal.returns-then-slot-ge-SLOTS
returns-then-slot-ge-SLOTS c =
    in_none _ _ _ c.if-slot-eq0.false c.if-s.false c.if-slot-ge-SLOTS.true

pub returns-then-s-level_of : goal.returns-then-s-level_of
returns-then-s-level_of c =
    in_deep _ _ _ c.if-slot-eq0.false c.if-s.false c.if-slot-ge-SLOTS.false (omega (arith, c.level_of.ensures, c.if-s-level_of.true))

pub returns : goal.returns
returns c =
    c.take_out.ensures ∙ in_slot _ _ _ c.if-slot-eq0.false c.if-s.false c.if-slot-ge-SLOTS.false (omega (arith, c.level_of.ensures, c.if-s-level_of.false))

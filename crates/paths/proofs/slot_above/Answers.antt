-- `paths::slot_above` meets its contract.
use mathlib.Core.Path.{sym, ap, ◌∙◌}
use Rattle.ground.specs.Answer.{value}
use Rattle.paths.proofs.Asking.{above-refused, above-given}
use Rattle.paths.proofs.slot_above.Goals as goal

pub returns-then-slot : goal.returns-then-slot
returns-then-slot c = sym (above-refused _ c.if-slot.true)

pub returns : goal.returns
returns c = ap value c.above.ensures ∙ sym (above-given _ c.if-slot.false)

-- `entering::held_after` meets its contract: the machine's two tests of words are those of the rule.
use mathlib.Core.Path.{sym, ap, ◌∙◌}
use borrow.Author.Rules.{rules}
use lib.Dec.{lit<}
use mir.Syntax.{w32}
use mir.Val.{of_z, SFits}
use Rattle.ground.proofs.Bits.{back_is, bits_eq}
use Rattle.words.specs.Word.{E}
use Rattle.entering.proofs.Holding.{takes_any, same-again, contradicts}
use Rattle.entering.proofs.held_after.Goals as goal

E-fits : SFits w32 E
E-fits = record { sfits = lit< tt }

pub returns-then-old-eq-E : goal.returns-then-old-eq-E
returns-then-old-eq-E c =
    back_is c.ranges.new ∙ sym (takes_any c.args.old c.args.new (bits_eq c.ranges.old E-fits c.if-old-eq-E.true))

pub returns-then-old-new : goal.returns-then-old-new
returns-then-old-new c =
    let e = bits_eq c.ranges.old c.ranges.new (search rules) in
    back_is c.ranges.new ∙ sym e ∙ sym (same-again c.args.old c.args.new (λ e. c.if-old-eq-E.false (ap (of_z w32) e)) e)

pub returns : goal.returns
returns c =
    sym (contradicts c.args.old c.args.new (λ e. c.if-old-eq-E.false (ap (of_z w32) e)) (λ e. c.if-old-new.false (ap (of_z w32) e)))

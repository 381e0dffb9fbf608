-- `entering::store` meets its contract: the word by the rule.
use mathlib.Core.Path.{ap, ap₂, ◌∙◌}
use borrow.Author.Rules.{sfits_of}
use lib.ListN.{set}
use Rattle.ground.proofs.Bits.{back_is}
use Rattle.entering.specs.Entered.{holds, stored}
use Rattle.entering.proofs.store.Goals as goal

pub returns : goal.returns
unfolding stored
returns c =
    ap (set c.args.words.now c.args.slot) (back_is (sfits_of c.held_after.type_inv) ∙ c.held_after.ensures ∙ ap₂ holds (back_is (sfits_of c.held_after-arg-1.given)) (back_is c.ranges.word))

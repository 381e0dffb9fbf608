-- `paths::may_relay` meets its contract: of the cards that fit the sender and the own card are taken out.
use mathlib.Core.Path.{ap, ◌∙◌}
use mathlib.Core.Bool.{Bool, false}
use mathlib.Core.List.{List}
use lib.ListN.{set}
use Rattle.paths.proofs.Members.{may-table}
use Rattle.paths.proofs.may_relay.Goals as goal

pub returns : goal.returns
returns c =
    let s = c.args.s in
    c.bar-2.ensures ∙ ap (λ (l : List Bool). set l s.p false) c.bar.ensures ∙ may-table s c.fitted-found.ensures

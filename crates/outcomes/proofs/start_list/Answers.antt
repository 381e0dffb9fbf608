-- `outcomes::start_list` meets its contract: 5, or every word is E.
use Prim.Native.Nat.{ℕ}
use mathlib.Core.Path.{ap, ◌∙◌}
use lib.ListN.{replicate}
use Rattle.words.specs.Word.{E}
use Rattle.outcomes.proofs.Asking.{start_wrong, start_done}
use Rattle.outcomes.proofs.start_list.Goals as goal

pub returns-then-list-ne-LIST : goal.returns-then-list-ne-LIST
returns-then-list-ne-LIST c = start_wrong c.args.list.now c.if-list-ne-LIST.true

pub returns : goal.returns
returns c =
    let long = c.if-list-ne-LIST.false in
    start_done c.args.list.now long (c.fill.ensures.after (λ y e. e) ∙ ap (λ (n : ℕ). replicate n E) long)

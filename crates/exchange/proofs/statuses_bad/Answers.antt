-- `exchange::statuses_bad` meets its contract: some status byte is bad.
use mathlib.Core.Path.{refl}
use Rattle.std.proofs.Common.{rules, tests}
use Rattle.std.proofs.lemmas.Iterator.{YieldsList-from_range}
use Rattle.std.proofs.lemmas.Iterator.Search.{any_from_yields_List}
use Rattle.ground.specs.Lists.{table, some_of}
use Rattle.exchange.specs.Asked.{status_bad}
use Rattle.exchange.proofs.statuses_bad.Goals as goal

pub returns : goal.returns
unfolding some_of table
returns c =
    any_from_yields_List (status_bad c.args.rack c.args.statuses.now) _ _ _ c.any.ensures.ran (YieldsList-from_range 0 10 10 refl refl) (λ x b q k. search (rules, tests))

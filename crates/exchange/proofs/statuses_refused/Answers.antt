-- `exchange::statuses_refused` meets its contract: the status bytes, then the sender's value.
use Rattle.std.proofs.Common.{rules}
use Rattle.ground.proofs.Verdicts.{alone, joined}
use Rattle.exchange.proofs.statuses_refused.Goals as goal

pub returns : goal.returns
returns c =
    joined _ _ tt c.first.ensures.asked (alone 7 c.when.ensures.asked c.statuses_bad.ensures) (alone 6 c.when-2.ensures.asked (search rules))

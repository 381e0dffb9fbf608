-- `exchange::values_refused` meets its contract: the lengths, then the statuses and the sender's value.
use Rattle.std.proofs.Common.{rules}
use Rattle.ground.proofs.Verdicts.{joined}
use Rattle.exchange.proofs.values_refused.Goals as goal

pub returns : goal.returns
returns c = joined _ _ tt c.first.ensures.asked c.when.ensures.asked (search rules)

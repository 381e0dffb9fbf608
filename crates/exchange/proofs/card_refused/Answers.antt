-- `exchange::card_refused` meets its contract: the settings' verdict, then what the exchange is given.
use Rattle.std.proofs.Common.{rules}
use Rattle.ground.proofs.Verdicts.{joined}
use Rattle.settings.specs.Settings.{settings_checks}
use Rattle.exchange.proofs.card_refused.Goals as goal

pub returns : goal.returns
returns c = joined (settings_checks c.args.s) _ tt c.first.ensures.asked c.settings_refused.ensures (search rules)

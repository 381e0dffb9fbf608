-- `vote::words_refused` meets its contract: the settings' verdict, then the list's length.
use Rattle.ground.proofs.Verdicts.{joined}
use Rattle.settings.specs.Settings.{settings_checks}
use Rattle.vote.proofs.words_refused.Goals as goal

pub returns : goal.returns
returns c =
    joined (settings_checks c.args.s) _ tt c.first.ensures.asked c.settings_refused.ensures c.when.ensures.asked

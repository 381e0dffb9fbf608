-- `books::books_refused` meets its contract: the settings' verdict, then the list's length.
use mathlib.Core.Path.{refl}
use Rattle.ground.proofs.Verdicts.{alone, joined}
use Rattle.settings.specs.Settings.{settings_checks}
use Rattle.books.proofs.books_refused.Goals as goal

pub returns : goal.returns
returns c =
    joined (settings_checks c.args.s) _ tt c.first.ensures.asked c.settings_refused.ensures (alone 5 c.when.ensures.asked refl)

-- `settings::fits` meets its contract.
use borrow.Author.Rules.{rules}
use Rattle.settings.specs.Settings.{fits}
use Rattle.settings.proofs.fits.Goals as goal

pub returns : goal.returns
unfolding fits
returns c = search rules

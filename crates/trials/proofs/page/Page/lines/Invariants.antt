use mathlib.Core.Path.{◌≡◌}
use Rattle.settings.specs.Settings.{fits}
use Rattle.trials.specs.Listing.{line_at, lines}
use Rattle.trials.proofs.page.Page.lines.Given as goal

abbrev pub invariant-loop-p : goal.invariant-loop-p
invariant-loop-p l = l.page ≡ lines (fits l.rack) (line_at l.statuses l.answers) l.p

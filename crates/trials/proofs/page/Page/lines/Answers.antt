-- `Page::lines` meets its contract: room for a line more.
use mathlib.Core.Path.{ap}
use native.Mathlib.Omega.{arith}
use lib.ListN.{length}
use Rattle.settings.specs.Settings.{fits}
use Rattle.trials.specs.Listing.{line_at}
use Rattle.trials.proofs.Lines.{length_line, length_lines}
use Rattle.trials.proofs.page.Page.lines.Goals as goal

pub put_line-requires : goal.put_line-requires
put_line-requires c =
    let a = c.args in
    let p = c.loop-p.p in
    (c.loop-p-test.true, omega (arith, c.requires.1 p c.loop-p-test.true), omega (arith, c.loop-p-test.true, ap length c.loop-p.invariant, length_lines (fits a.rack) (line_at a.statuses.now a.answers.now) (λ p. length_line p _ _) p))

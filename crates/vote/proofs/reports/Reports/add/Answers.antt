-- `vote::reports::Reports::add` meets its contract: where there is room the report stands behind the others, or is not counted.
use mathlib.Core.Path.{ap₂, ◌∙◌}
use mathlib.Core.List.{List, [], ◌∷◌, ◌++◌}
use lib.IntN.{ℤ}
use lib.ListN.{take}
use Rattle.ground.proofs.Bits.{back_is}
use Rattle.words.specs.Majority.{kept}
use Rattle.words.specs.Rule.{omh}
use Rattle.vote.specs.Reports.{most_reports}
use Rattle.vote.proofs.Gather.{one_more}
use Rattle.vote.proofs.reports.Reports.add.Goals as goal

pub returns-then-self-lt-REPORTS : goal.returns-then-self-lt-REPORTS
returns-then-self-lt-REPORTS c =
    one_more omh.struck _ _ _ c.if-self-lt-REPORTS.true c.self.told c.weight.ensures
    ∙ ap₂ (λ (l : List ℤ) (v : ℤ). take most_reports (l ++ kept omh.struck (v ∷ []))) c.self.view_is (back_is c.ranges.vote)

-- `vote::reports::Reports::begin` meets its contract: the list is the own report alone, or none where it is struck.
use mathlib.Core.Path.{ap, ◌∙◌}
use mathlib.Core.List.{[], ◌∷◌}
use borrow.Author.Rules.{sfits_of}
use lib.IntN.{ℤ}
use Rattle.ground.proofs.Bits.{back_is}
use Rattle.words.specs.Majority.{kept}
use Rattle.words.specs.Rule.{omh}
use Rattle.vote.proofs.Gather.{own_alone}
use Rattle.vote.proofs.reports.Reports.begin.Goals as goal

pub returns : goal.returns
returns c =
    own_alone omh.struck _ _ c.weight.ensures
    ∙ ap (λ (w : ℤ). kept omh.struck (w ∷ [])) (back_is (sfits_of c.wrap-wrapped.type_inv) ∙ c.wrap-wrapped.ensures ∙ ap omh.wrap (back_is c.ranges.own))

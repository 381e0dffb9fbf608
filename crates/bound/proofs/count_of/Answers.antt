-- `bound::count_of` meets its contract: the filtered cards are counted.
use mathlib.Core.Path.{refl, ◌∙◌}
use Rattle.std.proofs.Common.{ℕ, ◌&&◌, rules, tests}
use Rattle.std.proofs.lemmas.Iterator.{YieldsList-from_range}
use Rattle.std.proofs.lemmas.Iterator.Consumers.{YieldsList-at, YieldsList-from_filter, count_from_yields_List}
use Rattle.ground.proofs.Lists.{length-filter_range, counted_few}
use Rattle.settings.specs.Settings.{fits}
use Rattle.exchange.specs.Exchange.{statuses_of}
use Rattle.bound.specs.Bound.{is}
use Rattle.bound.proofs.count_of.Goals as goal

pub returns : goal.returns
returns c =
    let a = c.args in
    let passes = λ (q : ℕ). fits a.rack q && is a.status (statuses_of a.statuses.now q) in
    let value = count_from_yields_List c.filter.result _ c.count.ensures.ran
    (YieldsList-from_filter _ passes (YieldsList-at c.filter.ensures.source (YieldsList-from_range 0 10 10 refl refl)) c.filter.ensures.closure (λ x b q k. search (rules, tests)))
    ∙ length-filter_range passes 10 0 in
    record { value = value; few = counted_few passes 10 value }

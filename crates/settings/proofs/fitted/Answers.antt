-- `settings::fitted` meets its contract.
use Rattle.std.proofs.Common.{◌≡◌, ◌+◌, ◌-◌, ◌∙◌, false, get_or, arith, rules, refl}
use Rattle.ground.proofs.Lists.{is_table}
use Rattle.settings.proofs.Twenty.{ten, fitted_at, made_at}
use Rattle.settings.proofs.fitted.Goals as goal

pub returns : goal.returns
returns c =
    let items = c.from_fn.ensures.items in
    let from = 10 - c.min-from.result in
    let e : from ≡ 10 - c.args.rack.n = omega (arith, c.min-from.ensures) in
    is_table 10 _ false _ items.long
    (λ k h. made_at _ (λ i. get_or ten (from + i) false) (λ p. p.0 ≡ from) (λ p q i y s call. search rules) 10 0 _ _ false refl items.each k (omega arith) (omega arith)
    ∙ fitted_at c.args.rack k from e h)

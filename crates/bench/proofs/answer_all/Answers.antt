-- `bench::answer_all` meets its contract: the places before `p` hold their cards' answers.
use Prim.Native.Nat.{◌<◌}
use mathlib.Core.Path.{sym, ap, ◌∙◌}
use native.Mathlib.Omega.{arith}
use borrow.Author.Rules.{sfits_of}
use lib.IntN.{ℤ}
use Rattle.ground.proofs.Bits.{back_is}
use Rattle.ground.proofs.Bools.{chosen_yes, chosen_no}
use Rattle.ground.proofs.Lists.{passed_none, passed_set, passed_all}
use Rattle.vote.specs.Vote.{rule_of}
use Rattle.exchange.specs.Exchange.{exchange}
use Rattle.bench.specs.Asked.{answers_of}
use Rattle.bench.proofs.answer_all.Goals as goal
use Rattle.bench.proofs.answer_all.Goals.{then-fits, else-fits}

pub loop-p-init : goal.loop-p-init
loop-p-init c = passed_none _ _ c.requires.2

pub loop-p-preserved : goal.loop-p-preserved
loop-p-preserved c =
    let inv = c.loop-p.invariant in
    let h : c.loop-p.p < 10 = omega arith in
    elim c.if-fits.branch [
      | then-fits w ↦ passed_set inv h (back_is (sfits_of w.dealt_answer.type_inv) ∙ w.dealt_answer.ensures ∙ chosen_yes _ _ (sym c.fits.ensures ∙ w.if-fits.true)) w.answers-is
      | else-fits w ↦ passed_set inv h (inv.rest _ (omega arith) ∙ chosen_no _ _ (sym c.fits.ensures ∙ w.if-fits.false)) w.answers-is
    ]

pub returns : goal.returns
unfolding answers_of
returns c =
    let a = c.args in
    passed_all c.loop-p.invariant (λ j h g. absurd (omega (arith, c.loop-p-test.false)))
    ∙ ap (λ (x : ℤ). answers_of (rule_of a.turn.rack) (exchange a.turn x a.statuses.now a.table.now) a.answers.now) (back_is c.ranges.x)

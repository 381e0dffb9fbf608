-- `paths::take_out` meets its contract: what is left to take out goes by the rest of the path.
use mathlib.Core.Path.{sym, ap, ◌∙◌}
use borrow.Author.Tests.{not-true, not-false}
use Rattle.paths.specs.Walk.{may}
use Rattle.paths.proofs.Members.{take_more, take_gone, take_done}
use Rattle.paths.proofs.take_out.Goals as goal

pub returns-then-not-members-q : goal.returns-then-not-members-q
returns-then-not-members-q c =
    take_gone c.loop-k.invariant c.loop-k-test.true (ap (may c.loop-k.members) (sym c.last_relay-q.ensures) ∙ not-true _ c.if-not-members-q.true-raw)

pub loop-k-preserved : goal.loop-k-preserved
loop-k-preserved c =
    let q = c.last_relay-q.ensures in
    rw (c.above-k.ensures, q) (take_more c.loop-k.invariant c.loop-k-test.true (ap (may c.loop-k.members) (sym q) ∙ not-false _ c.if-not-members-q.false-raw))

pub returns : goal.returns
returns c = take_done c.loop-k.invariant c.loop-k-test.false

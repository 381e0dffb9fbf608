-- `settings::rack_refused` meets its contract: each return rewrites with the tests that led there.
use Rattle.ground.specs.Checks.{verdict}
use Rattle.settings.proofs.rack_refused.Goals as goal

pub returns-then-n : goal.returns-then-n
unfolding verdict
returns-then-n c = rw (← c.cards-n.ensures) (rw c.if-n.true)

pub returns-then-rack-n : goal.returns-then-rack-n
unfolding verdict
returns-then-rack-n c =
    rw (← c.cards-n.ensures) (rw (c.if-n.false, c.if-rack-n.true))

pub returns : goal.returns
unfolding verdict
returns c =
    rw (← c.cards-n.ensures) (rw (c.if-n.false, c.if-rack-n.false))

-- `dealing::dealt_at` meets its contract: slot 0 from the sender, any other from the last relay. The measure is the slot.
use mathlib.Core.Path.{ap, ap₂, ◌∙◌}
use native.Mathlib.Omega.{arith}
use borrow.Author.Rules.{sfits_of}
use Rattle.ground.proofs.Bits.{back_is}
use Rattle.words.specs.Word.{wrapped, read_at}
use Rattle.words.specs.Rule.{omh}
use Rattle.exchange.specs.Exchange.{exchange}
use Rattle.exchange.proofs.Dealing.{dealt-first, dealt-next}
use Rattle.dealing.proofs.+dealt_at.Goals as goal

pub returns-then-k-eq0 : goal.returns-then-k-eq0
returns-then-k-eq0 t c rack =
    let a = c.args in
    dealt-first omh (exchange (record { rack = rack; t = a.t }) a.x a.statuses.now a.table.now) a.k a.p c.if-k-eq0.true (back_is c.ranges.x)
    (back_is (sfits_of c.sent_to.type_inv) ∙ c.sent_to.ensures)

pub returns : goal.returns
returns t c rack =
    let a = c.args in
    let relay = c.last_relay-q.ensures in
    let up = c.above-above.ensures in
    dealt-next omh (exchange (record { rack = rack; t = a.t }) a.x a.statuses.now a.table.now) a.k a.p (omega (arith, c.if-k-eq0.false)) c.requires.1
    (rw (← up, ← relay)
    (back_is (sfits_of c.relayed-word.type_inv)
    ∙ c.relayed-word.ensures
    ∙ ap wrapped (ap₂ read_at c.level_of.ensures (back_is (sfits_of c.dealt_at-received.type_inv) ∙ rw (back_is c.ranges.x) at (c.dealt_at-received.ensures rack)))))
    (back_is (sfits_of c.sent_to-2.type_inv) ∙ rw relay at c.sent_to-2.ensures)

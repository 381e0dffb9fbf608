-- `dealing::deal` meets its contract: from slot 0, with all cards that may relay and all rounds, every live word is dealt.
use Rattle.ground.proofs.Bits.{back_is}
use Rattle.exchange.proofs.Dealing.{deals_first}
use Rattle.dealing.proofs.Filling.{dealt-all}
use Rattle.dealing.proofs.deal.Goals as goal

pub deal_from-requires-clause-asked : goal.deal_from-requires-clause-asked
deal_from-requires-clause-asked c = deals_first c.args.s c.requires.0 c.requires.1 c.requires.2 c.may_relay-members.ensures c.rounds_left.ensures

pub returns : goal.returns
returns c =
    dealt-all _ c.args.s _ _ _ _ c.requires.1 c.requires.3 c.may_relay-members.ensures c.rounds_left.ensures (back_is c.ranges.x) c.deal_from.ensures

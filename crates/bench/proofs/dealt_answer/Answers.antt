-- `bench::dealt_answer` meets its contract: the vote at slot 0, with all cards that may relay and all rounds.
use mathlib.Core.Path.{◌∙◌}
use borrow.Author.Rules.{sfits_of}
use Rattle.ground.proofs.Bits.{back_is}
use Rattle.exchange.proofs.Dealing.{deals_first}
use Rattle.bench.proofs.Dealing.{dealt_answer}
use Rattle.bench.proofs.dealt_answer.Goals as goal

pub vote_dealt-requires : goal.vote_dealt-requires
vote_dealt-requires c = deals_first c.args.s c.requires.0 c.requires.1 c.requires.2 c.may_relay-members.ensures c.rounds_left.ensures

pub returns : goal.returns
returns c =
    back_is (sfits_of c.vote_dealt.type_inv)
    ∙ dealt_answer _ c.args.s _ _ _ c.requires.1 c.may_relay-members.ensures c.rounds_left.ensures (back_is c.ranges.x) c.vote_dealt.ensures

-- `vote::vote_of` meets its contract: the instance with what the slot's path has.
use mathlib.Core.Path.{◌∙◌}
use native.Mathlib.Omega.{arith}
use borrow.Author.Rules.{sfits_of}
use Rattle.ground.proofs.Bits.{back_is}
use Rattle.paths.proofs.Handed.{path_room, path-deep}
use Rattle.vote.specs.Vote.{rule_of}
use Rattle.vote.proofs.Handed.{path-vote}
use Rattle.vote.proofs.vote_of.Goals as goal

pub instance-requires : goal.instance-requires
instance-requires c =
    let a = c.args in
    let pre = c.requires in
    rw (c.rounds_left.ensures, c.level_of-d.ensures) (record { whole = pre.whole; deep = omega (arith, path-deep a.s a.slot pre.alive, pre.few); slot = path_room a.s a.slot pre.alive pre.few })

pub returns : goal.returns
returns c =
    let a = c.args in
    back_is (sfits_of c.instance.type_inv)
    ∙ c.instance.ensures.voted
    ∙ path-vote (rule_of a.s.rack) a.s a.words.now a.slot c.requires.few c.requires.alive c.requires.here c.level_of-d.ensures c.rounds_left.ensures

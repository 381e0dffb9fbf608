-- `entering::remake` meets its contract: the reading where no rounds are left, else decided over the members' held votes.
use Prim.Native.Nat.{◌+◌}
use mathlib.Core.Path.{◌≡◌, sym, ap, ◌∙◌}
use borrow.Author.Rules.{sfits_of}
use lib.IntN.{ℤ}
use Rattle.words.specs.Rule.{omh}
use Rattle.ground.proofs.Bits.{back, back_is}
use Rattle.vote.specs.Vote.{decided}
use Rattle.entering.specs.Remaking.{held_votes}
use Rattle.entering.proofs.Leaf.{made_last, made_more}
use Rattle.entering.proofs.remake.Goals as goal
use Rattle.entering.proofs.remake.Goals.{After-read_at-own}

-- the own reading
own : (c : After-read_at-own) → let a = c.args in back c.read_at-own.result ≡ omh.read a.d a.word
own c = back_is (sfits_of c.read_at-own.type_inv) ∙ c.read_at-own.ensures ∙ ap (omh.read _) (back_is c.ranges.word)

pub returns-then-left-eq0 : goal.returns-then-left-eq0
returns-then-left-eq0 c =
    let a = c.args in
    own (goal.at.returns-then-left-eq0 c).After-read_at-own ∙ sym (made_last omh _ _ _ a.left a.d a.k c.if-left-eq0.true)

pub returns : goal.returns
returns c =
    let a = c.args in
    back_is (sfits_of c.over_held.type_inv)
    ∙ c.over_held.ensures
    ∙ ap (λ (own : ℤ). decided omh own (held_votes omh a.votes.now a.members.now (a.d + 1) a.k 10)) (own (goal.at.returns c).After-read_at-own)
    ∙ sym (made_more omh _ _ _ a.left a.d a.k c.if-left-eq0.false)

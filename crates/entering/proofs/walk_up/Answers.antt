-- `entering::walk_up` meets its contract: the vote at `k` is re-made, what is handed on belongs to `k`, and what is left to re-make is the way above `k`.
use Prim.Native.Nat.{◌<◌}
use mathlib.Core.Path.{◌≡◌, ◌∙◌}
use mathlib.Core.Bool.{true}
use native.Mathlib.Omega.{arith}
use borrow.Author.Rules.{sfits_of}
use lib.ListN.{length, set}
use Rattle.ground.proofs.Bits.{back_is}
use Rattle.settings.specs.Settings.{slots}
use Rattle.entering.specs.Remaking.{Remakes}
use Rattle.entering.proofs.Steps.{Climbs, first_asks, climb_first, climb_asks, climb_level, climb_more, climb_done}
use Rattle.entering.proofs.walk_up.Goals as goal
use Rattle.entering.proofs.walk_up.Goals.{After-above-k, After-rounds_left-left, At-loop-k, In-loop-k}

-- what the re-making at the entered slot is asked
asks : (c : After-rounds_left-left) → let a = c.args in Remakes a.votes.now a.members.now c.rounds_left-left.result c.level_of-d.result a.slot
asks c = first_asks c.requires c.level_of-d.ensures c.rounds_left-left.ensures

pub offset_bounds-words-slot : goal.offset_bounds-words-slot
offset_bounds-words-slot c = omega (arith, (asks (goal.at.offset_bounds-words-slot c).After-rounds_left-left).slot)

pub bounds-words-slot : goal.bounds-words-slot
bounds-words-slot c = omega (arith, (asks (goal.at.bounds-words-slot c).After-rounds_left-left).slot, c.requires.whole.words_long)

pub remake-first-requires : goal.remake-first-requires
remake-first-requires c = asks (goal.at.remake-first-requires c).After-rounds_left-left

pub offset_bounds-votes-slot : goal.offset_bounds-votes-slot
offset_bounds-votes-slot c = omega (arith, (asks (goal.at.offset_bounds-votes-slot c).After-rounds_left-left).slot)

pub bounds-votes-slot : goal.bounds-votes-slot
bounds-votes-slot c = let first = asks (goal.at.bounds-votes-slot c).After-rounds_left-left in omega (arith, first.votes_whole, first.slot)

-- where the walk has come to
here : (c : At-loop-k) → let a = c.args in Climbs a.s a.words.now a.votes.now a.slot c.loop-k.votes c.loop-k.members c.loop-k.d c.loop-k.k
here c =
    let start = c in
    c.loop-k.invariant start.args.s start.args.votes.now
    (climb_first start.requires c.level_of-d.ensures c.rounds_left-left.ensures (back_is (sfits_of c.remake-first.type_inv) ∙ c.remake-first.ensures) (back_is (sfits_of c.held-1.given)))

going : (c : In-loop-k) → 0 < c.loop-k.k
going c = omega arith

pub overflow_sub-d : goal.overflow_sub-d
overflow_sub-d c = omega (arith, climb_level (here (goal.at.overflow_sub-d c).At-loop-k) (going (goal.at.overflow_sub-d c).In-loop-k))

-- what is asked of the votes and cards one step up
up_asks : (c : After-above-k) → let loop = c.loop-k in (length loop.votes ≡ slots) × (length (set loop.members c.last_relay.result true) ≡ 10) × (c.above-k.result < 111)
up_asks c =
    climb_asks (here c.before.before.before.before) (going c.before.before.before) c.last_relay.ensures c.above-k.ensures

pub bounds-words-k : goal.bounds-words-k
bounds-words-k c = omega (arith, (up_asks (goal.at.bounds-words-k c).After-above-k).2, (here (goal.at.bounds-words-k c).At-loop-k).words_whole)

pub over_held-vote-requires : goal.over_held-vote-requires
over_held-vote-requires c = up_asks (goal.at.over_held-vote-requires c).After-above-k

pub bounds-votes-k : goal.bounds-votes-k
bounds-votes-k c = let up = up_asks (goal.at.bounds-votes-k c).After-above-k in omega (arith, up.0, up.2)

pub loop-k-preserved : goal.loop-k-preserved
loop-k-preserved c =
    λ s vs b. climb_more (c.loop-k.invariant s vs b) (going (goal.at.loop-k-preserved c).In-loop-k) c.last_relay.ensures c.above-k.ensures
    (back_is (sfits_of c.over_held-vote.type_inv) ∙ c.over_held-vote.ensures) (back_is (sfits_of c.read_at-own.type_inv) ∙ c.read_at-own.ensures) (back_is (sfits_of c.read_at-arg-1.given))

pub returns : goal.returns
returns c = climb_done (here (goal.at.returns c).At-loop-k) c.loop-k-test.false

-- `vote::instance` and `vote::over_members`, which call each other, meet their contracts. The measure is the rounds left, with one more for an instance.
use Prim.Native.Nat.{ℕ}
use mathlib.Core.Path.{◌≡◌, refl, sym, ap, ◌∙◌}
use borrow.Author.Rules.{sfits_of}
use Rattle.ground.specs.Lists.{at}
use Rattle.ground.proofs.Bits.{back, back_is}
use Rattle.words.specs.Rule.{omh}
use Rattle.paths.proofs.Handed.{put_back}
use Rattle.vote.proofs.Gather.{gather_none, gather_more, gather_same, gather_decides, vote-last, vote_more}
use Rattle.vote.proofs.+instance_over_members.Goals as goal
use Rattle.vote.proofs.+instance_over_members.Goals.{over_members-then-members-q, over_members-else-members-q, instance-After-read_at-own}

-- the own reading
own : (t : ℕ) (c : instance-After-read_at-own t) → let a = c.args in back c.read_at-own.result ≡ omh.read a.at.d (at a.words.now a.at.k)
own t c = back_is (sfits_of c.read_at-own.type_inv) ∙ c.read_at-own.ensures ∙ ap (omh.read _) (back_is (sfits_of c.read_at-arg-1.given))

pub instance-returns-then-at-eq0-clause-voted : goal.instance-returns-then-at-eq0-clause-voted
instance-returns-then-at-eq0-clause-voted t c =
    own t (goal.at.instance-returns-then-at-eq0-clause-voted t c).After-read_at-own ∙ sym (vote-last omh _ _ _ _ _ c.if-at-eq0.true)

pub instance-returns-clause-voted : goal.instance-returns-clause-voted
instance-returns-clause-voted t c =
    let reading = own t (goal.at.instance-returns-clause-voted t c).After-read_at-own in
    back_is (sfits_of c.over_members.type_inv)
    ∙ rw reading at c.over_members.ensures.voted
    ∙ sym (vote_more omh _ _ _ _ _ c.if-at-eq0.false)

pub over_members-loop-q-init : goal.over_members-loop-q-init
over_members-loop-q-init t c = record { members = refl; reports = gather_none omh _ _ _ c.begin-reports.ensures }

pub over_members-loop-q-preserved : goal.over_members-loop-q-preserved
over_members-loop-q-preserved t c =
    let loop = c.loop-q in
    let same = loop.invariant.members in
    elim c.if-members-q.branch [
      | over_members-then-members-q w ↦
          let vote = w.instance-vote.ensures in
          record {
            members = w.members-is ∙ put_back loop.members _ loop.q w.if-members-q.true vote.members_unchanged ∙ same;
            reports =
                gather_more loop.invariant.reports c.loop-q-test.true (rw (← same) w.if-members-q.true)
                (back_is (sfits_of w.instance-vote.type_inv) ∙ rw same at vote.voted)
                (w.reports-is ∙ w.add.ensures);
          }
      | over_members-else-members-q w ↦
          record { members = w.members-is ∙ same; reports = gather_same loop.invariant.reports (rw (← same) w.if-members-q.false) w.reports-is }
    ]

pub over_members-returns-clause-voted : goal.over_members-returns-clause-voted
over_members-returns-clause-voted t c =
    gather_decides c.loop-q.invariant.reports c.loop-q.auto.q-end c.loop-q-test.false (back_is c.ranges.own) (back_is (sfits_of c.decide.type_inv) ∙ c.decide.ensures)

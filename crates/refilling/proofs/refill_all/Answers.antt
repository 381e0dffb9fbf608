-- `refilling::refill_all` meets its contract: from slot 0, with all its members and rounds, every live vote is put in.
use Prim.Native.Nat.{ℕ}
use mathlib.Core.Path.{ap, ap₂, ◌∙◌}
use mathlib.Core.Bool.{Bool}
use mathlib.Core.List.{List}
use native.Mathlib.Omega.{arith}
use Rattle.paths.specs.Walk.{put_in}
use Rattle.paths.proofs.Members.{first-members}
use Rattle.paths.proofs.Handed.{left_few, room_zero}
use Rattle.vote.specs.Members.{member_vote}
use Rattle.vote.specs.Vote.{rule_of}
use Rattle.book.specs.Book.{book_of}
use Rattle.refilling.proofs.Refilled.{put_votes}
use Rattle.refilling.proofs.refill_all.Goals as goal

pub refill_from-requires : goal.refill_from-requires
refill_from-requires c =
    record {
      asked = record {
        whole = c.requires.whole.words_long;
        deep = omega (arith, c.rounds_left.ensures, left_few c.args.s 0, c.requires.few);
        slot = room_zero c.rounds_left.result;
      };
      votes_whole = c.requires.whole.votes_long;
    }

pub returns : goal.returns
returns c =
    let a = c.args in
    let R = rule_of a.s.rack in
    let b = book_of a.words.now a.votes.now in
    c.refill_from.ensures.refilling.book
    ∙ ap (book_of b.words)
    (ap₂ (λ (l : List Bool) (r : ℕ). put_in (member_vote R b.words) l r 0 0 b.votes) (c.may_relay-members.ensures ∙ first-members a.s) c.rounds_left.ensures
    ∙ put_votes R a.s b.words b.votes c.requires.few c.requires.whole.votes_long)

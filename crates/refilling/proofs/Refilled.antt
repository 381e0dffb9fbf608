-- Laws of refilling: every live vote is right after it, votes at other slots stay, and putting in the votes from slot 0 is refilling.
use Prim.Native.Nat.{ℕ, ◌≤◌, ◌<◌}
use mathlib.Core.Path.{◌≡◌, refl, sym, ap, ◌∙◌}
use mathlib.Core.Bool.{cond}
use mathlib.Core.List.{List}
use native.Mathlib.Omega.{arith}
use lib.Dec.{T}
use lib.IntN.{ℤ, pos}
use lib.ListN.{length}
use lib.Seq.{ext_get_or}
use Rattle.ground.specs.Checks.{verdict}
use Rattle.ground.specs.Lists.{at}
use Rattle.ground.proofs.Bools.{cond_yes, cond-case}
use Rattle.ground.proofs.Lists.{length-table, at_table}
use Rattle.words.specs.Rule.{Rule}
use Rattle.settings.specs.Settings.{slots}
use Rattle.settings.specs.declared.Settings.{Settings}
use Rattle.paths.specs.Slots.{level, live, members_of, rounds_left}
use Rattle.paths.specs.Walk.{put_in}
use Rattle.paths.proofs.Live.{live-slot}
use Rattle.paths.proofs.Walk.{put_is}
use Rattle.vote.specs.Vote.{vote}
use Rattle.vote.specs.Members.{member_vote}
use Rattle.vote.proofs.Handed.{handed_vote, own-vote}
use Rattle.book.specs.Book.{Book, book_of, Sized}
use Rattle.book.specs.Asked.{book_checks}
use Rattle.book.proofs.Asking.{book-asked}
use Rattle.refilling.specs.Refilled.{refilled_votes, refilled}
use Rattle.refilling.specs.RefillOrder.{Refills}

module _ (R : Rule) (s : Settings) (ws vs : List ℤ) where
  -- ---- what refilling leaves

  refilled-at : (k : ℕ) → k < slots → at (refilled_votes R s ws vs) k ≡ cond (live s k) (vote R s ws k) (at vs k)
  unfolding refilled_votes
  refilled-at k h = at_table slots 0 _ k (pos 0) h ∙ ap (λ (k : ℕ). cond (live s k) (vote R s ws k) (at vs k)) (omega arith)

  -- every live vote is the vote from the words, whatever the votes were
  pub refilled_agrees : (k : ℕ) → T (live s k) → at (refilled_votes R s ws vs) k ≡ vote R s ws k
  refilled_agrees k t = refilled-at k (live-slot s k t) ∙ cond_yes (live s k) _ _ t

  refilled-long : length (refilled_votes R s ws vs) ≡ slots
  unfolding refilled_votes
  refilled-long = length-table slots 0 _

  -- the book keeps its size,
  pub refilled-sized : length ws ≡ slots → Sized (refilled R s (book_of ws vs))
  refilled-sized z = record { words_long = z; votes_long = refilled-long }

  -- and one whose live votes are right stays as it is
  pub refilled_same : length vs ≡ slots → ((k : ℕ) → T (live s k) → at vs k ≡ vote R s ws k) → refilled_votes R s ws vs ≡ vs
  refilled_same long right =
      ext_get_or (pos 0) (refilled_votes R s ws vs) vs (refilled-long ∙ sym long)
      (λ k h. refilled-at k (omega (arith, refilled-long)) ∙ cond-case (λ w. w ≡ at vs k) (live s k) _ _ (λ t. sym (right k t)) (λ t. refl))

  -- ---- refilling as the code does it

  pub put_votes : s.rack.m ≤ 3 → length vs ≡ slots → put_in (member_vote R ws) (members_of s 0) (rounds_left s 0) 0 0 vs ≡ refilled_votes R s ws vs
  unfolding refilled_votes level
  put_votes few long =
      put_is s (member_vote R ws) (vote R s ws) vs few long (λ o. handed_vote R s ws o few) (λ e. sym (own-vote R s ws 0 (members_of s 0) e))

-- what no verdict on a call tells
pub refill-asked : (s : Settings) (b : Book) → verdict (book_checks s b) ≡ 0 → Refills s b
refill-asked s b e = let given = book-asked s b e in record { few = given.0.turn.rack.deep; whole = given.1 }

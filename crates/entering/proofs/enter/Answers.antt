-- `entering::enter` meets its contract: the verdict decides; the word is stored, and the votes re-made on the way up with what the slot's path has.
use mathlib.Core.Path.{◌≡◌, refl, sym, ap, ◌∙◌}
use mathlib.Core.Bool.{not}
use native.Mathlib.Omega.{arith}
use lib.ListN.{length}
use Rattle.ground.specs.Checks.{verdict}
use Rattle.ground.proofs.Answers.{leaves_outcome, refused-first, then-decided, outcome_done}
use Rattle.ground.proofs.Bits.{back_is}
use Rattle.ground.proofs.Verdicts.{alone}
use Rattle.paths.proofs.Live.{live-slot}
use Rattle.paths.proofs.Members.{in_tells, in_members}
use Rattle.book.specs.Book.{book_of}
use Rattle.book.specs.Asked.{book_checks, slot_checks}
use Rattle.book.proofs.Asking.{slot-asked}
use Rattle.entering.specs.Entered.{stored}
use Rattle.entering.specs.Remaking.{Enters}
use Rattle.entering.proofs.Admitted.{length-stored, entered_both}
use Rattle.entering.proofs.enter.Goals as goal
use Rattle.entering.proofs.enter.Goals.{In_ok-when, After-store}

pub returns-in_err-book_refused : goal.returns-in_err-book_refused
returns-in_err-book_refused c =
    let a = c.args in
    leaves_outcome _ _ c.from_residual.ensures.1 (refused-first (book_checks a.s (book_of a.words.now a.votes.now)) _ tt _ c.in_err-book_refused.ensures) _ _

pub returns-in_err-when : goal.returns-in_err-when
returns-in_err-when c =
    let a = c.args in
    leaves_outcome _ _ c.from_residual-in_err-when.ensures.1
    (then-decided (book_checks a.s (book_of a.words.now a.votes.now)) _ tt c.in_ok-book_refused.ensures
    (alone 8 c.in_err-when.ensures.asked (ap not (in_tells a.s a.slot c.may_relay-members.ensures c.live_in-live.ensures)))) _ _

-- no refusal
passes : (c : In_ok-when) → let a = c.args in 0 ≡ verdict (slot_checks a.s (book_of a.words.now a.votes.now) a.slot)
passes c =
    let a = c.args in
    then-decided (book_checks a.s (book_of a.words.now a.votes.now)) _ tt c.in_ok-book_refused.ensures
    (alone 8 c.in_ok-when.ensures.asked (ap not (in_tells a.s a.slot c.may_relay-members.ensures c.live_in-live.ensures)))

-- what an entering is given
given : (c : In_ok-when) → let a = c.args in Enters a.s (book_of a.words.now a.votes.now) c.live_in-live.new.members a.slot
given c =
    let a = c.args in
    let asked = slot-asked a.s (book_of a.words.now a.votes.now) a.slot (sym (passes c)) in
    record { few = asked.0.turn.rack.deep; whole = asked.1; alive = asked.2; here = in_members a.s a.slot c.may_relay-members.ensures c.live_in-live.ensures asked.2 }

pub store-requires : goal.store-requires
store-requires c = let g = given (goal.at.store-requires c).In_ok-when in omega (arith, live-slot _ _ g.alive, g.whole.words_long)

-- the word is stored
has_stored : (c : After-store) → let a = c.args in c.store.new.words ≡ stored a.words.now a.slot a.word
has_stored c = c.store.ensures ∙ ap (stored c.args.words.now c.args.slot) (back_is c.ranges.word)

pub walk_up-requires : goal.walk_up-requires
walk_up-requires c =
    let g = given (goal.at.walk_up-requires c).In_ok-when in
    record {
      few = g.few;
      whole = record { words_long = ap length (has_stored (goal.at.walk_up-requires c).After-store) ∙ length-stored c.args.s c.args.slot c.args.word c.args.words.now ∙ g.whole.words_long; votes_long = g.whole.votes_long };
      alive = g.alive;
      here = g.here;
    }

pub returns : goal.returns
returns c =
    let a = c.args in
    outcome_done (passes (goal.at.returns c).In_ok-when) refl _ (entered_both a.s a.slot a.word a.words.now a.votes.now (has_stored (goal.at.returns c).After-store) c.walk_up.ensures)

-- `vote::vote_at` meets its contract: the verdict decides, and none tells what the vote is asked.
use mathlib.Core.Path.{◌≡◌, refl, sym, ap, ◌∙◌}
use mathlib.Core.Bool.{not}
use borrow.Author.Rules.{sfits_of}
use Rattle.ground.specs.Checks.{verdict}
use Rattle.ground.proofs.Bits.{back_is}
use Rattle.ground.proofs.Answers.{leaves_answer, answer-given, refused-first, then-decided}
use Rattle.ground.proofs.Verdicts.{alone}
use Rattle.paths.proofs.Members.{in_tells, in_members}
use Rattle.vote.specs.Asked.{words_checks, vote_checks, vote_asked}
use Rattle.vote.proofs.Asking.{vote-asked}
use Rattle.vote.proofs.vote_at.Goals as goal
use Rattle.vote.proofs.vote_at.Goals.{In_ok-when}

pub returns-in_err-words_refused : goal.returns-in_err-words_refused
unfolding vote_asked
returns-in_err-words_refused c =
    let a = c.args in
    leaves_answer _ _ c.from_residual.ensures.1 (refused-first (words_checks a.s a.words.now) _ tt _ c.in_err-words_refused.ensures) _

-- no refusal
passes : (c : In_ok-when) → let a = c.args in 0 ≡ verdict (vote_checks a.s a.words.now a.slot)
passes c =
    let a = c.args in
    then-decided (words_checks a.s a.words.now) _ tt c.in_ok-words_refused.ensures (alone 8 c.in_ok-when.ensures.asked (ap not (in_tells a.s a.slot c.may_relay-members.ensures c.live_in-live.ensures)))

pub returns-in_err-when : goal.returns-in_err-when
unfolding vote_asked
returns-in_err-when c =
    let a = c.args in
    leaves_answer _ _ c.from_residual-in_err-when.ensures.1 (then-decided (words_checks a.s a.words.now) _ tt c.in_ok-words_refused.ensures (alone 8 c.in_err-when.ensures.asked (ap not (in_tells a.s a.slot c.may_relay-members.ensures c.live_in-live.ensures)))) _

pub vote_of-requires : goal.vote_of-requires
vote_of-requires c =
    let a = c.args in
    let given = vote-asked a.s a.words.now a.slot (sym (passes (goal.at.vote_of-requires c).In_ok-when)) in
    record { few = given.0.turn.rack.deep; alive = given.2; whole = given.1; here = in_members a.s a.slot c.may_relay-members.ensures c.live_in-live.ensures given.2 }

pub returns : goal.returns
unfolding vote_asked
returns c = answer-given (passes (goal.at.returns c).In_ok-when) refl (back_is (sfits_of c.vote_of.type_inv) ∙ c.vote_of.ensures)

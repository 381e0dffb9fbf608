-- `vote::answer` meets its contract: the verdict decides, and none tells what the vote is asked.
use mathlib.Core.Path.{refl, sym, ◌∙◌}
use borrow.Author.Rules.{sfits_of}
use Rattle.ground.proofs.Bits.{back_is}
use Rattle.ground.proofs.Answers.{leaves_answer, answer-given}
use Rattle.paths.proofs.Live.{live_zero}
use Rattle.paths.proofs.Members.{first-members}
use Rattle.vote.specs.Asked.{answer_asked}
use Rattle.vote.proofs.Asking.{words-asked}
use Rattle.vote.proofs.answer.Goals as goal

pub returns-in_err-words_refused : goal.returns-in_err-words_refused
unfolding answer_asked
returns-in_err-words_refused c = leaves_answer _ _ c.from_residual.ensures.1 c.in_err-words_refused.ensures _

pub vote_of-requires : goal.vote_of-requires
vote_of-requires c =
    let a = c.args in
    let given = words-asked a.s a.words.now (sym c.in_ok-words_refused.ensures) in
    record { few = given.0.turn.rack.deep; alive = live_zero a.s; whole = given.1; here = c.may_relay-members.ensures ∙ first-members a.s }

pub returns : goal.returns
unfolding answer_asked
returns c = answer-given c.in_ok-words_refused.ensures refl (back_is (sfits_of c.vote_of.type_inv) ∙ c.vote_of.ensures)

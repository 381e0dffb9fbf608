-- `dealing::fill` meets its contract: the verdict decides; the words are dealt, and the book refilled.
use mathlib.Core.Path.{◌≡◌, sym, ap₂, ◌∙◌}
use mathlib.Core.Bool.{◌&&◌}
use Rattle.ground.specs.Checks.{verdict}
use Rattle.ground.proofs.Bits.{back_is}
use Rattle.ground.proofs.Answers.{leaves_outcome}
use Rattle.book.specs.Book.{book_of}
use Rattle.dealing.specs.Asked.{fill_checks, fill_asked}
use Rattle.exchange.proofs.Asking.{deals, own-card, card-verdict}
use Rattle.dealing.proofs.Filling.{fill-asked, filling}
use Rattle.dealing.proofs.fill.Goals as goal
use Rattle.dealing.proofs.fill.Goals.{In_ok-card_refused}

pub returns-in_err-card_refused : goal.returns-in_err-card_refused
unfolding fill_asked
returns-in_err-card_refused c =
    leaves_outcome _ _ c.from_residual.ensures.1 (card-verdict c.args.s c.args.statuses.now c.ranges.x (ap₂ ◌&&◌ c.inputs_long.ensures c.is_whole.ensures) c.in_err-card_refused.ensures) _ _

-- no refusal
passes : (c : In_ok-card_refused) → let a = c.args in verdict (fill_checks a.s a.x a.statuses.now a.table.now (book_of a.words.now a.votes.now)) ≡ 0
passes c =
    sym (card-verdict c.args.s c.args.statuses.now c.ranges.x (ap₂ ◌&&◌ c.inputs_long.ensures c.is_whole.ensures) c.in_ok-card_refused.ensures)

pub deal-requires : goal.deal-requires
deal-requires c =
    let a = c.args in
    let given = fill-asked a.s a.x a.statuses.now a.table.now (book_of a.words.now a.votes.now) (passes (goal.at.deal-requires c).In_ok-card_refused) in
    (deals _ a.statuses.now a.table.now given.0.turn given.1, given.0.turn.rack.deep, own-card a.s given.0, given.2.words_long)

pub returns : goal.returns
returns c = c.refill.ensures ∙ filling _ _ _ _ _ (passes (goal.at.returns c).In_ok-card_refused) (rw (back_is c.ranges.x) at c.deal.ensures)

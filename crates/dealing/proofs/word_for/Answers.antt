-- `dealing::word_for` meets its contract: the verdict decides.
use Prim.Native.Nat.{ℕ}
use mathlib.Core.Path.{◌≡◌, refl, sym, ap, ◌∙◌}
use mathlib.Core.Bool.{not}
use mathlib.Core.List.{[], ◌∷◌}
use borrow.Author.Rules.{sfits_of}
use Rattle.ground.specs.Checks.{check, verdict}
use Rattle.ground.proofs.Bools.{holds}
use Rattle.ground.proofs.Bits.{back_is}
use Rattle.ground.proofs.Answers.{leaves_answer, answer-given, refused-first, then-decided}
use Rattle.ground.proofs.Verdicts.{no_verdict, alone, no_verdicts}
use Rattle.paths.specs.Slots.{live}
use Rattle.paths.proofs.Live.{live-slot}
use Rattle.paths.proofs.Members.{in_tells}
use Rattle.exchange.specs.Asked.{inputs_long, card_checks}
use Rattle.dealing.specs.Asked.{word_checks, word_asked}
use Rattle.exchange.proofs.Asking.{card-asked, deals, own-card, card-verdict}
use Rattle.dealing.proofs.word_for.Goals as goal
use Rattle.dealing.proofs.word_for.Goals.{After-when}

-- the verdict of a call whose settings and inputs are not refused is that on the slot
told : (c : After-when) → {k : ℕ} → let a = c.args in k ≡ verdict (check 8 (not c.live_in-live.result) ∷ []) → k ≡ verdict (word_checks a.s a.x a.statuses.now a.table.now a.slot)
told c h =
    let a = c.args in
    then-decided _ _ tt (card-verdict a.s a.statuses.now c.ranges.x c.inputs_long.ensures c.in_ok-card_refused.ensures)
    (alone 8 h (ap not (in_tells a.s a.slot c.may_relay-members.ensures c.live_in-live.ensures)))

pub returns-in_err-card_refused : goal.returns-in_err-card_refused
unfolding word_asked
returns-in_err-card_refused c =
    leaves_answer _ _ c.from_residual.ensures.1 (refused-first _ _ tt _ (card-verdict c.args.s c.args.statuses.now c.ranges.x c.inputs_long.ensures c.in_err-card_refused.ensures)) _

pub returns-in_err-when : goal.returns-in_err-when
unfolding word_asked
returns-in_err-when c = leaves_answer _ _ c.from_residual-in_err-when.ensures.1 (told (goal.at.returns-in_err-when c).After-when c.in_err-when.ensures.asked) _

pub dealt_at-requires : goal.dealt_at-requires
dealt_at-requires c =
    let a = c.args in
    let both = no_verdicts (card_checks a.s a.x a.statuses.now (inputs_long a.statuses.now a.table.now)) _ tt (sym (told (goal.at.dealt_at-requires c).After-when c.in_ok-when.ensures.asked)) in
    let given = card-asked a.s a.x a.statuses.now _ both.0 in
    (deals _ a.statuses.now a.table.now given.0.turn given.1, live-slot a.s a.slot (holds (live a.s a.slot) (no_verdict _ tt both.1).0), own-card a.s given.0)

pub returns : goal.returns
unfolding word_asked
returns c =
    answer-given (told (goal.at.returns c).After-when c.in_ok-when.ensures.asked) refl
    (back_is (sfits_of c.dealt_at.type_inv) ∙ rw (back_is c.ranges.x) at (c.dealt_at.ensures c.args.s.rack))

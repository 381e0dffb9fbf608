-- With settings that are not refused, calls on a book are the definition's steps, and the held answer after them is the answer worked out afresh.
use Prim.Native.Nat.{ℕ}
use mathlib.Core.Path.{◌≡◌, refl, sym, ap, ◌∙◌}
use mathlib.Core.Bool.{Bool, true, false, cond, not}
use mathlib.Core.List.{List, [], ◌∷◌}
use lib.Dec.{eqb}
use lib.IntN.{ℤ}
use lib.ListN.{length}
use borrow.Author.Tests.{eq-eqb}
use Rattle.ground.specs.Refusal as refusal
use Rattle.ground.specs.Checks.{check, verdict}
use Rattle.ground.specs.Answer.{value, refused, answer, outcome, after, outcome_by}
use Rattle.ground.proofs.Answers.{answer-given}
use Rattle.ground.proofs.Verdicts.{none-verdict, rest_decides}
use Rattle.words.proofs.Lawful.{omh_lawful}
use Rattle.settings.specs.Settings.{slots, settings_checks}
use Rattle.settings.specs.declared.Settings.{Settings}
use Rattle.paths.specs.Slots.{live}
use Rattle.paths.proofs.Live.{live_zero}
use Rattle.vote.specs.Vote.{rule_of, vote}
use Rattle.vote.specs.Asked.{answer_asked}
use Rattle.book.specs.Book.{Book, Sized, opened, held}
use Rattle.book.specs.Asked.{book_checks, open_asked, held_asked}
use Rattle.book.proofs.Asking.{both_sized, opened-sized, not_refused}
use Rattle.entering.specs.Entered.{entered}
use Rattle.entering.specs.Asked.{enter_asked}
use Rattle.entering.specs.Run.{step, run, words_left}
use Rattle.entering.specs.declared.Entry.{Entry}
use Rattle.entering.specs.Calls.{calls, open_calls}
use Rattle.entering.proofs.FromOpening.{step-sized, run-sized, run-words, run-votes}

-- ---- one call

-- `held_answer` yields the vote at slot 0 as it stands
pub held_call : (b : Book) → Sized b → held_asked b ≡ value (held b)
unfolding verdict answer
held_call b z = rw (both_sized b z)

module _ (s : Settings) (good : verdict (settings_checks s) ≡ 0) where
  -- `open` is done, and leaves a book just opened
  pub open_call : (b : Book) → Sized b → open_asked s b ≡ outcome (value tt) (opened (rule_of s.rack))
  unfolding outcome_by answer after
  open_call b z = rw (not_refused s b good z)

  -- `enter` is done exactly if the slot is live, else refused with 8, and leaves what a step of the definition does
  pub enter_call : (b : Book) → Sized b → (k : ℕ) (w : ℤ) → enter_asked s b k w ≡ outcome (cond (live s k) (value tt) (refused refusal.path)) (step (rule_of s.rack) s b (record { slot = k; word = w }))
  unfolding outcome_by answer after step verdict
  enter_call b z k w = rw (rest_decides (book_checks s b) (check refusal.path (not (live s k)) ∷ []) tt (not_refused s b good z)) (go (live s k))
    where
      made : Book
      made = entered (rule_of s.rack) s b k w

      go : (l : Bool) → outcome_by (verdict (check refusal.path (not l) ∷ [])) b made ≡ outcome (cond l (value tt) (refused refusal.path)) (cond l made b)
      go true = refl
      go false = refl

  -- ---- a run of calls

  -- is the definition's run
  pub calls-run : (es : List Entry) (b : Book) → Sized b → calls s b es ≡ run (rule_of s.rack) s b es
  unfolding calls run
  calls-run [] b z = refl
  calls-run (e ∷ es) b z =
      rw (enter_call b z e.slot e.word) (calls-run es (step (rule_of s.rack) s b e) (step-sized (rule_of s.rack) s b e z))

  -- ---- a run of calls after `open`, on any lists of the right length

  module _ (b : Book) (z : Sized b) (es : List Entry) where
    -- is the definition's run from a book just opened
    pub run_of_calls : open_calls s b es ≡ run (rule_of s.rack) s (opened (rule_of s.rack)) es
    run_of_calls = rw (open_call b z) (calls-run es (opened (rule_of s.rack)) (opened-sized (rule_of s.rack)))

    sized-after-calls : Sized (open_calls s b es)
    sized-after-calls = rw run_of_calls (run-sized (rule_of s.rack) s (opened (rule_of s.rack)) es (opened-sized (rule_of s.rack)))

    -- the words are those that the run's accepted words leave
    pub words-after-calls : (open_calls s b es).words ≡ words_left s es
    words-after-calls = rw run_of_calls (run-words (rule_of s.rack) s es)

    -- `held_answer` yields the vote worked out afresh from those
    pub held_after_calls : held_asked (open_calls s b es) ≡ value (vote (rule_of s.rack) s (words_left s es) 0)
    held_after_calls = held_call (open_calls s b es) sized-after-calls ∙ ap value (ap held run_of_calls ∙ run-votes (rule_of s.rack) s omh_lawful es 0 (live_zero s))

    -- and so what `vote::answer` yields over the words as they stand
    pub held_is_answer : held_asked (open_calls s b es) ≡ answer_asked s (open_calls s b es).words
    unfolding answer_asked
    held_is_answer =
        let words = (open_calls s b es).words in
        let none = rest_decides (settings_checks s) (check refusal.long (not (eqb (length words) slots)) ∷ []) tt good ∙ none-verdict _ (ap not (eq-eqb (length words) slots sized-after-calls.words_long), tt) in
        held_after_calls ∙ answer-given (sym none) refl (ap (λ (ws : List ℤ). vote (rule_of s.rack) s ws 0) (sym words-after-calls))

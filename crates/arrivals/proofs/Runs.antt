-- Words and frames mixed: a run of calls, old, ahead, foreign and damaged frames among them, is the run of the entries that the others give.
use Prim.Native.Nat.{ℕ}
use mathlib.Core.Path.{◌≡◌, refl, sym, ap, ◌∙◌}
use mathlib.Core.Logic.{◌↔◌}
use mathlib.Core.Bool.{Bool, true, false, cond, true≢false}
use mathlib.Core.List.{List, [], ◌∷◌, ◌++◌}
use lib.Dec.{T}
use borrow.Author.Tests.{eq-eqb, eqb-true, not-false}
use Rattle.ground.specs.Refusal as refusal
use Rattle.ground.specs.Checks.{verdict}
use Rattle.ground.specs.Answer.{Answer, value, refused, Outcome, outcome, outcome_by}
use Rattle.ground.specs.Lists.{at}
use Rattle.ground.proofs.Bools.{cond-case}
use Rattle.ground.proofs.Verdicts.{no_verdict, no_verdicts}
use Rattle.ground.proofs.Answers.{value-verdict, refused-verdict, refused-leaves}
use Rattle.words.proofs.Lawful.{omh_lawful}
use Rattle.settings.specs.Settings.{settings_checks}
use Rattle.settings.specs.declared.Settings.{Settings}
use Rattle.paths.specs.Slots.{live}
use Rattle.vote.specs.Vote.{rule_of, vote}
use Rattle.book.specs.Book.{Book, Sized, opened}
use Rattle.book.specs.Asked.{book_checks, held_asked}
use Rattle.book.proofs.Asking.{opened-sized}
use Rattle.entering.specs.Run.{step, run, words_left}
use Rattle.entering.specs.declared.Entry.{Entry}
use Rattle.entering.proofs.FromOpening.{step-sized}
use Rattle.entering.proofs.Demand3.{demand_3}
use Rattle.entering.proofs.Calls.{open_call, enter_call, run_of_calls, held_after_calls}
use Rattle.arrivals.specs.Entry.{frame_checks, arrival_checks, frame_asked}
use Rattle.arrivals.specs.Run.{Arrival, word, frame, taken, entry_of, entries_of, left_by, arrived, open_arrived}
use Rattle.arrivals.proofs.Entering.{frame-enters}

-- ---- one frame, whatever the settings and the lists

module _ (s : Settings) (b : Book) (current : ℕ) (bytes : List ℕ) where
  -- a refused frame changes neither list
  pub refused_keeps : (k : ℕ) → (frame_asked s b current bytes).yields ≡ refused k → (frame_asked s b current bytes).leaves ≡ b
  unfolding frame_asked outcome_by
  refused_keeps k e = refused-leaves (verdict (arrival_checks s b current bytes)) b _ (refused-verdict tt _ e).1

  -- a frame with no verdict is taken, and the slot of its entry is live
  frame-passes : verdict (arrival_checks s b current bytes) ≡ 0 → (taken s (frame current bytes) ≡ true) × (live s (entry_of (frame current bytes)).slot ≡ true)
  frame-passes e =
      let both = no_verdicts (book_checks s b ++ frame_checks s current bytes) _ tt e in
      (eq-eqb _ _ (no_verdicts (book_checks s b) (frame_checks s current bytes) tt both.0).1, not-false _ (no_verdict _ tt both.1).0)

  -- one that is not taken changes neither list
  untaken_keeps : taken s (frame current bytes) ≡ false → (frame_asked s b current bytes).leaves ≡ b
  unfolding frame_asked outcome_by
  untaken_keeps t = refused-leaves (verdict (arrival_checks s b current bytes)) b _ (λ v. true≢false (sym (frame-passes v).0 ∙ t))

-- ---- one call, with settings that are not refused and lists of the right length

module _ (s : Settings) (good : verdict (settings_checks s) ≡ 0) where
  module _ (b : Book) (z : Sized b) where
    -- a frame that is taken is its entry entered
    taken-enters : (current : ℕ) (bytes : List ℕ) → taken s (frame current bytes) ≡ true → let e = entry_of (frame current bytes) in frame_asked s b current bytes ≡ outcome (cond (live s e.slot) (value tt) (refused refusal.path)) (step (rule_of s.rack) s b e)
    taken-enters current bytes t = frame-enters s b current bytes (eqb-true _ _ t) ∙ enter_call s good b z _ _

    -- a frame is done exactly where it is taken and the slot of its entry is live
    pub frame_done : (current : ℕ) (bytes : List ℕ) → ((frame_asked s b current bytes).yields ≡ value tt) ↔ ((taken s (frame current bytes) ≡ true) × (live s (entry_of (frame current bytes)).slot ≡ true))
    unfolding frame_asked outcome_by
    frame_done current bytes = (
      λ e. frame-passes s b current bytes (value-verdict tt (verdict (arrival_checks s b current bytes)) e).0,
      λ e. ap (λ (o : Outcome (Answer (Unit {0})) Book). o.yields) (taken-enters current bytes e.0) ∙ rw e.1,
    )

    -- what is taken is the step by its entry, and anything else changes nothing
    pub call_steps : (x : Arrival) → left_by s b x ≡ cond (taken s x) (step (rule_of s.rack) s b (entry_of x)) b
    call_steps (word e) = ap (λ (o : Outcome (Answer (Unit {0})) Book). o.leaves) (enter_call s good b z e.slot e.word)
    call_steps (frame current bytes) = go (taken s x) refl
      where
        x : Arrival
        x = frame current bytes

        go : (l : Bool) → taken s x ≡ l → left_by s b x ≡ cond l (step (rule_of s.rack) s b (entry_of x)) b
        go true t = ap (λ (o : Outcome (Answer (Unit {0})) Book). o.leaves) (taken-enters current bytes t)
        go false t = untaken_keeps s b current bytes t

  -- ---- a run of calls

  -- one more, taken or not
  run_more : (b : Book) (e : Entry) (es : List Entry) (l : Bool) → run (rule_of s.rack) s (cond l (step (rule_of s.rack) s b e) b) es ≡ run (rule_of s.rack) s b (cond l (e ∷ es) es)
  unfolding run
  run_more b e es true = refl
  run_more b e es false = refl

  -- a run of calls is the run of its entries
  pub arrived-run : (b : Book) → Sized b → (xs : List Arrival) → arrived s b xs ≡ run (rule_of s.rack) s b (entries_of s xs)
  unfolding arrived entries_of run
  arrived-run b z [] = refl
  arrived-run b z (x ∷ xs) =
      ap (λ (c : Book). arrived s c xs) (call_steps b z x)
      ∙ arrived-run (cond (taken s x) (step (rule_of s.rack) s b (entry_of x)) b) (cond-case Sized (taken s x) _ _ (λ l. step-sized (rule_of s.rack) s b (entry_of x) z) (λ l. z)) xs
      ∙ run_more b (entry_of x) (entries_of s xs) (taken s x)

  -- ---- a run of calls after `open`, on any lists of the right length

  module _ (b : Book) (z : Sized b) (xs : List Arrival) where
    run_of_arrivals : open_arrived s b xs ≡ run (rule_of s.rack) s (opened (rule_of s.rack)) (entries_of s xs)
    run_of_arrivals = rw (open_call s good b z) (arrived-run (opened (rule_of s.rack)) (opened-sized (rule_of s.rack)) xs)

    -- `held_answer` yields the answer worked out afresh from the words that what was taken leaves
    pub held_after_arrivals : held_asked (open_arrived s b xs) ≡ value (vote (rule_of s.rack) s (words_left s (entries_of s xs)) 0)
    held_after_arrivals =
        ap held_asked (run_of_arrivals ∙ sym (run_of_calls s good b z (entries_of s xs)))
        ∙ held_after_calls s good b z (entries_of s xs)

    -- and every live held vote is the vote from those words
    pub votes-after_arrivals : (k : ℕ) → T (live s k) → at (open_arrived s b xs).votes k ≡ vote (rule_of s.rack) s (words_left s (entries_of s xs)) k
    votes-after_arrivals k l = ap (λ (c : Book). at c.votes k) run_of_arrivals ∙ (demand_3 (rule_of s.rack) s omh_lawful).held_votes (entries_of s xs) k l

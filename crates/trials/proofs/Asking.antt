-- What the calls for a file tell: its reading, and for a file that is not refused its bound and its answers.
use Prim.Native.Nat.{ℕ}
use mathlib.Core.Path.{◌≡◌, refl, sym, ap, ◌∙◌}
use mathlib.Core.Bool.{Bool, not}
use mathlib.Core.List.{List}
use lib.IntN.{ℤ}
use lib.ListN.{length}
use mir.Syntax.{w32}
use mir.Val.{SFits}
use borrow.Author.Tests.{eq-eqb}
use Rattle.ground.specs.Checks.{verdict}
use Rattle.ground.specs.Answer.{Answer, value, refused, Outcome, outcome}
use Rattle.ground.proofs.Answers.{outcome_done, value-verdict, refused-verdict}
use Rattle.ground.proofs.Bits.{back, back_is}
use Rattle.ground.proofs.Verdicts.{none-verdict, rest_decides, skipped}
use Rattle.settings.specs.Settings.{rack_checks, turn_checks}
use Rattle.vote.specs.Vote.{rule_of}
use Rattle.exchange.specs.Exchange.{statuses_of}
use Rattle.bound.specs.Bound.{bounded, bound_checks, bound_asked}
use Rattle.bench.specs.Asked.{answers_of, answers_checks, answers_asked}
use Rattle.files.specs.File.{turn_in, statuses, value_in, exceptions, head_of, all_missing, table_of, exchange_of, file_checks, file_asked}
use Rattle.files.specs.declared.Head.{Head}
use Rattle.files.proofs.Told.{length-told, length-missing}
use Rattle.files.proofs.Good.{file_good}
use Rattle.trials.specs.Accepting.{Accepted}

module _ (file : List ℕ) where
  -- ---- the file's reading

  pub read_head : {h : Head} → value h ≡ file_asked file → Accepted file h
  unfolding file_asked
  read_head e = let given = value-verdict (head_of file) _ (sym e) in record { passes = given.0; head = sym given.1 }

  pub read-refused : {no : ℕ} → refused no ≡ file_asked file → (no ≡ verdict (file_checks file)) × (no ≡ 0 → ⊥)
  unfolding file_asked
  read-refused e = let given = refused-verdict (head_of file) _ (sym e) in (sym given.0, λ z. given.1 (given.0 ∙ z))

  module _ {h : Head} (a : Accepted file h) where
    -- ---- its bound

    same_bound : bound_asked h.turn.rack (statuses file) ≡ bound_asked (turn_in file).rack (statuses file)
    same_bound = ap (λ (h : Head). bound_asked h.turn.rack (statuses file)) a.head

    pub bound_is : {b : Bool} → value b ≡ bound_asked h.turn.rack (statuses file) → b ≡ bounded (turn_in file).rack (statuses_of (statuses file))
    unfolding bound_asked
    bound_is e = sym (value-verdict _ _ (sym (e ∙ same_bound))).1

    -- no check on the call for it applies
    pub bound_given : {k : ℕ} → refused k ≡ bound_asked h.turn.rack (statuses file) → ⊥
    unfolding bound_asked
    bound_given e =
        let good = file_good file a.passes in
        let none : verdict (bound_checks (turn_in file).rack (statuses file)) ≡ 0 = rest_decides (rack_checks (turn_in file).rack) _ tt good.rack ∙ none-verdict _ (ap not (eq-eqb _ _ good.ten), (good.fine, tt)) in
        (refused-verdict (bounded (turn_in file).rack (statuses_of (statuses file))) _ (sym (e ∙ same_bound))).1 none

    -- ---- all answers

    -- what the call leaves, of the head's fields, the value read back from its bits, and the words told
    pub answers_are : SFits w32 h.x → {words : List ℤ} → words ≡ table_of file → (before : List ℤ) → length before ≡ 10 → {d : Answer (Unit {0})} {list : List ℤ} → outcome d list ≡ answers_asked h.turn (back h.x) (statuses file) words before → list ≡ answers_of (rule_of (turn_in file).rack) (exchange_of file) before
    unfolding answers_asked
    answers_are f {words} w before ten e =
        let good = file_good file a.passes in
        let none : verdict (answers_checks (turn_in file) (value_in file) (statuses file) (table_of file) before) ≡ 0 = rw (eq-eqb _ _ good.ten, eq-eqb _ _ (length-told file (exceptions file) all_missing ∙ length-missing), eq-eqb _ _ ten) (skipped 5 (turn_checks (turn_in file)) _ ∙ good.exchange) in
        let same : answers_asked h.turn (back h.x) (statuses file) words before ≡ answers_asked (turn_in file) (value_in file) (statuses file) (table_of file) before = rw (back_is f, a.head, w) in
        ap (λ (o : Outcome (Answer (Unit {0})) (List ℤ)). o.leaves) (e ∙ same ∙ sym (outcome_done refl none before refl))

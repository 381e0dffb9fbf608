-- The row made by a call for all answers, and set in an outcome.
use Prim.Native.Nat.{ℕ, ◌<◌}
use mathlib.Core.Path.{◌≡◌, refl, sym, ap, ◌∙◌}
use mathlib.Core.Bool.{Bool, true, ◌&&◌, and-true, and-false}
use mathlib.Core.List.{List, ◌++◌}
use native.Mathlib.Omega.{arith}
use lib.Dec.{eqb}
use lib.IntN.{ℤ}
use lib.ListN.{length, set, replicate}
use borrow.Author.Tests.{eq-eqb, ne_eqb}
use Rattle.ground.specs.Refusal as refusal
use Rattle.ground.specs.Checks.{verdict}
use Rattle.ground.specs.Answer.{Answer, value, refused, Outcome, outcome, after, outcome_by}
use Rattle.ground.specs.Lists.{table, with_part}
use Rattle.ground.proofs.Answers.{value-verdict, refused-verdict, outcome-refused, outcome_done, refused-leaves}
use Rattle.words.specs.Word.{E}
use Rattle.words.specs.Rule.{Rule}
use Rattle.settings.specs.Settings.{turn_checks}
use Rattle.settings.specs.declared.Turn.{Turn}
use Rattle.settings.proofs.Good.{fits_ten}
use Rattle.vote.specs.Vote.{rule_of}
use Rattle.exchange.specs.Exchange.{Exchange, exchange}
use Rattle.exchange.specs.Asked.{inputs_long, value_checks}
use Rattle.exchange.proofs.Asking.{turn-asked}
use Rattle.bench.specs.Asked.{answers_of, answers_asked}
use Rattle.outcomes.specs.Rows.{row_of, outcome_words}
use Rattle.outcomes.specs.Asked.{row_for, row_checks, row_made, row_asked, start_asked, list_asked}

-- all answers in a list of ten E are the row
row_is : (R : Rule) (X : Exchange) → answers_of R X (replicate 10 E) ≡ row_of R X
unfolding answers_of row_of table
row_is R X = refl

module _ (turn : Turn) (x : ℤ) (statuses : List ℕ) (words : List ℤ) where
  -- the verdict by the lengths of the inputs and of one list more
  abbrev pub with_long : Bool → ℕ
  with_long long = verdict (turn_checks turn ++ value_checks turn.rack x statuses (inputs_long statuses words && long))

  abbrev pub row_verdict : ℕ
  row_verdict = verdict (row_checks turn x statuses words)

  -- that one is right
  pub right-long : {long : Bool} → long ≡ true → with_long long ≡ row_verdict
  right-long e = ap with_long e ∙ ap (λ (b : Bool). verdict (turn_checks turn ++ value_checks turn.rack x statuses b)) (and-true (inputs_long statuses words))

  -- no verdict: the sender is one of the ten cards
  pub sender_ten : row_verdict ≡ 0 → turn.t < 10
  sender_ten e =
      let g = (turn-asked turn x statuses (inputs_long statuses words) e).0 in
      fits_ten turn.rack g.rack.few turn.t g.sender

  -- ---- what `bench::all_answers` yields, and leaves in ten E

  -- refused
  pub answers_refused : {row : List ℤ} {k : ℕ} → outcome (refused k) row ≡ answers_asked turn x statuses words (replicate 10 E) → k ≡ row_verdict
  unfolding answers_asked outcome_by
  answers_refused told =
      sym (refused-verdict tt _ (sym (ap (λ (o : Outcome (Answer (Unit {0})) (List ℤ)). o.yields) told))).0 ∙ right-long refl

  -- done
  pub answers_done : {row : List ℤ} → outcome (value tt) row ≡ answers_asked turn x statuses words (replicate 10 E) → (0 ≡ row_verdict) × (row ≡ row_for turn x statuses words)
  unfolding answers_asked outcome_by after
  answers_done told =
      let none = (value-verdict tt _ (sym (ap (λ (o : Outcome (Answer (Unit {0})) (List ℤ)). o.yields) told))).0 in (
        sym none ∙ right-long refl,
        ap (λ (o : Outcome (Answer (Unit {0})) (List ℤ)). o.leaves) told
            ∙ ap (λ (v : ℕ). after v (replicate 10 E) (answers_of (rule_of turn.rack) (exchange turn x statuses words) (replicate 10 E))) none
            ∙ row_is (rule_of turn.rack) (exchange turn x statuses words),
      )

  -- ---- a row that is refused

  module _ {k : ℕ} (told : refused k ≡ row_made turn x statuses words) where
    pub row_number : k ≡ row_verdict
    unfolding row_made
    row_number = sym (refused-verdict _ row_verdict (sym told)).0

    pub row_refused : (rows : List (List ℤ)) → outcome k rows ≡ row_asked turn x statuses words rows
    unfolding row_asked row_made
    row_refused rows =
        let same = refused-leaves row_verdict rows (set rows turn.t (row_for turn x statuses words)) (refused-verdict _ row_verdict (sym told)).1 in
        λ i. outcome (row_number i) (sym same i)

  -- ---- a row that is made

  module _ {row : List ℤ} (told : value row ≡ row_made turn x statuses words) where
    none : (row_verdict ≡ 0) × (row_for turn x statuses words ≡ row)
    unfolding row_made
    none = value-verdict _ row_verdict (sym told)

    pub row_set : (rows : List (List ℤ)) → outcome 0 (set rows turn.t row) ≡ row_asked turn x statuses words rows
    unfolding row_asked after
    row_set rows = rw (none.0, none.1)

    pub list_set : (list : List ℤ) → length list ≡ outcome_words → {left : List ℤ} → left ≡ with_part 10 turn.t list row → outcome (value tt) left ≡ list_asked turn x statuses words list
    unfolding list_asked
    list_set list e h = outcome_done (sym (right-long (eq-eqb (length list) outcome_words e) ∙ none.0)) refl _ (h ∙ ap (with_part 10 turn.t list) (sym none.1))

  -- a list of another length
  pub list_wrong : (list : List ℤ) → (length list ≡ outcome_words → ⊥) → refusal.long ≡ verdict (value_checks turn.rack x statuses (inputs_long statuses words && eqb (length list) outcome_words))
  unfolding verdict
  list_wrong list n = rw (ne_eqb (length list) outcome_words n, and-false)

-- ---- all E in a list

module _ (list : List ℤ) where
  pub start_wrong : (length list ≡ outcome_words → ⊥) → outcome (refused refusal.long) list ≡ start_asked list
  unfolding start_asked verdict
  start_wrong n = outcome-refused (rw (ne_eqb (length list) outcome_words n)) (λ z. omega arith) _ _

  pub start_done : length list ≡ outcome_words → {left : List ℤ} → left ≡ replicate outcome_words E → outcome (value tt) left ≡ start_asked list
  unfolding start_asked verdict
  start_done e h = outcome_done (rw (eq-eqb (length list) outcome_words e)) refl _ h

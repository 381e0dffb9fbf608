-- Document 02, Q-1: the outcome as it is asked of the functions. A refusal leaves it as it was.
use Rattle.std.specs.Prelude.{ℕ, not, ◌&&◌, List, [], ◌∷◌, ◌++◌, eqb, ℤ, length, set, replicate}
use Rattle.ground.specs.Refusal as refusal
use Rattle.ground.specs.Checks.{Check, check, verdict}
use Rattle.ground.specs.Answer.{Answer, answer, Outcome, outcome, after, outcome_by}
use Rattle.words.specs.Word.{E}
use Rattle.settings.specs.Settings.{most_cards, turn_checks}
use Rattle.settings.specs.declared.Turn.{Turn}
use Rattle.vote.specs.Vote.{rule_of}
use Rattle.exchange.specs.Exchange.{exchange}
use Rattle.exchange.specs.Asked.{inputs_long, value_checks}
use Rattle.ground.specs.Lists.{with_part}
use Rattle.outcomes.specs.Rows.{row_of, outcome_words}

-- the row that an exchange sets
abbrev pub row_for : Turn → ℤ → List ℕ → List ℤ → List ℤ
row_for turn x statuses words = row_of (rule_of turn.rack) (exchange turn x statuses words)

-- a row set: 1, 2, 3, 5, 7, 6
abbrev pub row_checks : Turn → ℤ → List ℕ → List ℤ → List Check
row_checks turn x statuses words = turn_checks turn ++ value_checks turn.rack x statuses (inputs_long statuses words)

-- the row made
unfoldable pub row_made : Turn → ℤ → List ℕ → List ℤ → Answer (List ℤ)
row_made turn x statuses words = answer (verdict (row_checks turn x statuses words)) (row_for turn x statuses words)

-- the number, and the outcome
unfoldable pub row_asked : Turn → ℤ → List ℕ → List ℤ → List (List ℤ) → Outcome ℕ (List (List ℤ))
row_asked turn x statuses words rows =
    let v = verdict (row_checks turn x statuses words) in
    outcome v (after v rows (set rows turn.t (row_for turn x statuses words)))

-- all E in a list: 5
abbrev pub start_checks : List ℤ → List Check
start_checks list = check refusal.long (not (eqb (length list) outcome_words)) ∷ []

unfoldable pub start_asked : List ℤ → Outcome (Answer (Unit {0})) (List ℤ)
start_asked list = outcome_by (verdict (start_checks list)) list (replicate outcome_words E)

-- a row set in a list: the same, and 5 for a list of another length as well
abbrev pub list_checks : Turn → ℤ → List ℕ → List ℤ → List ℤ → List Check
list_checks turn x statuses words list =
    turn_checks turn ++ value_checks turn.rack x statuses (inputs_long statuses words && eqb (length list) outcome_words)

unfoldable pub list_asked : Turn → ℤ → List ℕ → List ℤ → List ℤ → Outcome (Answer (Unit {0})) (List ℤ)
list_asked turn x statuses words list =
    outcome_by (verdict (list_checks turn x statuses words list)) list (with_part most_cards turn.t list (row_for turn x statuses words))

-- Document 01, 'The exchange on the bench': one card's answer and all answers, as they are asked of the functions.
use Rattle.std.specs.Prelude.{ℕ, cond, ◌&&◌, List, ◌++◌, eqb, ℤ, length}
use Rattle.ground.specs.Checks.{Check, verdict}
use Rattle.ground.specs.Answer.{Answer, answer, Outcome, outcome_by}
use Rattle.ground.specs.Lists.{at, table}
use Rattle.words.specs.Rule.{Rule}
use Rattle.settings.specs.Settings.{most_cards, fits, turn_of, turn_checks}
use Rattle.settings.specs.declared.Turn.{Turn}
use Rattle.settings.specs.declared.Settings.{Settings}
use Rattle.vote.specs.Vote.{rule_of}
use Rattle.exchange.specs.Exchange.{Exchange, exchange, answer_of}
use Rattle.exchange.specs.Asked.{inputs_long, value_checks, card_checks}

-- one card's answer: 1 to 5, 7, 6
abbrev pub answer_checks : Settings → ℤ → List ℕ → List ℤ → List Check
answer_checks s x statuses words = card_checks s x statuses (inputs_long statuses words)

unfoldable pub answer_for_asked : Settings → ℤ → List ℕ → List ℤ → Answer ℤ
answer_for_asked s x statuses words = answer (verdict (answer_checks s x statuses words)) (answer_of (rule_of s.rack) (exchange (turn_of s) x statuses words) s.p)

-- all answers: each card's in its place of a list of ten, the rest untouched
unfoldable pub answers_of : Rule → Exchange → List ℤ → List ℤ
answers_of R X before = table most_cards 0 (λ p. cond (fits X.rack p) (answer_of R X p) (at before p))

-- all answers: 1, 2, 3, 5, 7, 6; the list has ten places
abbrev pub answers_checks : Turn → ℤ → List ℕ → List ℤ → List ℤ → List Check
answers_checks turn x statuses words list =
    turn_checks turn ++ value_checks turn.rack x statuses (inputs_long statuses words && eqb (length list) most_cards)

unfoldable pub answers_asked : Turn → ℤ → List ℕ → List ℤ → List ℤ → Outcome (Answer (Unit {0})) (List ℤ)
answers_asked turn x statuses words list =
    outcome_by (verdict (answers_checks turn x statuses words list)) list (answers_of (rule_of turn.rack) (exchange turn x statuses words) list)

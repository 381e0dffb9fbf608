-- Document 01, 'The exchange on the bench': one word and a book filled, as they are asked of the functions.
use Rattle.std.specs.Prelude.{ℕ, not, ◌&&◌, List, [], ◌∷◌, ◌++◌, ℤ}
use Rattle.ground.specs.Refusal as refusal
use Rattle.ground.specs.Checks.{Check, check, verdict}
use Rattle.ground.specs.Answer.{Answer, answer, Outcome, outcome_by}
use Rattle.settings.specs.Settings.{turn_of}
use Rattle.settings.specs.declared.Settings.{Settings}
use Rattle.paths.specs.Slots.{live}
use Rattle.vote.specs.Vote.{rule_of}
use Rattle.book.specs.Book.{Book, sized}
use Rattle.exchange.specs.Exchange.{exchange, dealt}
use Rattle.exchange.specs.Asked.{inputs_long, card_checks}
use Rattle.dealing.specs.Dealt.{filled_for}

-- one word: 1 to 5, 7, 6, and then 8
abbrev pub word_checks : Settings → ℤ → List ℕ → List ℤ → ℕ → List Check
word_checks s x statuses words k = card_checks s x statuses (inputs_long statuses words) ++ check refusal.path (not (live s k)) ∷ []

unfoldable pub word_asked : Settings → ℤ → List ℕ → List ℤ → ℕ → Answer ℤ
word_asked s x statuses words k = answer (verdict (word_checks s x statuses words k)) (dealt (rule_of s.rack) (exchange (turn_of s) x statuses words) k s.p)

-- a book filled for p: 1 to 5, 7, 6; both of its lists whole
abbrev pub fill_checks : Settings → ℤ → List ℕ → List ℤ → Book → List Check
fill_checks s x statuses words b = card_checks s x statuses (inputs_long statuses words && sized b)

unfoldable pub fill_asked : Settings → ℤ → List ℕ → List ℤ → Book → Outcome (Answer (Unit {0})) Book
fill_asked s x statuses words b =
    outcome_by (verdict (fill_checks s x statuses words b)) b (filled_for (rule_of s.rack) (exchange (turn_of s) x statuses words) s.p b)

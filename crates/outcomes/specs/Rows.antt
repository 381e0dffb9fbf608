-- Document 02, Q-1: the outcome, ten rows of ten words, row by sender and column by card; and the same as one list, row after row.
use Rattle.std.specs.Prelude.{ℕ, cond, List, [], ◌∷◌, ◌++◌, ℤ, get_or, replicate}
use Rattle.ground.specs.Lists.{at, table}
use Rattle.words.specs.Word.{E}
use Rattle.words.specs.Rule.{Rule}
use Rattle.settings.specs.Settings.{most_cards, fits}
use Rattle.exchange.specs.Exchange.{Exchange, answer_of}

-- all E
unfoldable pub start : List (List ℤ)
start = replicate most_cards (replicate most_cards E)

-- the word for sender t and card p
abbrev pub word_at : List (List ℤ) → ℕ → ℕ → ℤ
word_at rows t p = at (get_or rows t []) p

-- the row of an exchange: each card's answer, E from n up
unfoldable pub row_of : Rule → Exchange → List ℤ
row_of R X = table most_cards 0 (λ p. cond (fits X.rack p) (answer_of R X p) E)

-- the words of an outcome
abbrev pub outcome_words : ℕ
outcome_words = 100

-- its rows, one after the other
unfoldable pub flat : List (List ℤ) → List ℤ
flat [] = []
flat (row ∷ rows) = row ++ flat rows

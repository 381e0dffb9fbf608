-- Document 01, 'Listing program': the text that it prints, as ASCII bytes.
use Rattle.std.specs.Prelude.{ℕ, zero, suc, ◌+◌, Bool, true, false, cond, List, [], ◌∷◌, ◌++◌, ℤ, pos, get_or}
use Rattle.ground.specs.Lists.{at}
use Rattle.words.specs.Word.{E}
use Rattle.words.specs.Majority.{same}
use Rattle.text.specs.Decimal.{decimal_of}
use Rattle.ground.specs.Checks.{verdict}
use Rattle.ground.specs.Answer.{Answer, value, refused, answer}
use Rattle.settings.specs.Settings.{most_cards, fits}
use Rattle.vote.specs.Vote.{rule_of}
use Rattle.exchange.specs.Exchange.{statuses_of, answer_of}
use Rattle.bound.specs.Bound.{bounded}
use Rattle.files.specs.File.{turn_in, statuses, exchange_of, file_checks}

-- LF
abbrev pub ending : List ℕ
ending = 10 ∷ []

-- `-` for E
unfoldable pub answer_text : ℤ → List ℕ
answer_text w = cond (same E w) (45 ∷ []) (decimal_of w)

-- card, status, answer, one blank between
unfoldable pub line_of : ℕ → ℕ → ℤ → List ℕ
line_of p status w = ((48 + p) ∷ 32 ∷ (48 + status) ∷ 32 ∷ []) ++ answer_text w ++ ending

-- the line of card p, by the statuses and the answers
abbrev pub line_at : List ℕ → List ℤ → ℕ → List ℕ
line_at statuses answers p = line_of p (get_or statuses p 0) (at answers p)

-- a line to each of the first c cards that passes, in rising order
unfoldable pub lines : (ℕ → Bool) → (ℕ → List ℕ) → ℕ → List ℕ
lines passes line zero = []
lines passes line (suc c) = lines passes line c ++ cond (passes c) (line c) []

-- `bound held` or `bound not held`
unfoldable pub bound_line : Bool → List ℕ
bound_line true = 98 ∷ 111 ∷ 117 ∷ 110 ∷ 100 ∷ 32 ∷ 104 ∷ 101 ∷ 108 ∷ 100 ∷ ending
bound_line false = 98 ∷ 111 ∷ 117 ∷ 110 ∷ 100 ∷ 32 ∷ 110 ∷ 111 ∷ 116 ∷ 32 ∷ 104 ∷ 101 ∷ 108 ∷ 100 ∷ ending

-- `refused`, a blank and the number
unfoldable pub refused_line : ℕ → List ℕ
refused_line k = (114 ∷ 101 ∷ 102 ∷ 117 ∷ 115 ∷ 101 ∷ 100 ∷ 32 ∷ []) ++ decimal_of (pos k) ++ ending

-- the line of card p of a file's exchange
abbrev pub card_line : List ℕ → ℕ → List ℕ
card_line file p = line_of p (get_or (statuses file) p 0) (answer_of (rule_of (turn_in file).rack) (exchange_of file) p)

-- the lines of the rack's cards, then the bound's
abbrev pub listed : List ℕ → List ℕ
listed file =
    lines (fits (turn_in file).rack) (card_line file) most_cards ++ bound_line (bounded (turn_in file).rack (statuses_of (statuses file)))

-- a refusal prints only its line
abbrev pub printed : Answer (List ℕ) → List ℕ
printed (value text) = text
printed (refused k) = refused_line k

unfoldable pub text_of : List ℕ → List ℕ
text_of file = printed (answer (verdict (file_checks file)) (listed file))

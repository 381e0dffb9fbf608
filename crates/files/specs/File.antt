-- Document 01, 'Listing program': a file's fields, when it is refused, and the exchange that it gives.
use Rattle.std.specs.Prelude.{ℕ, zero, suc, ◌+◌, ◌*◌, Bool, not, ◌||◌, List, [], ◌∷◌, ◌++◌, eqb, ltb, leb, ℤ, length, take, drop, set, replicate}
use Rattle.words.specs.Word.{E}
use Rattle.ground.specs.Refusal as refusal
use Rattle.ground.specs.Checks.{Check, check, verdict}
use Rattle.ground.specs.Answer.{Answer, answer}
use Rattle.ground.specs.Bytes.{byte, starts, be16, be32, signed32}
use Rattle.ground.specs.Lists.{table, some_of}
use Rattle.settings.specs.Settings.{most_cards, slots, turn_checks}
use Rattle.settings.specs.declared.Turn.{Turn}
use Rattle.exchange.specs.Exchange.{Exchange, exchange}
use Rattle.exchange.specs.Asked.{table_words, status_checks}
use Rattle.files.specs.declared.Exception.{Exception}
use Rattle.files.specs.declared.Head.{Head}

-- the letters OMX
abbrev pub mark : List ℕ
mark = 79 ∷ 77 ∷ 88 ∷ []

abbrev pub version : ℕ
version = 1

-- 5 n; 6 m; 7 t; 8-17 statuses; 18-21 x; 22-23 number of exceptions
abbrev pub turn_in : List ℕ → Turn
turn_in file = record { rack = record { n = byte file 5; m = byte file 6 }; t = byte file 7 }

abbrev pub statuses : List ℕ → List ℕ
statuses file = take most_cards (drop 8 file)

unfoldable pub value_in : List ℕ → ℤ
value_in file = signed32 (be32 file 18)

abbrev pub exceptions : List ℕ → ℕ
exceptions file = be16 file 22

abbrev pub head_of : List ℕ → Head
head_of file = record { turn = turn_in file; x = value_in file }

-- then seven bytes each: slot (2), receiver (1), word (4)
abbrev pub start : ℕ → ℕ
start i = 24 + 7 * i

abbrev pub exception_at : List ℕ → ℕ → Exception
exception_at file i =
    record { slot = be16 file (start i); receiver = byte file (start i + 2); word = signed32 (be32 file (start i + 3)) }

-- a slot over 1,110 or a receiver over 9
unfoldable pub exception_bad : List ℕ → ℕ → Bool
exception_bad file i = leb slots (exception_at file i).slot || leb most_cards (exception_at file i).receiver

abbrev pub exceptions_bad : List ℕ → Bool
exceptions_bad file = some_of (table (exceptions file) 0 (exception_bad file))

-- 9 if under 24 bytes, 10, 11, 16 if over 64 exceptions, 9 if not 24 + 7 times their number
abbrev pub shape_checks : List ℕ → List Check
shape_checks file =
    check refusal.size (ltb (length file) 24)
    ∷ check refusal.mark (not (starts file mark))
    ∷ check refusal.version (not (eqb (be16 file 3) version))
    ∷ check refusal.exception (ltb 64 (exceptions file))
    ∷ check refusal.size (not (eqb (length file) (24 + 7 * exceptions file)))
    ∷ []

-- 1, 2, 3, 7, 6
abbrev pub exchange_checks : List ℕ → List Check
exchange_checks file = turn_checks (turn_in file) ++ status_checks (turn_in file).rack (value_in file) (statuses file)

-- and 16 for a bad exception
abbrev pub file_checks : List ℕ → List Check
file_checks file = shape_checks file ++ exchange_checks file ++ check refusal.exception (exceptions_bad file) ∷ []

-- the word for slot k and receiver p stands at place 10 k + p
abbrev pub told_one : List ℕ → ℕ → List ℤ → List ℤ
told_one file i words =
    let e = exception_at file i in
    set words (10 * e.slot + e.receiver) e.word

-- a table of words after the first c exceptions; a later one for a place replaces an earlier one
unfoldable pub told : List ℕ → ℕ → List ℤ → List ℤ
told file zero words = words
told file (suc c) words = told_one file c (told file c words)

-- table words not named are E
unfoldable pub all_missing : List ℤ
all_missing = replicate table_words E

abbrev pub table_of : List ℕ → List ℤ
table_of file = told file (exceptions file) all_missing

abbrev pub exchange_of : List ℕ → Exchange
exchange_of file = exchange (turn_in file) (value_in file) (statuses file) (table_of file)

-- ---- as it is asked

unfoldable pub file_asked : List ℕ → Answer Head
file_asked file = answer (verdict (file_checks file)) (head_of file)

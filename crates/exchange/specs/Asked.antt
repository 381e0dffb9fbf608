-- Document 01, 'The exchange on the bench': when what it is given is refused.
use Rattle.std.specs.Prelude.{ℕ, Bool, true, false, not, ◌&&◌, ◌||◌, List, [], ◌∷◌, ◌++◌, eqb, ltb, ℤ, length, get_or}
use Rattle.ground.specs.Refusal as refusal
use Rattle.ground.specs.Checks.{Check, check}
use Rattle.ground.specs.Lists.{table, some_of}
use Rattle.words.specs.Word.{kind_of}
use Rattle.words.specs.declared.Kind.{Kind}
use Rattle.words.specs.declared.Kind.TheVariants.{Ordinary, Missing, Bad}
use Rattle.settings.specs.Settings.{most_cards, fits, settings_checks}
use Rattle.settings.specs.declared.Rack.{Rack}
use Rattle.settings.specs.declared.Settings.{Settings}

-- the words of a table: one for each slot and receiver
abbrev pub table_words : ℕ
table_words = 11110

-- ten status bytes, and a whole table
abbrev pub inputs_long : List ℕ → List ℤ → Bool
inputs_long statuses words = eqb (length statuses) most_cards && eqb (length words) table_words

-- a status byte is over 3, or not 0 from card n up
unfoldable pub status_bad : Rack → List ℕ → ℕ → Bool
status_bad rack statuses q = ltb 3 (get_or statuses q 0) || (not (fits rack q) && not (eqb (get_or statuses q 0) 0))

abbrev pub statuses_bad : Rack → List ℕ → Bool
statuses_bad rack statuses = some_of (table most_cards 0 (status_bad rack statuses))

abbrev pub is_ordinary : Kind → Bool
is_ordinary Ordinary = true
is_ordinary (Missing w) = false
is_ordinary Bad = false

-- the statuses, and whether x is ordinary
abbrev pub status_checks : Rack → ℤ → List ℕ → List Check
status_checks rack x statuses = check refusal.status (statuses_bad rack statuses) ∷ check refusal.value (not (is_ordinary (kind_of x))) ∷ []

-- after the settings: the lengths first
abbrev pub value_checks : Rack → ℤ → List ℕ → Bool → List Check
value_checks rack x statuses long = check refusal.long (not long) ∷ status_checks rack x statuses

-- a card's settings, and then those
abbrev pub card_checks : Settings → ℤ → List ℕ → Bool → List Check
card_checks s x statuses long = settings_checks s ++ value_checks s.rack x statuses long

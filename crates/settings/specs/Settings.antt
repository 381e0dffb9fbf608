-- Document 01, 'Settings and paths': settings, and when they are refused.
use Rattle.std.specs.Prelude.{ℕ, Bool, not, ◌||◌, List, [], ◌∷◌, ◌++◌, eqb, ltb, leb}
use Rattle.ground.specs.Refusal as refusal
use Rattle.ground.specs.Checks.{Check, check}
use Rattle.settings.specs.declared.Rack.{Rack}
use Rattle.settings.specs.declared.Turn.{Turn}
use Rattle.settings.specs.declared.Settings.{Settings}

-- the greatest card count, round count and book length
abbrev pub most_cards : ℕ
most_cards = 10

abbrev pub most_rounds : ℕ
most_rounds = 3

abbrev pub slots : ℕ
slots = 1111

-- n, the number of cards
abbrev pub cards : Rack → ℕ
cards rack = rack.n

-- a card is below n
unfoldable pub fits : Rack → ℕ → Bool
fits rack q = ltb q rack.n

abbrev pub turn_of : Settings → Turn
turn_of s = record { rack = s.rack; t = s.t }

-- n is not 1 to 10; m is over 3 or not below n
abbrev pub rack_checks : Rack → List Check
rack_checks rack =
    check refusal.cards (eqb (cards rack) 0 || ltb most_cards (cards rack))
    ∷ check refusal.rounds (ltb most_rounds rack.m || leb (cards rack) rack.m)
    ∷ []

-- and t is not below n
abbrev pub turn_checks : Turn → List Check
turn_checks turn = rack_checks turn.rack ++ check refusal.sender (not (fits turn.rack turn.t)) ∷ []

-- and p is not below n
abbrev pub settings_checks : Settings → List Check
settings_checks s = turn_checks (turn_of s) ++ check refusal.own (not (fits s.rack s.p)) ∷ []

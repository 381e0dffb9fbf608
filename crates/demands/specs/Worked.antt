-- Document 01, 'Worked by hand': the cases marked *, as one table of what a definition gives beside what it should be.
use Rattle.std.specs.Prelude.{ℕ, Bool, true, false, cond, ◌&&◌, List, [], ◌∷◌, map, ◌++◌, eqb, ℤ, pos, neg_ℤ}
use Rattle.words.specs.Word.{E, missing, read_at}
use Rattle.words.specs.Majority.{same}
use Rattle.words.specs.Rule.{omh, majority_by}
use Rattle.text.specs.Decimal.{decimal_of}
use Rattle.paths.specs.Slots.{slot_of, above, level}
use Rattle.paths.specs.Asked.{slot_asked, above_asked}
use Rattle.entering.specs.Accepted.{leaves}
use Rattle.ages.specs.Ages.{age_of, class_of, class_number}
use Rattle.omh.specs.Numbers.{number_of}
use Rattle.exchange.specs.declared.Status.{Status}
use Rattle.exchange.specs.declared.Status.TheVariants.{Good, Arbitrary, Manifest}
use Rattle.exchange.specs.Exchange.{Exchange, answer_of}

pub record Case : Type 0 where
  pub given : ℤ
  pub right : ℤ

abbrev pub case : ℤ → ℤ → Case
case a b = record { given = a; right = b }

abbrev pub number : ℕ → ℕ → Case
number a b = case (pos a) (pos b)

-- what is sent to cards 1, 2 and 3 on the path at one slot: the table's words there, E elsewhere
abbrev pub one_row : ℕ → ℤ → ℤ → ℤ → ℕ → ℕ → ℤ
one_row slot a b c k p =
    cond (eqb k slot) (cond (eqb p 1) a (cond (eqb p 2) b (cond (eqb p 3) c E))) E

-- two texts are the same, byte by byte
unfoldable pub same_text : List ℕ → List ℕ → Bool
same_text [] [] = true
same_text [] (b ∷ bs) = false
same_text (a ∷ rest) [] = false
same_text (a ∷ rest) (b ∷ bs) = eqb a b && same_text rest bs

-- n cards, one round, sender 0
abbrev pub one_round : ℕ → (ℕ → Status) → (ℕ → ℕ → ℤ) → Exchange
one_round n status tabled =
    record { rack = record { n = n; m = 1 }; sender = 0; value = pos 0; status = status; tabled = tabled }

-- n 5: sender 0 manifest, card 4 arbitrary telling 1, 2, 3 the words 11, 12, 13
abbrev pub five_statuses : ℕ → Status
five_statuses q = cond (eqb q 0) Manifest (cond (eqb q 4) Arbitrary Good)

abbrev pub five_cards : Exchange
five_cards = one_round 5 five_statuses (one_row 5 (pos 11) (pos 12) (pos 13))

-- n 4: sender 0 arbitrary, sending a, b, c
abbrev pub four_statuses : ℕ → Status
four_statuses q = cond (eqb q 0) Arbitrary Good

abbrev pub four_cards : ℤ → ℤ → ℤ → Exchange
four_cards a b c = one_round 4 four_statuses (one_row 0 a b c)

-- cards 1 to 3 all answer w
abbrev pub three_answer : Exchange → ℤ → List Case
three_answer X w = map (λ (p : ℕ). case (answer_of omh X p) w) (1 ∷ 2 ∷ 3 ∷ [])

unfoldable pub worked : List Case
worked =
    case (read_at 0 (pos 999999999)) (pos 999999999)
    ∷ case (read_at 0 (neg_ℤ (pos 1000000000))) E
    ∷ case (read_at 0 (pos 1000000001)) E
    ∷ case (read_at 1 (pos 1000000001)) (pos 1000000001)
    ∷ case (majority_by omh (pos 5 ∷ pos 5 ∷ pos 7 ∷ [])) (pos 5)
    ∷ case (majority_by omh (pos 5 ∷ pos 7 ∷ [])) E
    ∷ case (majority_by omh (pos 5 ∷ E ∷ E ∷ [])) (pos 5)
    ∷ case (majority_by omh []) E
    ∷ case (majority_by omh (missing 1 ∷ missing 1 ∷ pos 4 ∷ E ∷ [])) (missing 1)
    ∷ number (slot_of (9 ∷ 2 ∷ 7 ∷ [])) 840
    ∷ number (above 840) 83
    ∷ number (above 83) 8
    ∷ number (above 8) 0
    ∷ number (age_of 3 65534) 5
    ∷ number (class_number (class_of 5)) 12
    ∷ number (age_of 65535 0) 65535
    ∷ number (class_number (class_of 65535)) 13
    ∷ number (class_number (class_of 32767)) 12
    ∷ number (class_number (class_of 32768)) 13
    ∷ three_answer five_cards E
    ++ three_answer (four_cards (pos 10) (pos 20) (pos 30)) E
    ++ three_answer (four_cards (pos 10) (pos 10) (pos 30)) (pos 10)

-- further cases: slots of paths and slots above with their refusals, levels, texts of words that no listing prints, and what a path's accepted words leave
abbrev text : ℤ → List ℕ → Case
text w digits = number (cond (same_text (decimal_of w) digits) 1 0) 1

unfoldable pub shown : List Case
shown =
    number (number_of (slot_asked 4 0 0 0)) 8
    ∷ number (number_of (slot_asked 1 10 0 0)) 8
    ∷ number (number_of (slot_asked 2 0 10 0)) 8
    ∷ number (number_of (slot_asked 3 0 0 10)) 8
    ∷ number (number_of (slot_asked 2 7 2 10)) 0
    ∷ number (slot_of []) 0
    ∷ number (slot_of (9 ∷ [])) 10
    ∷ number (slot_of (9 ∷ 9 ∷ [])) 110
    ∷ number (slot_of (0 ∷ 0 ∷ 0 ∷ [])) 111
    ∷ number (slot_of (9 ∷ 9 ∷ 9 ∷ [])) 1110
    ∷ number (number_of (above_asked 0)) 8
    ∷ number (number_of (above_asked 1111)) 8
    ∷ number (above 11) 1
    ∷ number (above 110) 10
    ∷ number (above 111) 11
    ∷ number (above 1110) 110
    ∷ map (λ (k : ℕ). number (level k) 0) (0 ∷ [])
    ++ map (λ (k : ℕ). number (level k) 1) (1 ∷ 10 ∷ [])
    ++ map (λ (k : ℕ). number (level k) 2) (11 ∷ 110 ∷ [])
    ++ map (λ (k : ℕ). number (level k) 3) (111 ∷ 1110 ∷ [])
    ++ map (λ (k : ℕ). number (level k) 4) (1111 ∷ [])
    ++ text (neg_ℤ (pos 2147483648)) (45 ∷ 50 ∷ 49 ∷ 52 ∷ 55 ∷ 52 ∷ 56 ∷ 51 ∷ 54 ∷ 52 ∷ 56 ∷ [])
    ∷ text (neg_ℤ (pos 1000000000)) (45 ∷ 49 ∷ 48 ∷ 48 ∷ 48 ∷ 48 ∷ 48 ∷ 48 ∷ 48 ∷ 48 ∷ 48 ∷ [])
    ∷ text (missing 1) (49 ∷ 48 ∷ 48 ∷ 48 ∷ 48 ∷ 48 ∷ 48 ∷ 48 ∷ 48 ∷ 49 ∷ [])
    ∷ text (pos 2147483647) (50 ∷ 49 ∷ 52 ∷ 55 ∷ 52 ∷ 56 ∷ 51 ∷ 54 ∷ 52 ∷ 55 ∷ [])
    ∷ case (leaves (E ∷ pos 5 ∷ [])) (pos 5)
    ∷ case (leaves (pos 5 ∷ pos 5 ∷ [])) (pos 5)
    ∷ case (leaves (E ∷ E ∷ [])) E
    ∷ map (λ (ws : List ℤ). case (leaves ws) (pos 1000000009))
    ((pos 5 ∷ pos 7 ∷ [])
    ∷ (pos 5 ∷ E ∷ [])
    ∷ (pos 5 ∷ pos 7 ∷ pos 5 ∷ [])
    ∷ (pos 2000000000 ∷ neg_ℤ (pos 2000000000) ∷ [])
    ∷ (pos 1000000009 ∷ [])
    ∷ (pos 1000000009 ∷ pos 5 ∷ [])
    ∷ [])

-- every row is right
unfoldable pub all_right : List Case → Bool
all_right [] = true
all_right (c ∷ cs) = same c.given c.right && all_right cs

-- Document 02, Q-1: a run of exchanges, n, m and statuses kept, senders in any order and repeated, refused calls among them.
use Rattle.std.specs.Prelude.{ℕ, Bool, cond, ◌&&◌, List, [], ◌∷◌, eqb, ℤ}
use Rattle.std.proofs.Math.Option.{Option, none, some}
use Rattle.ground.specs.Checks.{verdict}
use Rattle.words.specs.Word.{E}
use Rattle.settings.specs.Settings.{fits}
use Rattle.settings.specs.declared.Rack.{Rack}
use Rattle.settings.specs.declared.Turn.{Turn}
use Rattle.vote.specs.Vote.{rule_of}
use Rattle.exchange.specs.Exchange.{Exchange, exchange, answer_of}
use Rattle.outcomes.specs.Rows.{row_of}
use Rattle.outcomes.specs.Asked.{row_checks, row_asked, start_asked, list_asked}

-- what a call is given besides n, m and statuses: the sender, its value, and the table
pub record Call : Type 0 where
  pub sender : ℕ
  pub value : ℤ
  pub words : List ℤ

abbrev pub turn_for : Rack → Call → Turn
turn_for rack c = record { rack = rack; t = c.sender }

abbrev pub exchange_for : Rack → List ℕ → Call → Exchange
exchange_for rack statuses c = exchange (turn_for rack c) c.value statuses c.words

-- its refusal number, 0 for none
abbrev pub number_for : Rack → List ℕ → Call → ℕ
number_for rack statuses c = verdict (row_checks (turn_for rack c) c.value statuses c.words)

-- the outcome that such calls of `set_row` leave, the first of the list first
abbrev pub left_by : Rack → List ℕ → List (List ℤ) → Call → List (List ℤ)
left_by rack statuses rows c = (row_asked (turn_for rack c) c.value statuses c.words rows).leaves

unfoldable pub after_calls : Rack → List ℕ → List (List ℤ) → List Call → List (List ℤ)
after_calls rack statuses rows [] = rows
after_calls rack statuses rows (c ∷ cs) = after_calls rack statuses (left_by rack statuses rows c) cs

-- the list that such calls of `set_in_list` leave; and after `start_list`
abbrev pub list_left_by : Rack → List ℕ → List ℤ → Call → List ℤ
list_left_by rack statuses list c = (list_asked (turn_for rack c) c.value statuses c.words list).leaves

unfoldable pub list_after_calls : Rack → List ℕ → List ℤ → List Call → List ℤ
list_after_calls rack statuses list [] = list
list_after_calls rack statuses list (c ∷ cs) = list_after_calls rack statuses (list_left_by rack statuses list c) cs

abbrev pub started_list : Rack → List ℕ → List ℤ → List Call → List ℤ
started_list rack statuses list cs = list_after_calls rack statuses (start_asked list).leaves cs

-- the call sets the row of sender t: it is that sender's, and not refused
abbrev pub sets : Rack → List ℕ → ℕ → Call → Bool
sets rack statuses t c = eqb (number_for rack statuses c) 0 && eqb c.sender t

-- the last call that does, after z; of a run, the last exchange of sender t, if there is one
unfoldable pub last_after : Rack → List ℕ → ℕ → List Call → Option Call → Option Call
last_after rack statuses t [] z = z
last_after rack statuses t (c ∷ cs) z = last_after rack statuses t cs (cond (sets rack statuses t c) (some c) z)

abbrev pub last_for : Rack → List ℕ → ℕ → List Call → Option Call
last_for rack statuses t cs = last_after rack statuses t cs none

-- the row that the last exchange leaves, and its word for card p in an outcome that began all E
abbrev pub row_left : Rack → List ℕ → Option Call → List ℤ → List ℤ
row_left rack statuses none row = row
row_left rack statuses (some c) row = row_of (rule_of rack) (exchange_for rack statuses c)

abbrev pub word_left : Rack → List ℕ → Option Call → ℕ → ℤ
word_left rack statuses none p = E
word_left rack statuses (some c) p = cond (fits rack p) (answer_of (rule_of rack) (exchange_for rack statuses c) p) E

-- Dealing words as the code does it, by status bytes and the table's places.
use Rattle.std.specs.Prelude.{ℕ, ◌+◌, ◌-◌, ◌*◌, ◌≤◌, ◌<◌, ◌≡◌, Bool, List, ℤ, length}
use Rattle.ground.specs.Lists.{at}
use Rattle.words.specs.Rule.{Rule}
use Rattle.settings.specs.Settings.{slots}
use Rattle.paths.specs.Slots.{below, level}
use Rattle.paths.specs.declared.Place.{Place}
use Rattle.exchange.specs.declared.Status.{Status}
use Rattle.exchange.specs.Exchange.{status_of, Exchange, sent, dealt}
use Rattle.exchange.specs.Asked.{table_words}

-- what p receives at slot k from a card of this status byte, which sends the word if it is good
abbrev pub sent_to : ℕ → ℤ → List ℤ → ℕ → ℕ → ℤ
sent_to status word words k p = sent (status_of status) word (at words (10 * k + p)) (at words (10 * k + 0))

-- in this exchange a card of this status sends on the path at slot k, the word if it is good
abbrev pub Sends : Rule → Exchange → ℕ → Status → ℤ → Type 0
Sends R X k status word = (q : ℕ) → sent status word (X.tabled k q) (X.tabled k 0) ≡ dealt R X k q

-- the sender is one of the ten cards, and the inputs have their right length
pub record Deals (t : ℕ) (statuses : List ℕ) (words : List ℤ) : Type 0 where
  pub sender : t < 10
  pub statuses_long : length statuses ≡ 10
  pub table_long : length words ≡ table_words

-- the place of the longer path by card q
abbrev pub by : Place → ℕ → Place
by at q = record { left = at.left - 1; d = at.d + 1; k = below at.k q }

-- what going on from a place is asked: whole lists, a card, all ten cards, and a slot of its level with at most three relays in all
pub record DealsFrom (statuses : List ℕ) (words : List ℤ) (p : ℕ) (members : List Bool) (at : Place) : Type 0 where
  pub statuses_long : length statuses ≡ 10
  pub table_long : length words ≡ table_words
  pub card : p < 10
  pub cards : length members ≡ 10
  pub slot : at.k < slots
  pub here : level at.k ≡ at.d
  pub deep : at.left + at.d ≤ 3

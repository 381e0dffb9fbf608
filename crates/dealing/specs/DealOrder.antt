-- Dealing as the code does it: what a card sends is handed down with its path, and a word is put in its place after those of the longer paths.
use Rattle.std.specs.Prelude.{ℕ, ◌-◌, ◌≡◌, Bool, List, ℤ}
use Rattle.words.specs.Rule.{Rule}
use Rattle.settings.specs.declared.Turn.{Turn}
use Rattle.paths.specs.Walk.{put_in, put_below}
use Rattle.paths.specs.declared.Place.{Place}
use Rattle.exchange.specs.Exchange.{Exchange, exchange, status_of, dealt}
use Rattle.exchange.specs.Sending.{Sends}
use Rattle.exchange.specs.declared.Sent.{Sent}

-- the word of p, by its slot alone
abbrev pub dealt_to : Rule → Exchange → ℕ → List Bool → ℕ → ℕ → ℕ → ℤ
dealt_to R X p members r d k = dealt R X k p

-- p's words at a place and at the longer paths in their places, in any exchange of these inputs in which this is sent there
pub record DealtFrom (R : Rule) (statuses : List ℕ) (table : List ℤ) (p : ℕ) (cards : List Bool) (at : Place) (sent : Sent) (before after : List ℤ) (cards-after : List Bool) : Type 0 where
  pub words : (turn : Turn) (x : ℤ) → Sends R (exchange turn x statuses table) at.k (status_of sent.status) sent.word → after ≡ put_in (dealt_to R (exchange turn x statuses table) p) cards at.left at.d at.k before
  pub members : cards-after ≡ cards

-- the same at the longer paths by the first c cards alone
pub record DealtBelow (R : Rule) (statuses : List ℕ) (table : List ℤ) (p : ℕ) (cards : List Bool) (at : Place) (sent : Sent) (before : List ℤ) (c : ℕ) (after : List ℤ) (cards-after : List Bool) : Type 0 where
  pub words : (turn : Turn) (x : ℤ) → Sends R (exchange turn x statuses table) at.k (status_of sent.status) sent.word → after ≡ put_below (dealt_to R (exchange turn x statuses table) p) cards (at.left - 1) at.d at.k c before
  pub members : cards-after ≡ cards

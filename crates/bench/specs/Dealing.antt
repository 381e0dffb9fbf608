-- Voting over dealt words as the code does it: what a card sends is handed down with its path.
use Rattle.std.specs.Prelude.{ℕ, ◌≡◌, Bool, List, ℤ}
use Rattle.words.specs.Rule.{Rule}
use Rattle.settings.specs.declared.Turn.{Turn}
use Rattle.paths.specs.declared.Place.{Place}
use Rattle.vote.specs.Members.{member_vote}
use Rattle.exchange.specs.Exchange.{exchange, status_of, received}
use Rattle.exchange.specs.Sending.{Sends}
use Rattle.exchange.specs.declared.Sent.{Sent}

-- the vote of p at a place over all that it receives, in any exchange of these inputs in which this is sent there
pub record VotedFrom (R : Rule) (statuses : List ℕ) (words : List ℤ) (p : ℕ) (cards : List Bool) (at : Place) (sent : Sent) (vote : ℤ) (cards-after : List Bool) : Type 0 where
  pub voted : (turn : Turn) (x : ℤ) → Sends R (exchange turn x statuses words) at.k (status_of sent.status) sent.word → vote ≡ member_vote R (received R (exchange turn x statuses words) p) cards at.left at.d at.k
  pub members : cards-after ≡ cards

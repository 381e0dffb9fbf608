-- Document 01, 'The exchange on the bench': what each card receives, over any rule.
use Rattle.std.specs.Prelude.{ℕ, zero, suc, ◌+◌, ◌*◌, List, ℤ, get_or}
use Rattle.ground.specs.Lists.{at, table}
use Rattle.words.specs.Word.{E}
use Rattle.words.specs.Rule.{Rule}
use Rattle.settings.specs.Settings.{slots}
use Rattle.settings.specs.declared.Rack.{Rack}
use Rattle.settings.specs.declared.Turn.{Turn}
use Rattle.settings.specs.declared.Settings.{Settings}
use Rattle.paths.specs.Slots.{above, last_relay, level}
use Rattle.vote.specs.Vote.{vote}
use Rattle.exchange.specs.declared.Status.{Status}
use Rattle.exchange.specs.declared.Status.TheVariants.{Good, Arbitrary, Symmetric, Manifest}

-- 0 good, 1 arbitrary, 2 symmetric, 3 manifest
unfoldable pub status_of : ℕ → Status
status_of zero = Good
status_of (suc zero) = Arbitrary
status_of (suc (suc zero)) = Symmetric
status_of (suc (suc (suc k))) = Manifest

-- n and m, t, the sender's value, each card's status, and the table's word for slot k and receiver p
pub record Exchange : Type 0 where
  pub rack : Rack
  pub sender : ℕ
  pub value : ℤ
  pub status : ℕ → Status
  pub tabled : ℕ → ℕ → ℤ

abbrev pub statuses_of : List ℕ → ℕ → Status
statuses_of statuses q = status_of (get_or statuses q 0)

-- from status bytes, and a table with the word for slot k and receiver p at place 10 k + p
abbrev pub exchange : Turn → ℤ → List ℕ → List ℤ → Exchange
exchange turn x statuses words = record {
  rack = turn.rack;
  sender = turn.t;
  value = x;
  status = statuses_of statuses;
  tabled = λ k p. at words (10 * k + p);
}

-- the settings of card p
abbrev pub settings_for : Exchange → ℕ → Settings
settings_for X p = record { rack = X.rack; t = X.sender; p = p }

-- what p receives from a card of this status: what a good card sends; the table's word for p; that for receiver 0; E
unfoldable pub sent : Status → ℤ → ℤ → ℤ → ℤ
sent Good word own first = word
sent Arbitrary word own first = own
sent Symmetric word own first = first
sent Manifest word own first = E

-- The word that p receives on the path of level d at slot k. A good card sends x at level 0, and above the wrapped reading of what it received one slot up.
unfoldable pub dealt_at : Rule → Exchange → ℕ → ℕ → ℕ → ℤ
dealt_at R X zero k p = sent (X.status X.sender) X.value (X.tabled k p) (X.tabled k 0)
dealt_at R X (suc d) k p =
    sent (X.status (last_relay k)) (R.wrap (R.read d (dealt_at R X d (above k) (last_relay k)))) (X.tabled k p) (X.tabled k 0)

abbrev pub dealt : Rule → Exchange → ℕ → ℕ → ℤ
dealt R X k p = dealt_at R X (level k) k p

-- all words that p receives, by slot
unfoldable pub received : Rule → Exchange → ℕ → List ℤ
received R X p = table slots 0 (λ k. dealt R X k p)

-- each card votes over what it received
unfoldable pub answer_of : Rule → Exchange → ℕ → ℤ
answer_of R X p = vote R (settings_for X p) (received R X p) 0

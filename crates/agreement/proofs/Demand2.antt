-- Demand 2 over the definitions: what the cards of an exchange answer by document 01's rule, whatever the faulty ones send.
use Prim.Native.Nat.{ℕ, ◌+◌, ◌*◌, ◌≤◌, ◌<◌}
use mathlib.Core.Path.{◌≡◌, refl, ◌∙◌}
use mathlib.Core.Logic.{◌⊎◌, ◌↔◌}
use mathlib.Core.Bool.{true, false}
use lib.Dec.{T}
use lib.IntN.{ℤ}
use Rattle.words.specs.Word.{E, kind_of, read_at}
use Rattle.words.specs.Rule.{omh}
use Rattle.words.specs.declared.Kind.TheVariants.{Ordinary}
use Rattle.words.proofs.Reading.{as_ordinary, itself, read-E}
use Rattle.words.proofs.Lawful.{omh_lawful}
use Rattle.settings.specs.Settings.{cards, fits}
use Rattle.vote.proofs.Votes.{answer_kind}
use Rattle.exchange.specs.declared.Status.{Status}
use Rattle.exchange.specs.declared.Status.TheVariants.{Good, Symmetric, Manifest}
use Rattle.exchange.specs.Exchange.{Exchange, settings_for, sent, received, answer_of}
use Rattle.bound.specs.Bound.{is_arbitrary, arbitraries, symmetrics, manifests, enough, bounded}
use Rattle.bound.proofs.Says.{enough_says, bounded_says}
use Rattle.agreement.proofs.Costs.{omh-enough}
use Rattle.agreement.proofs.Theorem.{validity, agreement}
use Rattle.agreement.proofs.Tabled.{retabled, SameAsked, answer-asked}

-- n and m of an exchange, and how many of its cards are arbitrary (a), symmetric (s) and manifest (c)
abbrev pub n : Exchange → ℕ
n X = cards X.rack

abbrev pub m : Exchange → ℕ
m X = X.rack.m

abbrev pub a : Exchange → ℕ
a X = arbitraries X.rack X.status

abbrev pub s : Exchange → ℕ
s X = symmetrics X.rack X.status

abbrev pub c : Exchange → ℕ
c X = manifests X.rack X.status

-- at most ten cards and three rounds of relay, and the sender is one of the cards
pub record Proper (X : Exchange) : Type 0 where
  pub ten : n X ≤ 10
  pub three : m X ≤ 3
  pub sends : T (fits X.rack X.sender)

-- p is one of the cards, and good; it may be the sender
pub record GoodCard (X : Exchange) (p : ℕ) : Type 0 where
  pub card : T (fits X.rack p)
  pub is_good : X.status p ≡ Good

pub record Demand2 (X : Exchange) : Type 0 where
  -- Where n > 2a + 2s + c + m, a good card answers: the sender's value, if the sender is good and its value ordinary,
  pub sender_good : enough X.rack X.status ≡ true → X.status X.sender ≡ Good → kind_of X.value ≡ Ordinary → (p : ℕ) → GoodCard X p → answer_of omh X p ≡ X.value
  -- the word that the sender sent to everyone, read at level 0, if it is symmetric,
  pub sender_symmetric : enough X.rack X.status ≡ true → X.status X.sender ≡ Symmetric → (p : ℕ) → GoodCard X p → answer_of omh X p ≡ read_at 0 (X.tabled 0 0)
  -- and E, if it is manifest.
  pub sender_manifest : enough X.rack X.status ≡ true → X.status X.sender ≡ Manifest → (p : ℕ) → GoodCard X p → answer_of omh X p ≡ E
  -- Where the bound holds, any two good cards answer the same, whatever the sender's status.
  pub agree : bounded X.rack X.status ≡ true → (p p' : ℕ) → GoodCard X p → GoodCard X p' → answer_of omh X p ≡ answer_of omh X p'
  -- These two tests say exactly: n > 2a + 2s + c + m; and that a is at most m as well.
  pub enough_says : (enough X.rack X.status ≡ true) ↔ (2 * a X + 2 * s X + c X + m X < n X)
  pub bound_says : (bounded X.rack X.status ≡ true) ↔ ((2 * a X + 2 * s X + c X + m X < n X) × (a X ≤ m X))
  -- Any card's answer is ordinary or E, bound or not.
  pub ordinary_or_E : (p : ℕ) → (kind_of (answer_of omh X p) ≡ Ordinary) ⊎ (answer_of omh X p ≡ E)
  -- Words of the table that are sent to no card of the rack on a path live for it change no answer.
  pub unasked : (other : ℕ → ℕ → ℤ) → SameAsked X other → (p : ℕ) → T (fits X.rack p) → answer_of omh X p ≡ answer_of omh (retabled X other) p

pub demand_2 : (X : Exchange) → Proper X → Demand2 X
unfolding sent answer_of
demand_2 X proper = record {
  sender_good = λ e q o p g. valid e Good q refl p g ∙ itself 0 X.value (as_ordinary o);
  sender_symmetric = λ e q p g. valid e Symmetric q refl p g;
  sender_manifest = λ e q p g. valid e Manifest q refl p g ∙ read-E 0;
  agree = λ b p p' g g'.
      let says = (bounded_says X.rack X.status).0 b in
      agreement omh X omh_lawful proper.ten proper.three proper.sends (omh-enough X says.0) says.1 p p' g.card g'.card g.is_good g'.is_good;
  enough_says = enough_says X.rack X.status;
  bound_says = bounded_says X.rack X.status;
  ordinary_or_E = λ p. answer_kind (settings_for X p) (received omh X p);
  unasked = answer-asked omh X;
}
  where
    valid : enough X.rack X.status ≡ true → (status : Status) → X.status X.sender ≡ status → is_arbitrary status ≡ false → (p : ℕ) → GoodCard X p → answer_of omh X p ≡ read_at 0 (sent status X.value (X.tabled 0 0) (X.tabled 0 0))
    valid e status q fair p g = validity omh X omh_lawful proper.ten proper.three proper.sends (omh-enough X ((enough_says X.rack X.status).0 e)) status q fair p g.card g.is_good

-- Words in the table that no card of the rack asks for change no answer.
use Prim.Native.Nat.{ℕ, zero, suc, ◌<◌}
use mathlib.Core.Path.{◌≡◌, refl, ap, ◌∙◌}
use mathlib.Core.Bool.{cond}
use native.Mathlib.Omega.{arith}
use lib.Dec.{T, eqb}
use lib.IntN.{ℤ}
use borrow.Author.Tests.{ne_eqb}
use Rattle.words.specs.Rule.{Rule}
use Rattle.settings.specs.Settings.{fits}
use Rattle.paths.specs.Slots.{above, last_relay, level, live}
use Rattle.paths.proofs.Levels.{level_zero, level-above, pos_level}
use Rattle.paths.proofs.Live.{live-slot}
use Rattle.paths.proofs.Relays.{relay_received}
use Rattle.exchange.specs.declared.Status.{Status}
use Rattle.exchange.specs.declared.Status.TheVariants.{Good, Arbitrary, Symmetric, Manifest}
use Rattle.exchange.specs.Exchange.{Exchange, settings_for, sent, dealt_at, received, answer_of}
use Rattle.exchange.proofs.Dealing.{at-received, answer_from}

-- the exchange with another table
abbrev pub retabled : Exchange → (ℕ → ℕ → ℤ) → Exchange
retabled X other = record {
  rack = X.rack;
  sender = X.sender;
  value = X.value;
  status = X.status;
  tabled = other;
}

-- the card that sends on the path at k: t at slot 0, else the last relay
abbrev pub sends : Exchange → ℕ → ℕ
sends X k = cond (eqb k 0) X.sender (last_relay k)

-- the path at k is live for p, a card of the rack
pub record Asks (X : Exchange) (k p : ℕ) : Type 0 where
  pub card : T (fits X.rack p)
  pub alive : T (live (settings_for X p) k)

-- the other table holds the same word for each card that asks, where an arbitrary card sends, and for receiver 0, where a symmetric card sends
pub record SameAsked (X : Exchange) (other : ℕ → ℕ → ℤ) : Type 0 where
  pub for_card : (k p : ℕ) → Asks X k p → X.status (sends X k) ≡ Arbitrary → X.tabled k p ≡ other k p
  pub for_all : (k p : ℕ) → Asks X k p → X.status (sends X k) ≡ Symmetric → X.tabled k 0 ≡ other k 0

sent-asked : (s : Status) (w w' a a' b b' : ℤ) → w ≡ w' → (s ≡ Arbitrary → a ≡ a') → (s ≡ Symmetric → b ≡ b') → sent s w a b ≡ sent s w' a' b'
unfolding sent
sent-asked Good w w' a a' b b' e f g = e
sent-asked Arbitrary w w' a a' b b' e f g = f refl
sent-asked Symmetric w w' a a' b b' e f g = g refl
sent-asked Manifest w w' a a' b b' e f g = refl

module _ (R : Rule) (X : Exchange) (other : ℕ → ℕ → ℤ) (same : SameAsked X other) where
  by_sender : (k p q : ℕ) (w w' : ℤ) → Asks X k p → sends X k ≡ q → w ≡ w' → sent (X.status q) w (X.tabled k p) (X.tabled k 0) ≡ sent (X.status q) w' (other k p) (other k 0)
  by_sender k p q w w' a s e =
      sent-asked (X.status q) w w' _ _ _ _ e (λ f. same.for_card k p a (ap X.status s ∙ f)) (λ f. same.for_all k p a (ap X.status s ∙ f))

  dealt-asked : (d k p : ℕ) → level k ≡ d → Asks X k p → dealt_at R X d k p ≡ dealt_at R (retabled X other) d k p
  unfolding dealt_at
  dealt-asked zero k p e a =
      let z : k ≡ 0 = level_zero k (live-slot (settings_for X p) k a.alive) e in
      by_sender k p X.sender _ _ a (rw z) refl
  dealt-asked (suc d) k p e a =
      let h : 0 < k = pos_level k d e in
      let relay = relay_received (settings_for X p) k a.alive h in
      by_sender k p (last_relay k) _ _ a (rw (ne_eqb k 0 (λ z. omega arith)))
      (ap (λ (w : ℤ). R.wrap (R.read d w))
      (dealt-asked d (above k) (last_relay k) (level-above k d (live-slot (settings_for X p) k a.alive) e) (record { card = relay.0; alive = relay.1 })))

  pub answer-asked : (p : ℕ) → T (fits X.rack p) → answer_of R X p ≡ answer_of R (retabled X other) p
  unfolding answer_of
  answer-asked p f =
      answer_from R (retabled X other) p (received R X p) (λ k t.
      at-received R X p k (live-slot (settings_for X p) k t) ∙ dealt-asked (level k) k p refl (record { card = f; alive = t }))

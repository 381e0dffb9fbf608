-- Where everyone receives the same: from a card that is not arbitrary.
use Prim.Native.Nat.{ℕ, ◌<◌}
use mathlib.Core.Path.{◌≡◌, refl, sym, ◌∙◌}
use mathlib.Core.Bool.{false}
use lib.IntN.{ℤ}
use Rattle.words.specs.Rule.{Rule}
use Rattle.paths.specs.Slots.{below}
use Rattle.exchange.specs.declared.Status.{Status}
use Rattle.exchange.specs.declared.Status.TheVariants.{Good, Arbitrary, Symmetric, Manifest}
use Rattle.exchange.specs.Exchange.{Exchange, sent, dealt}
use Rattle.exchange.proofs.Dealing.{dealt-first, dealt-below}
use Rattle.bound.specs.Bound.{is_arbitrary}

-- everyone receives the same on the path at k
abbrev pub Fair : Rule → Exchange → ℕ → Type 0
Fair R X k = (p : ℕ) → dealt R X k p ≡ dealt R X k 0

-- a card that is not arbitrary sends the same to everyone
sent-same : (s : Status) (w a b first : ℤ) → is_arbitrary s ≡ false → sent s w a first ≡ sent s w b first
unfolding sent
sent-same Good w a b first e = refl
sent-same Arbitrary w a b first e = cc
sent-same Symmetric w a b first e = refl
sent-same Manifest w a b first e = refl

module _ (R : Rule) (X : Exchange) where
  -- from the sender
  pub fair_first : is_arbitrary (X.status X.sender) ≡ false → Fair R X 0
  fair_first e p = sym (dealt-first R X 0 p refl refl refl) ∙ sent-same _ _ _ _ _ e ∙ dealt-first R X 0 0 refl refl refl

  -- from the relay q
  pub fair_below : (k q : ℕ) → k < 111 → q < 10 → is_arbitrary (X.status q) ≡ false → Fair R X (below k q)
  fair_below k q h g e p = dealt-below R X k q h g p ∙ sent-same _ _ _ _ _ e ∙ sym (dealt-below R X k q h g 0)

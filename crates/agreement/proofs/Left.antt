-- The cards left on a path: those that may still relay, or vote, there.
use Prim.Native.Nat.{ℕ, ◌<◌}
use mathlib.Core.Path.{◌≡◌, refl, sym, ◌∙◌, subst}
use mathlib.Core.Bool.{Bool, not, ◌&&◌, and-true, and-false, and_comm}
use lib.Dec.{T, eqb}
use borrow.Author.Tests.{eq-eqb, ne_eqb}
use Rattle.ground.specs.Lists.{all}
use Rattle.ground.proofs.Bools.{and_right}
use Rattle.settings.specs.Settings.{fits}
use Rattle.paths.specs.Slots.{below, level, relays_by, relays, none_of, may_relay, live, lengthens}
use Rattle.paths.proofs.Levels.{relays-below}
use Rattle.paths.proofs.Live.{live_below}
use Rattle.exchange.specs.Exchange.{Exchange, settings_for}
use Rattle.agreement.proofs.Sums.{Less}

-- q is left on the path at k: not on it, not the sender, and of the rack
unfoldable pub left : Exchange → ℕ → ℕ → Bool
left X k q = none_of q (relays k) && (not (eqb q X.sender) && fits X.rack q)

module _ (X : Exchange) where
  -- at slot 0 all cards of the rack are left, but the sender
  pub left_first : X.sender < 10 → T (fits X.rack X.sender) → Less (fits X.rack) (left X 0) X.sender
  unfolding left none_of all relays_by level
  left_first h f = record {
    place = h;
    was = f;
    out = rw (eq-eqb X.sender X.sender refl);
    others = λ q g n. rw (ne_eqb q X.sender n);
  }

  -- one relay longer, all that were left are left, but the relay
  pub left_below : (k q : ℕ) → k < 111 → q < 10 → T (left X k q) → Less (left X k) (left X (below k q)) q
  unfolding left none_of all
  left_below k q h g t = record {
    place = g;
    was = t;
    out = rw (relays-below k q h g, eq-eqb q q refl);
    others = λ r l n. rw (relays-below k q h g, ne_eqb r q n);
  }

  -- the sender is never left
  pub left_sender : (k p : ℕ) → T (left X k p) → p ≡ X.sender → ⊥
  unfolding left
  left_sender k p t e =
      subst (λ (b : Bool). T (not b && fits X.rack p)) (eq-eqb p X.sender e) (and_right (none_of p (relays k)) _ t)

  -- the paths one relay longer that are live for p, left itself, are those by the other cards left
  pub left_own : (k p : ℕ) → p < 10 → T (left X k p) → T (live (settings_for X p) k) → level k < X.rack.m → k < 111 → Less (left X k) (λ q. live (settings_for X p) (below k q)) p
  unfolding left lengthens may_relay
  left_own k p g t a l h = record {
    place = g;
    was = t;
    out = alive p g ∙ simp (eq-eqb p p refl, and-false);
    others = λ q b n. alive q b ∙ simp (ne_eqb q p n, and-true) (rw (and_comm (fits X.rack q)) (and_comm (not (eqb q X.sender) && fits X.rack q) _));
  }
    where
      apart : T (not (eqb p X.sender))
      apart = subst (λ (b : Bool). T (not b)) (sym (ne_eqb p X.sender (left_sender k p t))) tt

      alive : (q : ℕ) → q < 10 → live (settings_for X p) (below k q) ≡ lengthens (settings_for X p) k q
      alive q b = live_below (settings_for X p) k q b a l h apart

-- Laws of what a slot holds after a word, and that what a run leaves on a path is what document 02 says of its accepted words.
use Prim.Native.Nat.{ℕ}
use mathlib.Core.Path.{◌≡◌, refl, sym, ◌∙◌, subst}
use mathlib.Core.Bool.{Bool, true, false, cond, true≢false, and-eq-true_iff}
use mathlib.Core.List.{List, [], ◌∷◌}
use lib.IntN.{ℤ}
use Rattle.ground.proofs.Bools.{cond-case}
use Rattle.words.specs.Word.{E}
use Rattle.words.specs.Majority.{same}
use Rattle.words.proofs.Same.{same_eq, same_refl, eq_same, same_ne, ne_same}
use Rattle.settings.specs.declared.Settings.{Settings}
use Rattle.entering.specs.Entered.{contradicted, holds}
use Rattle.entering.specs.Run.{is_accepted, left_at}
use Rattle.entering.specs.declared.Entry.{Entry}
use Rattle.entering.specs.Accepted.{accepted_at, after_e, all_are, agreed, leaves, repeats}

-- ---- one word

module _ (old new : ℤ) where
  pub takes_any : old ≡ E → holds old new ≡ new
  unfolding holds
  takes_any e = rw (eq_same old E e)

  module _ (n : old ≡ E → ⊥) where
    pub same-again : old ≡ new → holds old new ≡ old
    unfolding holds
    same-again e = rw (ne_same old E n, eq_same old new e)

    pub contradicts : (old ≡ new → ⊥) → holds old new ≡ contradicted
    unfolding holds
    contradicts e = rw (ne_same old E n, ne_same old new e)

either : (b : Bool) (w : ℤ) → cond b w w ≡ w
either b w = cond-case (λ v. v ≡ w) b w w (λ t. refl) (λ t. refl)

-- a contradicted slot stays so
pub stays : (new : ℤ) → holds contradicted new ≡ contradicted
unfolding holds same
stays new = either (same contradicted new) contradicted

-- ---- a run's words on the path at k

module _ (s : Settings) (k : ℕ) where
  left_contradicted : (es : List Entry) → left_at s k es contradicted ≡ contradicted
  unfolding left_at
  left_contradicted [] = refl
  left_contradicted (e ∷ es) = rw (stays e.word, either (is_accepted s k e) contradicted) (left_contradicted es)

  -- from another word than E: that word where all that are accepted are the same
  left_word : (w : ℤ) → (w ≡ E → ⊥) → (es : List Entry) → left_at s k es w ≡ agreed (w ∷ accepted_at s k es)
  unfolding left_at accepted_at agreed all_are
  left_word w n [] = refl
  left_word w n (e ∷ es) = go (is_accepted s k e) (same w e.word) refl (left_word w n es)
    where
      go : (b c : Bool) → same w e.word ≡ c → left_at s k es w ≡ agreed (w ∷ accepted_at s k es) → left_at s k es (cond b (holds w e.word) w) ≡ agreed (w ∷ cond b (e.word ∷ accepted_at s k es) (accepted_at s k es))
      go true true f rest = rw (same-again w e.word n (same_eq w e.word f), f) rest
      go true false f rest = rw (contradicts w e.word n (same_ne w e.word f), f) (left_contradicted es)
      go false c f rest = rest

  -- the rule, entry by entry, and said at once over the accepted words
  pub left_agreed : (es : List Entry) → left_at s k es E ≡ leaves (accepted_at s k es)
  unfolding left_at accepted_at leaves after_e agreed
  left_agreed [] = refl
  left_agreed (e ∷ es) = go (is_accepted s k e) (same e.word E) refl (left_agreed es)
    where
      go : (b c : Bool) → same e.word E ≡ c → left_at s k es E ≡ leaves (accepted_at s k es) → left_at s k es (cond b (holds E e.word) E) ≡ leaves (cond b (e.word ∷ accepted_at s k es) (accepted_at s k es))
      go true true f rest = rw (takes_any E e.word refl, f, same_eq e.word E f) rest
      go true false f rest = rw (takes_any E e.word refl, f) (left_word e.word (same_ne e.word E f) es)
      go false c f rest = rest

-- ---- a word that is repeated is what it leaves

E_repeated : (ws : List ℤ) → all_are E ws ≡ true → leaves ws ≡ E
unfolding leaves after_e agreed all_are
E_repeated [] e = refl
E_repeated (w ∷ ws) e = let both = (and-eq-true_iff (same E w) (all_are E ws)).0 e in rw (sym (same_eq E w both.0), same_refl E) (E_repeated ws both.1)

pub repeated : (w : ℤ) (ws : List ℤ) → repeats w ws ≡ true → leaves ws ≡ w
unfolding repeats leaves after_e agreed all_are
repeated w [] e = absurd (true≢false (sym e))
repeated w (x ∷ xs) e = go (same w E) refl
  where
    both : (same w x ≡ true) × (all_are w xs ≡ true)
    both = (and-eq-true_iff (same w x) (all_are w xs)).0 e

    go : (b : Bool) → same w E ≡ b → leaves (x ∷ xs) ≡ w
    go true f = E_repeated (x ∷ xs) (subst (λ (v : ℤ). all_are v (x ∷ xs) ≡ true) (same_eq w E f) e) ∙ sym (same_eq w E f)
    go false f = rw (sym (same_eq w x both.0), f, both.1)

-- Lemma 1 and theorem 1 of source document 001 for an exchange as a whole, over any lawful rule.
use Prim.Native.Nat.{ℕ, ◌≤◌}
use mathlib.Core.Path.{◌≡◌, refl, sym, ap, ◌∙◌}
use mathlib.Core.Bool.{Bool, true, false, cond, true≢false}
use mathlib.Core.Logic.{inr}
use native.Mathlib.Omega.{arith}
use native.Mathlib.Decide.{ℕ_discrete}
use lib.Dec.{T}
use Rattle.words.specs.Rule.{Rule}
use Rattle.words.proofs.Lawful.{Lawful}
use Rattle.settings.specs.Settings.{cards, fits}
use Rattle.settings.proofs.Good.{fits_count, fits_ten}
use Rattle.paths.specs.Slots.{level}
use Rattle.paths.proofs.Live.{live_zero}
use Rattle.vote.proofs.Handed.{vote-own}
use Rattle.exchange.specs.declared.Status.{Status}
use Rattle.exchange.specs.declared.Status.TheVariants.{Good}
use Rattle.exchange.specs.Exchange.{Exchange, settings_for, sent, dealt, answer_of}
use Rattle.exchange.proofs.Dealing.{dealt-first, at-received}
use Rattle.bound.specs.Bound.{is_arbitrary, arbitraries}
use Rattle.agreement.proofs.Sums.{count_both, Less, less_total, less_count}
use Rattle.agreement.proofs.Elected.{cost}
use Rattle.agreement.proofs.Left.{left, left_first}
use Rattle.agreement.proofs.Fair.{fair_first}
use Rattle.agreement.proofs.Heard.{Goes, Votes}
use Rattle.agreement.proofs.Instances.{valid, agree}
use Rattle.agreement.proofs.Costs.{cost_all, EnoughBy}

-- the sender's answer is the word that it sends itself, as read
sender-answer : (R : Rule) (X : Exchange) → answer_of R X X.sender ≡ R.read 0 (dealt R X 0 X.sender)
unfolding answer_of level
sender-answer R X = vote-own R (settings_for X X.sender) _ 0 refl ∙ ap (R.read 0) (at-received R X X.sender 0 (omega arith))

module _ (R : Rule) (X : Exchange) (L : Lawful R) (ten : cards X.rack ≤ 10) (few : X.rack.m ≤ 3) (sends : T (fits X.rack X.sender)) (enough : EnoughBy R X) where
  -- ---- slot 0

  first : Less (fits X.rack) (left X 0) X.sender
  first = left_first X (fits_ten X.rack ten X.sender sends) sends

  goes : Goes R X X.rack.m 0
  unfolding level
  goes = record {
    few = few;
    slot = omega arith;
    rounds = omega arith;
    spare = omega (arith, less_total _ _ _ first (λ q. cost R (X.status q)), less_count _ _ _ first, cost_all R X, fits_count X.rack ten);
  }

  votes : (p : ℕ) → T (fits X.rack p) → X.status p ≡ Good → (p ≡ X.sender → ⊥) → Votes X 0 p
  votes p f g n =
      let h = fits_ten X.rack ten p f in
      record { place = h; is_good = g; stays = rw (first.others p h n) f; alive = live_zero (settings_for X p) }

  -- ---- the answers

  -- where the sender is not arbitrary, a good card answers what everyone receives from it, as read
  valid_first : is_arbitrary (X.status X.sender) ≡ false → (p : ℕ) → T (fits X.rack p) → X.status p ≡ Good → answer_of R X p ≡ R.read 0 (dealt R X 0 0)
  unfolding answer_of level
  valid_first fair p f g = go (ℕ_discrete p X.sender)
    where
      go : Dec (p ≡ X.sender) → answer_of R X p ≡ R.read 0 (dealt R X 0 0)
      go (yes e) = ap (answer_of R X) e ∙ sender-answer R X ∙ ap (R.read 0) (fair_first R X fair X.sender)
      go (no n) = valid R X L X.rack.m 0 p goes (votes p f g n) (fair_first R X fair)

  -- lemma 1: a good card answers what a sender of that status, not arbitrary, sends to everyone, as read
  pub validity : (s : Status) → X.status X.sender ≡ s → is_arbitrary s ≡ false → (p : ℕ) → T (fits X.rack p) → X.status p ≡ Good → answer_of R X p ≡ R.read 0 (sent s X.value (X.tabled 0 0) (X.tabled 0 0))
  validity s e fair p f g = valid_first (ap is_arbitrary e ∙ fair) p f g ∙ ap (R.read 0) (sym (dealt-first R X 0 0 refl refl refl) ∙ rw e)

  -- theorem 1: where also a is at most m, two good cards answer the same
  pub agreement : arbitraries X.rack X.status ≤ X.rack.m → (p p' : ℕ) → T (fits X.rack p) → T (fits X.rack p') → X.status p ≡ Good → X.status p' ≡ Good → answer_of R X p ≡ answer_of R X p'
  unfolding answer_of
  agreement most p p' f f' g g' = go (is_arbitrary (X.status X.sender)) refl
    where
      -- a good card is not an arbitrary sender
      apart : is_arbitrary (X.status X.sender) ≡ true → (q : ℕ) → X.status q ≡ Good → q ≡ X.sender → ⊥
      apart a q c e = true≢false (sym a ∙ ap (λ (s : ℕ). is_arbitrary (X.status s)) (sym e) ∙ ap is_arbitrary c)

      go : (b : Bool) → is_arbitrary (X.status X.sender) ≡ b → answer_of R X p ≡ answer_of R X p'
      go false fair = valid_first fair p f g ∙ sym (valid_first fair p' f' g')
      go true a =
          let less = less_total _ _ _ first (λ q. cond (is_arbitrary (X.status q)) 1 0) in
          agree R X L X.rack.m 0 p p' goes (votes p f g (apart a p g)) (votes p' f' g' (apart a p' g'))
          (inr (omega (arith, rw a at less, count_both (fits X.rack) (λ q. is_arbitrary (X.status q)) 10 0)))

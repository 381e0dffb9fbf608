-- Lemma 1 and theorem 1 of source document 001 at any path: what a good card votes there, and that two good cards vote the same.
use Prim.Native.Nat.{ℕ, zero, suc, ◌<◌}
use mathlib.Core.Path.{◌≡◌, refl, sym, ap, ◌∙◌}
use mathlib.Core.Bool.{Bool, true, false, cond}
use mathlib.Core.List.{List}
use mathlib.Core.Logic.{◌⊎◌, inl, inr}
use native.Mathlib.Omega.{arith}
use native.Mathlib.Decide.{ℕ_discrete}
use lib.Dec.{T}
use lib.IntN.{ℤ}
use Rattle.ground.proofs.Lists.{over-same}
use Rattle.words.specs.Rule.{Rule, majority_by}
use Rattle.words.proofs.Lawful.{Lawful}
use Rattle.paths.specs.Slots.{below, level}
use Rattle.paths.proofs.Levels.{level-below}
use Rattle.vote.proofs.Votes.{vote_is}
use Rattle.vote.proofs.Handed.{from_last}
use Rattle.exchange.specs.declared.Status.{Status}
use Rattle.exchange.specs.declared.Status.TheVariants.{Good, Arbitrary, Symmetric, Manifest}
use Rattle.exchange.specs.Exchange.{Exchange, settings_for, sent, dealt}
use Rattle.exchange.proofs.Dealing.{at-received, dealt-below}
use Rattle.bound.specs.Bound.{is_arbitrary}
use Rattle.agreement.proofs.Sums.{total, less_total}
use Rattle.agreement.proofs.Elected.{Says, elected}
use Rattle.agreement.proofs.Left.{left, left_below}
use Rattle.agreement.proofs.Fair.{Fair, fair_below}
use Rattle.agreement.proofs.Heard.{Goes, Votes, vote_of, passed, heard, heard_own, heard_other, shallow, small, goes_below, votes-below, vote_heard}

-- lemma 1, with r rounds left: where everyone receives the same, a good card votes what it is, as read
abbrev pub Valid : Rule → Exchange → ℕ → Type 0
Valid R X r = (k p : ℕ) → Goes R X r k → Votes X k p → Fair R X k → vote_of R X k p ≡ R.read (level k) (dealt R X k 0)

-- how many of the cards left are arbitrary
abbrev pub arbitrary_left : Exchange → ℕ → ℕ
arbitrary_left X k = total (left X k) (λ q. cond (is_arbitrary (X.status q)) 1 0)

-- theorem 1, with r rounds left: where everyone receives the same, or fewer cards left are arbitrary than there are rounds, good cards vote the same
abbrev pub Agrees : Rule → Exchange → ℕ → Type 0
Agrees R X r = (k p p' : ℕ) → Goes R X r k → Votes X k p → Votes X k p' → Fair R X k ⊎ (arbitrary_left X k < r) → vote_of R X k p ≡ vote_of R X k p'

is_good : (s : Status) → Dec (s ≡ Good)
is_good Good = yes refl
is_good Arbitrary = no (λ e. let z : ◌≡◌ {A = ℕ} 0 1 = cc in omega arith)
is_good Symmetric = no (λ e. let z : ◌≡◌ {A = ℕ} 0 1 = cc in omega arith)
is_good Manifest = no (λ e. let z : ◌≡◌ {A = ℕ} 0 1 = cc in omega arith)

module _ (R : Rule) (X : Exchange) (L : Lawful R) where
  -- ---- what p counts for q, where lemma 1 holds one relay longer

  module _ {r k p : ℕ} (valid : Valid R X r) (goes : Goes R X (suc r) k) (votes : Votes X k p) (q : ℕ) (h : q < 10) (t : T (left X k q)) where
    -- for another card that sends to everyone the same
    heard_fair : (q ≡ p → ⊥) → Fair R X (below k q) → heard R X k p q ≡ R.read (suc (level k)) (dealt R X (below k q) 0)
    heard_fair n fair =
        heard_other R X k p q n
        ∙ valid (below k q) p (goes_below goes q h t) (votes-below goes votes q h t n) fair
        ∙ rw (level-below k q (small goes) h)

    -- for a good card, p or another: what it passes on
    heard_good : X.status q ≡ Good → heard R X k p q ≡ passed R X k q
    unfolding sent
    heard_good g = go (ℕ_discrete q p)
      where
        go : Dec (q ≡ p) → heard R X k p q ≡ passed R X k q
        go (yes e) = heard_own R X k p q e
        go (no n) =
            heard_fair n (fair_below R X k q (small goes) h (ap is_arbitrary g))
            ∙ ap (R.read (suc (level k))) (dealt-below R X k q (small goes) h 0 ∙ rw g)
            ∙ L.wrap_reads (level k) _ (L.read_read (level k) _)

    -- where everyone receives the same at k, a good card passes that on, and a manifest one counts as none
    heard_says : Fair R X k → (s : Status) → X.status q ≡ s → Says R (passed R X k 0) s (heard R X k p q)
    unfolding sent
    heard_says fair Good e = heard_good e ∙ ap (λ (w : ℤ). R.wrap (R.read (level k) w)) (fair q)
    heard_says fair Arbitrary e = tt
    heard_says fair Symmetric e = tt
    heard_says fair Manifest e =
        heard_fair (λ s. let z : ◌≡◌ {A = ℕ} 0 1 = cc in omega arith) (fair_below R X k q (small goes) h (ap is_arbitrary e))
        ∙ ap (R.read (suc (level k))) (dealt-below R X k q (small goes) h 0 ∙ rw e)
        ∙ L.missing_reads (suc (level k))

  -- ---- lemma 1

  pub valid : (r : ℕ) → Valid R X r
  valid zero k p goes votes fair =
      vote_is R (settings_for X p) _ k votes.alive
      ∙ from_last R (settings_for X p) _ _ k (omega (arith, goes.rounds))
      ∙ ap (R.read (level k)) (at-received R X p k goes.slot ∙ fair p)
  valid (suc r) k p goes votes fair =
      let read = L.read_read (level k) (dealt R X k 0) in
      vote_heard goes votes
      ∙ ap R.unwrap
      (elected R X.status _ (L.counted (level k) _ (shallow goes) read) (left X k) (heard R X k p)
      (λ q a h t. heard_says (valid r) goes votes q h t fair (X.status q) refl) (omega (arith, goes.spare)))
      ∙ L.undone (level k) _ (shallow goes) read

  -- ---- theorem 1

  agree_step : (r : ℕ) → Agrees R X r → (k p p' : ℕ) → Goes R X (suc r) k → Votes X k p → Votes X k p' → arbitrary_left X k < suc r → vote_of R X k p ≡ vote_of R X k p'
  agree_step r ih k p p' goes votes votes' few =
      vote_heard goes votes
      ∙ ap (λ (l : List ℤ). R.unwrap (majority_by R l)) (over-same (left X k) _ _ 10 0 (λ q a h t. same q h t (is_good (X.status q))))
      ∙ sym (vote_heard goes votes')
    where
      same : (q : ℕ) → q < 10 → T (left X k q) → Dec (X.status q ≡ Good) → heard R X k p q ≡ heard R X k p' q
      same q h t (yes g) = heard_good (valid r) goes votes q h t g ∙ sym (heard_good (valid r) goes votes' q h t g)
      same q h t (no n) =
          heard_other R X k p q (apart p votes)
          ∙ ih (below k q) p p' (goes_below goes q h t) (votes-below goes votes q h t (apart p votes)) (votes-below goes votes' q h t (apart p' votes')) (next (is_arbitrary (X.status q)) refl)
          ∙ sym (heard_other R X k p' q (apart p' votes'))
        where
          apart : (x : ℕ) → Votes X k x → q ≡ x → ⊥
          apart x v e = n (ap X.status e ∙ v.is_good)

          -- with an arbitrary card as relay one arbitrary card fewer is left, and from any other everyone receives the same
          next : (b : Bool) → is_arbitrary (X.status q) ≡ b → Fair R X (below k q) ⊎ (arbitrary_left X (below k q) < r)
          next false e = inl (fair_below R X k q (small goes) h e)
          next true e =
              let less = less_total _ _ q (left_below X k q (small goes) h t) (λ q. cond (is_arbitrary (X.status q)) 1 0) in
              inr (omega (arith, rw e at less))

  agree_by : (r : ℕ) → ((k p p' : ℕ) → Goes R X r k → Votes X k p → Votes X k p' → arbitrary_left X k < r → vote_of R X k p ≡ vote_of R X k p') → Agrees R X r
  agree_by r few k p p' goes votes votes' (inl fair) = valid r k p goes votes fair ∙ sym (valid r k p' goes votes' fair)
  agree_by r few k p p' goes votes votes' (inr l) = few k p p' goes votes votes' l

  pub agree : (r : ℕ) → Agrees R X r
  agree zero = agree_by zero (λ k p p' goes votes votes' l. absurd (omega arith))
  agree (suc r) = agree_by (suc r) (agree_step r (agree r))

-- What a good card counts at a path: its own report for itself, and for each other card left its vote one relay longer.
use Prim.Native.Nat.{ℕ, suc, ◌+◌, ◌≤◌, ◌<◌}
use mathlib.Core.Path.{◌≡◌, refl, sym, ap, ◌∙◌}
use mathlib.Core.Bool.{cond}
use native.Mathlib.Omega.{arith}
use lib.Dec.{T, eqb}
use lib.IntN.{ℤ}
use borrow.Author.Tests.{eq-eqb, ne_eqb}
use Rattle.ground.specs.Lists.{over, count}
use Rattle.words.specs.Rule.{Rule, majority_by}
use Rattle.paths.specs.Slots.{below, level, live}
use Rattle.paths.proofs.Levels.{level-below, level_small}
use Rattle.vote.specs.Vote.{vote}
use Rattle.vote.proofs.Votes.{vote_is}
use Rattle.vote.proofs.Handed.{from_longer}
use Rattle.exchange.specs.declared.Status.TheVariants.{Good}
use Rattle.exchange.specs.Exchange.{Exchange, settings_for, dealt, received}
use Rattle.exchange.proofs.Dealing.{at-received}
use Rattle.agreement.proofs.Sums.{total, Less, less_total, less_count}
use Rattle.agreement.proofs.Elected.{cost, pooled}
use Rattle.agreement.proofs.Left.{left, left_below, left_sender, left_own}

-- the path at k, with r of at most three rounds left: there are at least r more cards left than they cost
pub record Goes (R : Rule) (X : Exchange) (r k : ℕ) : Type 0 where
  pub few : X.rack.m ≤ 3
  pub slot : k < 1111
  pub rounds : level k + r ≡ X.rack.m
  pub spare : total (left X k) (λ q. cost R (X.status q)) + r ≤ count (left X k) 10 0

-- p is a good card that votes there
pub record Votes (X : Exchange) (k p : ℕ) : Type 0 where
  pub place : p < 10
  pub is_good : X.status p ≡ Good
  pub stays : T (left X k p)
  pub alive : T (live (settings_for X p) k)

-- p's vote at k
abbrev pub vote_of : Rule → Exchange → ℕ → ℕ → ℤ
vote_of R X k p = vote R (settings_for X p) (received R X p) k

-- what a good card q passes on of what it received at k
abbrev pub passed : Rule → Exchange → ℕ → ℕ → ℤ
passed R X k q = R.wrap (R.read (level k) (dealt R X k q))

-- what p counts for q
unfoldable pub heard : Rule → Exchange → ℕ → ℕ → ℕ → ℤ
heard R X k p q = cond (eqb q p) (passed R X k p) (vote_of R X (below k q) p)

pub heard_own : (R : Rule) (X : Exchange) (k p q : ℕ) → q ≡ p → heard R X k p q ≡ passed R X k q
unfolding heard
heard_own R X k p q e = rw (e, eq-eqb p p refl)

pub heard_other : (R : Rule) (X : Exchange) (k p q : ℕ) → (q ≡ p → ⊥) → heard R X k p q ≡ vote_of R X (below k q) p
unfolding heard
heard_other R X k p q n = rw (ne_eqb q p n)

module _ {R : Rule} {X : Exchange} {r k : ℕ} (goes : Goes R X (suc r) k) where
  pub shallow : level k ≤ 2
  shallow = omega (arith, goes.few, goes.rounds)

  pub small : k < 111
  small = level_small k goes.slot (omega (arith, shallow))

  -- ---- one relay longer

  pub goes_below : (q : ℕ) → q < 10 → T (left X k q) → Goes R X r (below k q)
  goes_below q h t =
      let less = left_below X k q small h t in
      record {
        few = goes.few;
        slot = omega (arith, small);
        rounds = omega (arith, level-below k q small h, goes.rounds);
        spare = omega (arith, less_total _ _ q less (λ q. cost R (X.status q)), less_count _ _ q less, goes.spare);
      }

  module _ {p : ℕ} (votes : Votes X k p) where
    own : Less (left X k) (λ q. live (settings_for X p) (below k q)) p
    own = left_own X k p votes.place votes.stays votes.alive (omega (arith, goes.rounds)) small

    pub votes-below : (q : ℕ) → q < 10 → T (left X k q) → (q ≡ p → ⊥) → Votes X (below k q) p
    votes-below q h t n = record {
      place = votes.place;
      is_good = votes.is_good;
      stays = rw ((left_below X k q small h t).others p votes.place (λ e. n (sym e))) votes.stays;
      alive = rw (own.others q h n) t;
    }

    -- ---- the vote is the majority of what p counts, unwrapped

    pub vote_heard : vote_of R X k p ≡ R.unwrap (majority_by R (over (left X k) (heard R X k p) 10 0))
    vote_heard =
        vote_is R (settings_for X p) _ k votes.alive
        ∙ from_longer R (settings_for X p) _ _ k (left_sender X k p votes.stays) (λ e. omega (arith, goes.rounds))
        ∙ ap R.unwrap
        (pooled R (left X k) _ p own _ _ (heard R X k p)
        (ap (λ (w : ℤ). R.wrap (R.read (level k) w)) (at-received R X p k goes.slot) ∙ sym (heard_own R X k p p refl))
        (λ q n. sym (heard_other R X k p q n)))

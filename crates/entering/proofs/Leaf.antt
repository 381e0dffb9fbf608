-- Laws of one vote made again: document 01's two cases, with the members handed on.
use Prim.Native.Nat.{ℕ, zero, suc, ◌+◌, ◌≤◌, ◌<◌}
use mathlib.Core.Path.{◌≡◌, refl, sym, ap, ◌∙◌}
use mathlib.Core.Bool.{Bool}
use mathlib.Core.List.{List}
use native.Mathlib.Omega.{arith}
use native.Mathlib.Numerals.{add-one}
use native.Mathlib.Decide.{ℕ_discrete}
use lib.Dec.{T}
use lib.IntN.{ℤ}
use Rattle.ground.specs.Lists.{at}
use Rattle.ground.proofs.Lists.{over_cong}
use Rattle.words.specs.Rule.{Rule}
use Rattle.settings.specs.declared.Settings.{Settings}
use Rattle.paths.specs.Slots.{below, level, live, rounds_left}
use Rattle.paths.specs.Walk.{may}
use Rattle.paths.proofs.Levels.{level_small, level-below}
use Rattle.paths.proofs.Live.{live-slot, live-level, live_below, apart_of}
use Rattle.paths.proofs.Handed.{Handed, left_own, left_other}
use Rattle.vote.specs.Vote.{reading, decided}
use Rattle.vote.proofs.Handed.{from_own, from_last, from_longer}
use Rattle.entering.specs.Entered.{remade}
use Rattle.entering.specs.Remaking.{held_votes, member_remade}

-- where rounds are left at a live slot there is room for one relay more
pub left_inner : (s : Settings) (k : ℕ) → s.rack.m ≤ 3 → T (live s k) → (rounds_left s (level k) ≡ 0 → ⊥) → k < 111
left_inner s k few t n = go (ℕ_discrete s.p s.t)
  where
    go : Dec (s.p ≡ s.t) → k < 111
    go (yes e) = absurd (n (left_own s (level k) e))
    go (no o) = level_small k (live-slot s k t) (omega (arith, left_other s (level k) o))

-- ---- one vote made again, with its members handed on

module _ (R : Rule) (w : ℤ) (vs : List ℤ) (members : List Bool) (r d k : ℕ) where
  pub made_last : r ≡ 0 → member_remade R w vs members r d k ≡ R.read d w
  unfolding member_remade
  made_last e = rw e

  pub made_more : (r ≡ 0 → ⊥) → member_remade R w vs members r d k ≡ decided R (R.read d w) (held_votes R vs members (d + 1) k 10)
  made_more n = go r n
    where
      go : (r : ℕ) → (r ≡ 0 → ⊥) → member_remade R w vs members r d k ≡ decided R (R.read d w) (held_votes R vs members (d + 1) k 10)
      go zero n = absurd (n refl)
      go (suc r) n = unfold member_remade in refl

-- it is the vote made again at a live slot
pub remade_handed : (R : Rule) (s : Settings) (ws vs : List ℤ) (members : List Bool) (r d k : ℕ) → s.rack.m ≤ 3 → T (live s k) → Handed s members k → r ≡ rounds_left s (level k) → d ≡ level k → member_remade R (at ws k) vs members r d k ≡ remade R s ws vs k
unfolding remade
remade_handed R s ws vs members r d k few t m e f = rw f (own (ℕ_discrete s.p s.t))
  where
    l : level k ≤ s.rack.m
    l = live-level s k t

    read_only : r ≡ 0 → member_remade R (at ws k) vs members r (level k) k ≡ reading R ws k
    read_only z = made_last R (at ws k) vs members r (level k) k z

    inner : (s.p ≡ s.t → ⊥) → Dec (level k ≡ s.rack.m) → member_remade R (at ws k) vs members r (level k) k ≡ remade R s ws vs k
    inner o (yes q) = read_only (omega (arith, left_other s (level k) o)) ∙ sym (from_last R s ws _ k q)
    inner o (no n) =
        let small : k < 111 = level_small k (live-slot s k t) (omega (arith, l)) in
        made_more R (at ws k) vs members r (level k) k (λ z. omega (arith, l, left_other s (level k) o))
        ∙ ap (decided R (reading R ws k)) (over_cong (may members) _ _ _ 10 0
        (λ q h. m q (omega arith) ∙ sym (live_below s k q (omega arith) t (omega (arith, l)) small (apart_of s o)))
        (λ q h u. ap (λ (x : ℕ). R.read x (at vs (below k q))) (add-one (level k) ∙ sym (level-below k q small (omega arith)))))
        ∙ sym (from_longer R s ws _ k o n)

    own : Dec (s.p ≡ s.t) → member_remade R (at ws k) vs members r (level k) k ≡ remade R s ws vs k
    own (yes q) = read_only (e ∙ left_own s (level k) q) ∙ sym (from_own R s ws _ k q)
    own (no o) = inner o (ℕ_discrete (level k) s.rack.m)

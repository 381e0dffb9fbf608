-- The vote with its members handed down is the vote.
use Prim.Native.Nat.{ℕ, zero, suc, ◌+◌, ◌-◌, ◌≤◌, ◌<◌}
use mathlib.Core.Path.{◌≡◌, refl, sym, ap, ◌∙◌}
use mathlib.Core.Bool.{Bool, true, false, cond, ◌||◌}
use mathlib.Core.List.{List}
use native.Mathlib.Omega.{arith}
use native.Mathlib.Decide.{ℕ_discrete}
use lib.Dec.{T, eqb}
use lib.IntN.{ℤ}
use lib.ListN.{set}
use borrow.Author.Tests.{eq-eqb, ne_eqb}
use Rattle.ground.proofs.Lists.{over_cong}
use Rattle.words.specs.Rule.{Rule}
use Rattle.settings.specs.declared.Settings.{Settings}
use Rattle.paths.specs.Slots.{below, level, live, members_of, rounds_left}
use Rattle.paths.specs.Walk.{may}
use Rattle.paths.proofs.Levels.{level_small}
use Rattle.paths.proofs.Live.{live-slot, live_below, apart_of}
use Rattle.paths.proofs.Handed.{left_own, Down, down_more, down_path}
use Rattle.paths.proofs.Walk.{Right}
use Rattle.vote.specs.Vote.{longer, reading, decided, vote_from, vote_in, vote}
use Rattle.vote.specs.Members.{member_vote}
use Rattle.vote.proofs.Gather.{vote-last}

-- ---- document 01's two cases

module _ (R : Rule) (s : Settings) (ws : List ℤ) (f : ℕ → ℤ) (k : ℕ) where
  pub from_own : s.p ≡ s.t → vote_from R s ws f k ≡ reading R ws k
  unfolding vote_from
  from_own e = rw (eq-eqb s.p s.t e)

  pub from_last : level k ≡ s.rack.m → vote_from R s ws f k ≡ reading R ws k
  unfolding vote_from
  from_last e = rw (eq-eqb (level k) s.rack.m e) (go (eqb s.p s.t) _ _)
    where
      go : (b : Bool) (x y : ℤ) → cond (b || true) x y ≡ x
      go true x y = refl
      go false x y = refl

  pub from_longer : (s.p ≡ s.t → ⊥) → (level k ≡ s.rack.m → ⊥) → vote_from R s ws f k ≡ decided R (reading R ws k) (longer s f k)
  unfolding vote_from
  from_longer o n = rw (ne_eqb s.p s.t o, ne_eqb (level k) s.rack.m n)

-- ---- the vote

module _ (R : Rule) (s : Settings) (ws : List ℤ) (o : s.p ≡ s.t → ⊥) (few : s.rack.m ≤ 3) where
  handed_in : (r d k : ℕ) (members : List Bool) → Down s r d k members → member_vote R ws members r d k ≡ vote_in R s ws r k
  unfolding member_vote vote_in
  handed_in zero d k members h = rw (← h.deep) (sym (from_last R s ws (λ j. R.none) k (omega (arith, h.deep, h.left))))
  handed_in (suc r) d k members h =
      let small : k < 111 = level_small k (live-slot s k h.alive) (omega (arith, h.deep, h.left)) in
      let alive : (q : ℕ) → q < 10 → may members q ≡ live s (below k q) = λ q g. h.handed q g ∙ sym (live_below s k q g h.alive (omega (arith, h.deep, h.left)) small (apart_of s o)) in
      rw (← h.deep) (ap (decided R (reading R ws k)) (over_cong (may members) (λ q. live s (below k q)) _ _ 10 0 (λ q g. alive q (omega arith))
      (λ q g u. rw h.deep (handed_in r (d + 1) (below k q) (set members q false) (down_more s o few h q (omega arith) u))))
      ∙ sym (from_longer R s ws (vote_in R s ws r) k o (λ e. omega (arith, h.deep, h.left))))

  -- at every live slot
  pub handed_vote : Right s (member_vote R ws) (vote R s ws)
  unfolding vote
  handed_vote r d k members h =
      let e : s.rack.m - level k ≡ r = omega (arith, h.deep, h.left) in
      rw e (handed_in r d k members h)

-- where p is t
pub vote-own : (R : Rule) (s : Settings) (ws : List ℤ) (k : ℕ) → s.p ≡ s.t → vote R s ws k ≡ reading R ws k
unfolding vote
vote-own R s ws k e = go (s.rack.m - level k)
  where
    go : (r : ℕ) → vote_in R s ws r k ≡ reading R ws k
    go zero = unfold vote_in in (from_own R s ws (λ j. R.none) k e)
    go (suc r) = unfold vote_in in (from_own R s ws (vote_in R s ws r) k e)

-- where p is t no round is left
pub own-vote : (R : Rule) (s : Settings) (ws : List ℤ) (k : ℕ) (members : List Bool) → s.p ≡ s.t → member_vote R ws members (rounds_left s (level k)) (level k) k ≡ vote R s ws k
own-vote R s ws k members e = vote-last R ws members (rounds_left s (level k)) (level k) k (left_own s (level k) e) ∙ sym (vote-own R s ws k e)

-- the vote at a live slot, with what its path has
pub path-vote : (R : Rule) (s : Settings) (ws : List ℤ) (k : ℕ) {members : List Bool} {left d : ℕ} → s.rack.m ≤ 3 → T (live s k) → members ≡ members_of s k → d ≡ level k → left ≡ rounds_left s d → member_vote R ws members left d k ≡ vote R s ws k
path-vote R s ws k few t e g f = rw (f, e, g) (go (ℕ_discrete s.p s.t))
  where
    go : Dec (s.p ≡ s.t) → member_vote R ws (members_of s k) (rounds_left s (level k)) (level k) k ≡ vote R s ws k
    go (yes own) = own-vote R s ws k (members_of s k) own
    go (no o) = handed_vote R s ws o few _ _ _ _ (down_path s k o t)

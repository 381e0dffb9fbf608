-- Laws of the vote, over any rule.
use Prim.Native.Nat.{ℕ, zero, suc, ◌-◌, ◌<◌}
use mathlib.Core.Path.{◌≡◌, refl, ap, ap₂, ◌∙◌}
use mathlib.Core.Bool.{not}
use mathlib.Core.List.{List, Memᴰ}
use mathlib.Core.Logic.{◌⊎◌}
use native.Mathlib.Omega.{arith}
use lib.Dec.{T, eqb, eqb_refl, T_not}
use lib.IntN.{ℤ, pos}
use lib.ListN.{set}
use lib.Seq.{get_or-set_other}
use Rattle.ground.specs.Lists.{at}
use Rattle.ground.proofs.Lists.{over-same, over-all}
use Rattle.words.specs.Word.{E, kind_of}
use Rattle.words.specs.Rule.{Rule, omh}
use Rattle.words.specs.declared.Kind.TheVariants.{Ordinary}
use Rattle.words.proofs.Counts.{majority-all}
use Rattle.words.proofs.Reading.{is_read, read_0}
use Rattle.words.proofs.Lawful.{Lawful, omh_lawful}
use Rattle.settings.specs.declared.Settings.{Settings}
use Rattle.paths.specs.Slots.{below, level, way, live}
use Rattle.ground.proofs.Bools.{or_right}
use Rattle.paths.proofs.Live.{live-level}
use Rattle.vote.specs.Vote.{last, reading, decided, vote_from, vote_in, vote}
use Rattle.ground.proofs.Bools.{cond-case, cond_same}
use Rattle.vote.proofs.Longer.{Longer, longer-level}
use Rattle.vote.proofs.Ways.{way-first, way_off}

module _ (R : Rule) (s : Settings) where
  -- a vote goes by the word at its slot and, except in the last round, the votes of the live paths one relay longer
  pub from_same : (ws us : List ℤ) (f g : ℕ → ℤ) (k : ℕ) → at ws k ≡ at us k → (T (not (last s k)) → Longer s k (λ j. f j ≡ g j)) → vote_from R s ws f k ≡ vote_from R s us g k
  unfolding vote_from
  from_same ws us f g k e h =
      let r : reading R ws k ≡ reading R us k = ap (R.read (level k)) e in
      cond_same (last s k) _ _ _ _ (λ t. r) (λ t. ap₂ (decided R) r (over-same (λ q. live s (below k q)) _ _ 10 0 (h t)))

  -- ---- the vote is document 01's two cases over the votes

  -- at a live path
  pub vote_is : (ws : List ℤ) (k : ℕ) → T (live s k) → vote R s ws k ≡ vote_from R s ws (vote R s ws) k
  unfolding vote vote_in
  vote_is ws k t = go (s.rack.m - level k) refl
    where
      go : (r : ℕ) → s.rack.m - level k ≡ r → vote_in R s ws r k ≡ vote_from R s ws (vote R s ws) k
      go zero e =
          let q : s.rack.m ≡ level k = omega (arith, live-level s k t) in
          from_same ws ws _ _ k refl (λ n. absurd (T_not (last s k) n (or_right (eqb s.p s.t) (eqb (level k) s.rack.m) (rw q (eqb_refl (level k))))))
      go (suc r) e =
          from_same ws ws _ _ k refl (λ n q a b u.
          let left : r ≡ s.rack.m - level (below k q) = omega (arith, longer-level s k q a b u) in
          ap (λ (r : ℕ). vote_in R s ws r (below k q)) left)

  -- ---- the same words at some paths, and at the live ones one relay longer than these, give the same votes there

  module _ (In : ℕ → Type 0) (down : (k : ℕ) → In k → Longer s k In) (ws us : List ℤ) (same : (k : ℕ) → In k → at ws k ≡ at us k) where
    in_same : (r k : ℕ) → In k → vote_in R s ws r k ≡ vote_in R s us r k
    unfolding vote_in
    in_same zero k i = from_same ws us _ _ k (same k i) (λ n q a b t. refl)
    in_same (suc r) k i = from_same ws us _ _ k (same k i) (λ n q a b t. in_same r (below k q) (down k i q a b t))

    vote-same : (k : ℕ) → In k → vote R s ws k ≡ vote R s us k
    unfolding vote
    vote-same k i = in_same (s.rack.m - level k) k i

  -- words at slots that are not live change no vote
  pub vote-live : (ws us : List ℤ) → ((k : ℕ) → T (live s k) → at ws k ≡ at us k) → (k : ℕ) → T (live s k) → vote R s ws k ≡ vote R s us k
  vote-live ws us same = vote-same (λ k. T (live s k)) (λ k i q a b t. t) ws us same

  -- a word changes no vote but those on the way from its slot up to slot 0
  pub vote_local : (ws : List ℤ) (k₀ : ℕ) (v : ℤ) → k₀ < 1111 → (k : ℕ) → (Memᴰ k (way k₀) → ⊥) → vote R s (set ws k₀ v) k ≡ vote R s ws k
  vote_local ws k₀ v h =
      vote-same (λ k. Memᴰ k (way k₀) → ⊥) (λ k off q a b t. way_off k₀ k q h (omega arith) off) (set ws k₀ v) ws
      (λ k off. get_or-set_other ws k₀ k v (pos 0) (λ e. off (rw e (way-first (level k₀) k₀))))

  module _ (L : Lawful R) (ws : List ℤ) where
    -- ---- a vote reads as itself at its level

    from_read : (f : ℕ → ℤ) (k : ℕ) → Longer s k (λ j. R.read (level j) (f j) ≡ f j) → R.read (level k) (vote_from R s ws f k) ≡ vote_from R s ws f k
    unfolding vote_from
    from_read f k h =
        let own = L.read_read (level k) (at ws k) in
        cond-case (λ x. R.read (level k) x ≡ x) (last s k) _ _ (λ t. own)
        (λ t. L.unwrap_reads (level k) _
        (majority-all (λ x. R.read (suc (level k)) x ≡ x) R.struck R.none _ (L.none_reads (suc (level k)))
        (L.wrap_reads (level k) _ own, over-all (λ q. live s (below k q)) _ _ 10 0 (λ q a b u. rw (longer-level s k q a b u) at (h q a b u)))))

    in_read : (r k : ℕ) → R.read (level k) (vote_in R s ws r k) ≡ vote_in R s ws r k
    unfolding vote_in
    in_read zero k = from_read _ k (λ q a b t. L.none_reads (level (below k q)))
    in_read (suc r) k = from_read _ k (λ q a b t. in_read r (below k q))

    -- at any slot
    pub vote-read : (k : ℕ) → R.read (level k) (vote R s ws k) ≡ vote R s ws k
    unfolding vote
    vote-read k = in_read (s.rack.m - level k) k

    -- ---- from no word comes the word for none

    module _ (missing : (k : ℕ) → T (live s k) → at ws k ≡ E) where
      from_none : (f : ℕ → ℤ) (k : ℕ) → T (live s k) → Longer s k (λ j. f j ≡ R.none) → vote_from R s ws f k ≡ R.none
      unfolding vote_from
      from_none f k i h =
          let own : reading R ws k ≡ R.none = ap (R.read (level k)) (missing k i) ∙ L.missing_reads (level k) in
          cond-case (λ x. x ≡ R.none) (last s k) _ _ (λ t. own)
          (λ t. majority-all (λ x. R.unwrap x ≡ R.none) R.struck R.none _ L.none_unwraps
          (rw own (L.undone 0 R.none (omega arith) (L.none_reads 0)), over-all (λ q. live s (below k q)) _ _ 10 0 (λ q a b u. rw (h q a b u) L.none_unwraps)))

      in_none : (r k : ℕ) → T (live s k) → vote_in R s ws r k ≡ R.none
      unfolding vote_in
      in_none zero k i = from_none _ k i (λ q a b t. refl)
      in_none (suc r) k i = from_none _ k i (λ q a b t. in_none r (below k q) t)

      -- at a live path
      pub vote-none : (k : ℕ) → T (live s k) → vote R s ws k ≡ R.none
      unfolding vote
      vote-none k i = in_none (s.rack.m - level k) k i

-- the answer is ordinary or E
pub answer_kind : (s : Settings) (ws : List ℤ) → (kind_of (vote omh s ws 0) ≡ Ordinary) ⊎ (vote omh s ws 0 ≡ E)
unfolding level
answer_kind s ws = read_0 _ (is_read 0 _ (vote-read omh s omh_lawful ws 0))

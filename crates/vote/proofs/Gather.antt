-- Laws of the reports of a vote, as the list holds them and as a loop over the cards gathers them, and of the vote's two cases.
use Prim.Native.Nat.{ℕ, zero, suc, ◌+◌, ◌-◌, ◌≤◌, ◌<◌}
use mathlib.Core.Path.{◌≡◌, refl, sym, ap, ap₂, ◌∙◌}
use mathlib.Core.Bool.{Bool, true, false, cond}
use mathlib.Core.List.{List, [], ◌∷◌, ◌++◌, append-nil}
use native.Mathlib.Numerals.{add-one, sub-one}
use native.Mathlib.Omega.{arith}
use lib.IntN.{ℤ}
use lib.ListN.{length, set, take, length-append}
use lib.Seq.{take-suc-set, take-set-le, length-take-le}
use Rattle.std.proofs.lemmas.List.{take_all}
use Rattle.words.specs.Majority.{kept}
use Rattle.words.specs.Rule.{Rule, majority_by}
use Rattle.words.specs.Counted.{majority_of}
use Rattle.words.proofs.Search.{kept_append, found_left}
use Rattle.ground.specs.Lists.{at, over}
use Rattle.ground.proofs.Lists.{over_snoc}
use Rattle.vote.specs.Vote.{decided}
use Rattle.vote.specs.Members.{member_vote, members_votes}
use Rattle.vote.specs.Reports.{most_reports}

-- ---- the reports as the list holds them

module _ (s : ℤ → Bool) where
  pub own_alone : (x : ℤ) (xs : List ℤ) {n : ℕ} → n ≡ cond (s x) 0 1 → take n (x ∷ xs) ≡ kept s (x ∷ [])
  unfolding kept
  own_alone x xs e = rw e (go (s x))
    where
      go : (b : Bool) → take (cond b 0 1) (x ∷ xs) ≡ cond b [] (x ∷ [])
      go true = refl
      go false = refl

  -- where there is room for one more
  pub one_more : (l : List ℤ) (n : ℕ) (v : ℤ) {w : ℕ} → n < most_reports → length l ≡ most_reports → w ≡ cond (s v) 0 1 → take (n + w) (set l n v) ≡ take most_reports (take n l ++ kept s (v ∷ []))
  unfolding kept
  one_more l n v h long e = rw e (go (s v))
    where
      few : length (take n l) ≡ n
      few = length-take-le n l (omega arith)

      go : (b : Bool) → take (n + cond b 0 1) (set l n v) ≡ take most_reports (take n l ++ cond b [] (v ∷ []))
      go true =
          let none : n + 0 ≡ n = omega arith in
          rw (none, append-nil, take_all most_reports (take n l) (omega (arith, few))) (take-set-le n l n v (omega arith))
      go false =
          rw (add-one, take-suc-set l n v (omega arith)) (sym (take_all most_reports _ (omega (arith, few, length-append (take n l) (v ∷ [])))))

  -- what is left is no longer
  kept_few : (l : List ℤ) → length (kept s l) ≤ length l
  unfolding kept
  kept_few [] = omega arith
  kept_few (x ∷ xs) = go (s x) (kept_few xs)
    where
      go : (b : Bool) → length (kept s xs) ≤ length xs → length (cond b (kept s xs) (x ∷ kept s xs)) ≤ suc (length xs)
      go true h = omega arith
      go false h = omega arith

-- ---- as a loop over the cards gathers them

-- no more than the cards
over_few : (p : ℕ → Bool) (f : ℕ → ℤ) (c q : ℕ) → length (over p f c q) ≤ c
unfolding over
over_few p f zero q = omega arith
over_few p f (suc c) q = go (p q) (over_few p f c (suc q))
  where
    go : (b : Bool) → length (over p f c (suc q)) ≤ c → length (cond b (f q ∷ over p f c (suc q)) (over p f c (suc q))) ≤ suc c
    go true h = omega arith
    go false h = omega arith

-- the own report and those of the cards before q that pass, the struck ones left out
pub record Gathered (R : Rule) (p : ℕ → Bool) (f : ℕ → ℤ) (own : ℤ) (q : ℕ) (reports : List ℤ) : Type 0 where
  pub so_far : reports ≡ kept R.struck (R.wrap own ∷ over p f q 0)

-- the own report alone
pub gather_none : (R : Rule) (p : ℕ → Bool) (f : ℕ → ℤ) (own : ℤ) {reports : List ℤ} → reports ≡ kept R.struck (R.wrap own ∷ []) → Gathered R p f own 0 reports
unfolding over
gather_none R p f own e = record { so_far = e }

module _ {R : Rule} {p : ℕ → Bool} {f : ℕ → ℤ} {own : ℤ} {q : ℕ} {reports : List ℤ} (g : Gathered R p f own q reports) where
  -- with one card more
  with_next : kept R.struck (R.wrap own ∷ over p f (q + 1) 0) ≡ reports ++ kept R.struck (cond (p q) (f q ∷ []) [])
  with_next = ap (λ (l : List ℤ). kept R.struck (R.wrap own ∷ l)) more ∙ kept_append R.struck (R.wrap own ∷ over p f q 0) _ ∙ rw g.so_far
    where
      more : over p f (q + 1) 0 ≡ over p f q 0 ++ cond (p q) (f q ∷ []) []
      more = rw add-one (over_snoc p f q 0 ∙ ap (λ (x : ℕ). over p f q 0 ++ cond (p x) (f x ∷ []) []) (omega arith))

  pub gather_more : q < 10 → p q ≡ true → {reports' : List ℤ} {v : ℤ} → v ≡ f q → reports' ≡ take most_reports (reports ++ kept R.struck (v ∷ [])) → Gathered R p f own (q + 1) reports'
  gather_more h t e a =
      let all : kept R.struck (R.wrap own ∷ over p f (q + 1) 0) ≡ reports ++ kept R.struck (f q ∷ []) = rw t at with_next in
      record { so_far = a ∙ rw (e, ← all) (take_all most_reports _ (omega (arith, kept_few R.struck (R.wrap own ∷ over p f (q + 1) 0), over_few p f (q + 1) 0))) }

  pub gather_same : p q ≡ false → {reports' : List ℤ} → reports' ≡ reports → Gathered R p f own (q + 1) reports'
  unfolding kept
  gather_same t a = record { so_far = a ∙ sym (append-nil reports) ∙ sym (rw t at with_next) }

  -- what the reports of all ten cards decide
  pub gather_decides : q ≤ 10 → 10 ≤ q → {reading r : ℤ} → own ≡ reading → r ≡ R.unwrap (majority_of R.struck R.none (length reports) reports) → r ≡ decided R reading (over p f 10 0)
  gather_decides upto all same e =
      let ten : q ≡ 10 = omega arith in
      e
      ∙ ap R.unwrap
      (rw g.so_far (found_left R.struck R.none (R.wrap own ∷ over p f q 0))
      ∙ ap₂ (λ (own : ℤ) (c : ℕ). majority_by R (R.wrap own ∷ over p f c 0)) same ten)

-- ---- the vote's two cases

module _ (R : Rule) (words : List ℤ) (members : List Bool) (r d k : ℕ) where
  pub vote-last : r ≡ 0 → member_vote R words members r d k ≡ R.read d (at words k)
  unfolding member_vote
  vote-last e = rw e

  pub vote_more : (r ≡ 0 → ⊥) → member_vote R words members r d k ≡ decided R (R.read d (at words k)) (members_votes R words members (r - 1) d k 10)
  vote_more n = go r n
    where
      go : (r : ℕ) → (r ≡ 0 → ⊥) → member_vote R words members r d k ≡ decided R (R.read d (at words k)) (members_votes R words members (r - 1) d k 10)
      go zero n = absurd (n refl)
      go (suc r) n = unfold member_vote in (rw sub-one)

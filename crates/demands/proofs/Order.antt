-- Demand 1, the laws: a verdict is the number of the first check that applies.
use Prim.Native.Nat.{ℕ, zero, suc}
use mathlib.Core.Path.{◌≡◌, refl, sym, ap, ◌∙◌}
use mathlib.Core.Bool.{Bool, true, false, cond}
use mathlib.Core.List.{List, [], ◌∷◌, ◌++◌}
use native.Mathlib.Omega.{arith}
use lib.IntN.{ℤ}
use Rattle.ground.specs.Checks.{Check, check, verdict, NoneOf}
use Rattle.ground.specs.Answer.{Answer, refused, answer, Outcome, outcome, after, outcome_by}
use Rattle.ground.proofs.Answers.{refused-verdict, refused-leaves}
use Rattle.book.specs.Book.{Book, halves}
use Rattle.book.proofs.Halves.{halves_apart}
use Rattle.omh.specs.Numbers.{number_of, numbered, placed_as}
use Rattle.demands.specs.Refusing.{First, Refuses, Numbers, Judged, Counted}

-- ---- the order of checks

-- a verdict says that the check of that number applies, and no earlier one does
verdict-first : (cs : List Check) (k : ℕ) → verdict cs ≡ suc k → First cs (suc k)
unfolding verdict
verdict-first [] k e = absurd (omega arith)
verdict-first (c ∷ cs) k e = go c.applies refl e (verdict-first cs k)
  where
    same : c.applies ≡ true → c.number ≡ suc k → c ≡ check (suc k) true
    same a n = λ i. record { number = n i; applies = a i }

    go : (b : Bool) → c.applies ≡ b → cond b c.number (verdict cs) ≡ suc k → (verdict cs ≡ suc k → First cs (suc k)) → First (c ∷ cs) (suc k)
    go true a n ih = record { before = []; rest = cs; split = ap (λ (d : Check). d ∷ cs) (same a n); earlier = tt }
    go false a n ih =
        let f = ih n in
        record { before = c ∷ f.before; rest = f.rest; split = ap (λ (l : List Check). c ∷ l) f.split; earlier = (a, f.earlier) }

-- and the first that applies gives the verdict
passing : (ds cs : List Check) → NoneOf ds → verdict (ds ++ cs) ≡ verdict cs
unfolding verdict
passing [] cs n = refl
passing (d ∷ ds) cs n = rw n.0 (passing ds cs n.1)

pub first-verdict : (cs : List Check) (k : ℕ) → First cs k → verdict cs ≡ k
unfolding verdict
first-verdict cs k f = ap verdict f.split ∙ passing f.before (check k true ∷ f.rest) f.earlier

-- ---- a call by its verdict

module _ (cs : List Check) where
  -- a verdict that is k, and not 0
  pub first_of : (k : ℕ) → verdict cs ≡ k → (k ≡ 0 → ⊥) → First cs k
  first_of zero e n = absurd (n refl)
  first_of (suc k) e n = verdict-first cs k e

  module _ {A L : Type 0} (a : A) (before made : L) {y : Answer A} {l : L} (e : y ≡ answer (verdict cs) a) (f : l ≡ after (verdict cs) before made) where
    told : (k : ℕ) → y ≡ refused k → (verdict cs ≡ k) × (verdict cs ≡ 0 → ⊥)
    told k q = refused-verdict a (verdict cs) (sym e ∙ q)

    refuses : Refuses cs y before l
    unfolding answer
    refuses = record {
      only = λ k q. let t = told k q in first_of k t.0 (λ z. t.1 (t.0 ∙ z));
      always = λ k q. e ∙ rw (first-verdict cs (suc k) q);
      unchanged = λ k q. f ∙ refused-leaves (verdict cs) before made (told k q).1;
    }

  -- an answer
  pub by_answer : {A : Type 0} (a : A) {y : Answer A} → y ≡ answer (verdict cs) a → Judged cs y
  by_answer a e = refuses a (tt {0}) (tt {0}) e refl

  -- an outcome
  pub by_outcome : {L : Type 0} (made : L) {before l : L} {y : Answer (Unit {0})} → outcome y l ≡ outcome_by (verdict cs) before made → Refuses cs y before l
  unfolding outcome_by
  by_outcome {L} made {before} e = refuses tt before made (ap (λ (o : Outcome (Answer (Unit {0})) L). o.yields) e) (ap (λ (o : Outcome (Answer (Unit {0})) L). o.leaves) e)

  -- an outcome of a book in one list
  pub by_part : (made : Book) {before l : List ℤ} {y : Answer (Unit {0})} → outcome y (halves l) ≡ outcome_by (verdict cs) (halves before) made → Refuses cs y before l
  by_part made {before} {l} e =
      let r = by_outcome made e in
      record { only = r.only; always = r.always; unchanged = λ k q. halves_apart l before (r.unchanged k q) }

  -- ---- a number

  counts : {L : Type 0} {before l : L} {k : ℕ} → k ≡ verdict cs → ((verdict cs ≡ 0 → ⊥) → l ≡ before) → Numbers cs k before l
  counts {k = k} e f = record {
    only = λ n. first_of k (sym e) n;
    always = λ j q. e ∙ first-verdict cs (suc j) q;
    unchanged = λ n. f (λ z. n (e ∙ z));
  }

  number_is : {A : Type 0} (a : A) (v : ℕ) → number_of (answer v a) ≡ v
  unfolding answer
  number_is a zero = refl
  number_is a (suc v) = refl

  -- a verdict's own
  pub by_verdict : {k : ℕ} → k ≡ verdict cs → Counted cs k
  by_verdict e = counts e (λ n. refl)

  -- a number, and what is handed in and yielded beside it
  pub by_state : {L : Type 0} (made : L) {before l : L} {k : ℕ} → outcome k l ≡ outcome (verdict cs) (after (verdict cs) before made) → Numbers cs k before l
  by_state {L} made {before} e =
      counts (ap (λ (o : Outcome ℕ L). o.yields) e) (λ n. ap (λ (o : Outcome ℕ L). o.leaves) e ∙ refused-leaves (verdict cs) before made n)

  -- a call's number, and what it leaves
  pub by_number : {L : Type 0} (made : L) {before l : L} {k : ℕ} → outcome k l ≡ numbered (outcome_by (verdict cs) before made) → Numbers cs k before l
  unfolding outcome_by
  by_number made {before} e = by_state made (e ∙ ap (λ (k : ℕ). outcome k (after (verdict cs) before made)) (number_is tt (verdict cs)))

  -- an answer's number, and its place
  pub by_place : {A B : Type 0} (a : A) (form : A → B) (before : B) {l : B} {k : ℕ} → outcome k l ≡ placed_as form (answer (verdict cs) a) before → Numbers cs k before l
  by_place {A} {B} a form before e =
      counts (ap (λ (o : Outcome ℕ B). o.yields) e ∙ number (verdict cs)) (λ n. ap (λ (o : Outcome ℕ B). o.leaves) e ∙ kept (verdict cs) n)
    where
      number : (v : ℕ) → (placed_as form (answer v a) before).yields ≡ v
      number zero = unfold answer in refl
      number (suc v) = unfold answer in refl

      kept : (v : ℕ) → (v ≡ 0 → ⊥) → (placed_as form (answer v a) before).leaves ≡ before
      kept zero n = absurd (n refl)
      kept (suc v) n = unfold answer in refl

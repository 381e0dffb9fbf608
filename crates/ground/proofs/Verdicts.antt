-- Laws of checks in order.
use Prim.Native.Nat.{ℕ, zero, suc}
use mathlib.Core.Path.{◌≡◌, refl, sym, ap, ap₂, ◌∙◌}
use mathlib.Core.Bool.{Bool, true, false, cond, not, ◌&&◌}
use mathlib.Core.List.{List, [], ◌∷◌, ◌++◌}
use native.Mathlib.Omega.{arith}
use lib.Dec.{T, ltb, ltb→lt}
use Rattle.ground.specs.Checks.{Check, check, verdict, NoneOf, next}
use Rattle.ground.proofs.Bools.{and_left, and_right}

-- no check's number is 0
abbrev pub proper : List Check → Bool
proper [] = true
proper (c ∷ cs) = ltb 0 c.number && proper cs

-- ---- none applies

pub none-verdict : (cs : List Check) → NoneOf cs → verdict cs ≡ 0
unfolding verdict
none-verdict [] n = refl
none-verdict (c ∷ cs) n = rw n.0 (none-verdict cs n.1)

pub no_verdict : (cs : List Check) → T (proper cs) → verdict cs ≡ 0 → NoneOf cs
unfolding verdict
no_verdict [] p e = tt
no_verdict (c ∷ cs) p e = go c.applies refl e (no_verdict cs (and_right (ltb 0 c.number) _ p))
  where
    go : (b : Bool) → c.applies ≡ b → cond b c.number (verdict cs) ≡ 0 → (verdict cs ≡ 0 → NoneOf cs) → (c.applies ≡ false) × NoneOf cs
    go true q e ih = absurd (omega (arith, ltb→lt 0 c.number (and_left (ltb 0 c.number) _ p), e))
    go false q e ih = (q, ih e)

-- ---- one list of checks after another

-- a number that is not 0 stays
pub stays : (k v : ℕ) → (k ≡ 0 → ⊥) → k ≡ next k v
unfolding next
stays zero v n = absurd (n refl)
stays (suc k) v n = refl

pub verdict-append : (cs ds : List Check) → T (proper cs) → verdict (cs ++ ds) ≡ next (verdict cs) (verdict ds)
unfolding verdict next
verdict-append [] ds p = refl
verdict-append (c ∷ cs) ds p = go c.applies (verdict-append cs ds (and_right (ltb 0 c.number) _ p))
  where
    go : (b : Bool) → verdict (cs ++ ds) ≡ next (verdict cs) (verdict ds) → cond b c.number (verdict (cs ++ ds)) ≡ next (cond b c.number (verdict cs)) (verdict ds)
    go true ih = stays c.number (verdict ds) (λ z. omega (arith, ltb→lt 0 c.number (and_left (ltb 0 c.number) _ p), z))
    go false ih = ih

-- a number by one check, and by a test that is the same
pub alone : (k : ℕ) {no : ℕ} {a b : Bool} → no ≡ verdict (check k a ∷ []) → a ≡ b → no ≡ verdict (check k b ∷ [])
alone k e f = e ∙ ap (λ (b : Bool). verdict (check k b ∷ [])) f

module _ (cs ds : List Check) (p : T (proper cs)) where
  -- the first refusal of two is the verdict on both lists
  pub joined : {no other r : ℕ} → r ≡ next no other → no ≡ verdict cs → other ≡ verdict ds → r ≡ verdict (cs ++ ds)
  joined e f g = e ∙ ap₂ next f g ∙ sym (verdict-append cs ds p)

  -- none on the first list: the second decides
  pub rest_decides : verdict cs ≡ 0 → verdict (cs ++ ds) ≡ verdict ds
  unfolding next
  rest_decides e = verdict-append cs ds p ∙ rw e

  -- none on the second list: the first decides
  pub first_decides : verdict ds ≡ 0 → verdict (cs ++ ds) ≡ verdict cs
  unfolding next
  first_decides e = verdict-append cs ds p ∙ rw e (go (verdict cs))
    where
      go : (v : ℕ) → next v 0 ≡ v
      go zero = refl
      go (suc v) = refl

  -- a verdict on the first list is one on both
  pub still_refused : {no : ℕ} → no ≡ verdict cs → (no ≡ 0 → ⊥) → no ≡ verdict (cs ++ ds)
  still_refused {no} e n = stays no (verdict ds) n ∙ ap (λ (v : ℕ). next v (verdict ds)) e ∙ sym (verdict-append cs ds p)

  -- none on both: none on either
  pub no_verdicts : verdict (cs ++ ds) ≡ 0 → (verdict cs ≡ 0) × (verdict ds ≡ 0)
  unfolding next
  no_verdicts e = go (verdict cs) refl (sym (verdict-append cs ds p) ∙ e)
    where
      go : (v : ℕ) → verdict cs ≡ v → next (verdict cs) (verdict ds) ≡ 0 → (verdict cs ≡ 0) × (verdict ds ≡ 0)
      go zero q h = (q, rw q at h)
      go (suc v) q h = let z : suc v ≡ 0 = rw q at h in absurd (omega arith)

-- a check after others, by a test that is the same: it decides where none of them applies
pub last_decides : (cs : List Check) → T (proper cs) → (k : ℕ) (b : Bool) {no : ℕ} {r fit : Bool} → no ≡ verdict cs → no ≡ 0 → r ≡ fit → not r ≡ b → cond b k 0 ≡ verdict (cs ++ check k (not fit) ∷ [])
unfolding verdict
last_decides cs p k b e z f t = ap (λ (b : Bool). cond b k 0) (sym t ∙ ap not f) ∙ sym (rest_decides cs _ p (sym e ∙ z))

-- two lists with the same verdict are as good before a third
pub same_first : (cs ds es : List Check) → T (proper cs) → T (proper ds) → verdict cs ≡ verdict ds → verdict (cs ++ es) ≡ verdict (ds ++ es)
same_first cs ds es p q e = verdict-append cs es p ∙ ap (λ (v : ℕ). next v (verdict es)) e ∙ sym (verdict-append ds es q)

-- a check that does not apply may as well not be there
pub skipped : (k : ℕ) (cs ds : List Check) → verdict (cs ++ check k false ∷ ds) ≡ verdict (cs ++ ds)
unfolding verdict
skipped k [] ds = refl
skipped k (c ∷ cs) ds = ap (cond c.applies c.number) (skipped k cs ds)

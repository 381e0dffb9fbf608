-- Laws of a list of equal parts: one part replaced leaves the others as they were.
use Prim.Native.Nat.{ℕ, ◌+◌, ◌-◌, ◌*◌, ◌≤◌, ◌<◌}
use mathlib.Core.Path.{◌≡◌, refl, sym, ap, ap₂, ◌∙◌}
use mathlib.Core.Logic.{◌≢◌}
use mathlib.Core.Bool.{Bool, true, false}
use mathlib.Core.List.{List, ◌++◌}
use native.Mathlib.Omega.{arith}
use native.Mathlib.Nat.{mul-le-mul_left, mul-suc}
use lib.Dec.{ltb}
use lib.ListN.{length, take, drop, length-append, length-drop, take-append-drop}
use lib.Seq.{length-take-le, take_at, drop_at, take-append-le, drop-append-le, drop-append-add, drop-drop}
use borrow.Author.Tests.{ltb-true, ltb-false}
use Rattle.ground.specs.Lists.{part, with_part}

-- the parts before number t end where it begins
pub part-before : (w u t : ℕ) → u < t → w * u + w ≤ w * t
part-before w u t h = omega (arith, mul-le-mul_left w h, mul-suc w u)

module _ {A : Type 0} (w : ℕ) where
  -- what stands w places on from b in a list is not what follows from a on
  front : (a b : ℕ) (l rest : List A) → a ≤ length l → b + w ≤ a → take w (drop b (take a l ++ rest)) ≡ take w (drop b (take a l))
  front a b l rest h g =
      let long : length (take a l) ≡ a = length-take-le a l h in
      ap (take w) (drop-append-le b (take a l) rest (omega arith)) ∙ take-append-le w (drop b (take a l)) rest (omega (arith, length-drop b (take a l)))

  -- a part replaced by itself leaves the list as it was
  pub part-kept : (t : ℕ) (l : List A) → with_part w t l (part w t l) ≡ l
  unfolding part with_part
  part-kept t l = ap (λ (r : List A). take (w * t) l ++ r) (take-append-drop w (drop (w * t) l)) ∙ take-append-drop (w * t) l

  -- ---- part number t lent on, as the w places from its start on, and back with other content

  module _ (t : ℕ) (l : List A) {from : ℕ} (e : from ≡ w * t) where
    long : from + w - from ≡ w
    long = omega arith

    pub part_lent : take (from + w - from) (drop from l) ≡ part w t l
    unfolding part
    part_lent = ap₂ (λ (n i : ℕ). take n (drop i l)) long e

    pub part_back : (new : List A) → take from l ++ (new ++ drop (from + w - from) (drop from l)) ≡ with_part w t l new
    unfolding with_part
    part_back new = ap₂ (λ (n i : ℕ). take i l ++ (new ++ drop n (drop i l))) long e

  module _ (t : ℕ) (l : List A) (fits : w * t + w ≤ length l) where
    before : length (take (w * t) l) ≡ w * t
    before = length-take-le (w * t) l (omega arith)

    pub part-long : length (part w t l) ≡ w
    unfolding part
    part-long = length-take-le w (drop (w * t) l) (omega (arith, length-drop (w * t) l))

    module _ (new : List A) (long : length new ≡ w) where
      pub length_with : length (with_part w t l new) ≡ length l
      unfolding with_part
      length_with =
          length-append (take (w * t) l) (new ++ drop w (drop (w * t) l))
          ∙ omega (arith, before, long, length-append new (drop w (drop (w * t) l)), length-drop w (drop (w * t) l), length-drop (w * t) l)

      -- the part is the new one,
      pub part_same : part w t (with_part w t l new) ≡ new
      unfolding part with_part
      part_same = ap (take w) (drop_at (take (w * t) l) (new ++ drop w (drop (w * t) l)) (w * t) before) ∙ take_at new _ w long

      -- and the others are as they were
      pub part-other : (u : ℕ) → u ≢ t → part w u (with_part w t l new) ≡ part w u l
      unfolding part with_part
      part-other u o = go (ltb u t) refl
        where
          go : (b : Bool) → ltb u t ≡ b → take w (drop (w * u) (take (w * t) l ++ (new ++ drop w (drop (w * t) l)))) ≡ take w (drop (w * u) l)
          go true e =
              let h = part-before w u t (ltb-true u t e) in
              front (w * t) (w * u) l _ (omega arith) h
              ∙ sym (front (w * t) (w * u) l (drop (w * t) l) (omega arith) h)
              ∙ ap (λ (r : List A). take w (drop (w * u) r)) (take-append-drop (w * t) l)
          go false e =
              let h = part-before w t u (omega (arith, ltb-false u t e, o)) in
              ap (take w)
              (ap (λ (i : ℕ). drop i (take (w * t) l ++ (new ++ drop w (drop (w * t) l)))) (later h)
              ∙ drop-append-add (take (w * t) l) _ _
              ∙ drop-append-add new _ _
              ∙ drop-drop _ w (drop (w * t) l)
              ∙ drop-drop _ (w * t) l
              ∙ ap (λ (i : ℕ). drop i l) (sym (later₂ h)))
            where
              later : w * t + w ≤ w * u → w * u ≡ length (take (w * t) l) + (length new + (w * u - (w * t + w)))
              later h = omega (arith, before, long)

              later₂ : w * t + w ≤ w * u → w * u ≡ w * t + (w + (w * u - (w * t + w)))
              later₂ h = omega arith

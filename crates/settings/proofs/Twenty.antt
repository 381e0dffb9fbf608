-- Which of the ten cards fit, from a list of twenty.
use Prim.Native.Nat.{ℕ, zero, suc, ◌+◌, ◌-◌, ◌<◌, ◌≤◌}
use mathlib.Core.Path.{◌≡◌, refl, sym, ap, ◌∙◌}
use mathlib.Core.Bool.{Bool, true, false}
use mathlib.Core.List.{List, [], ◌∷◌}
use native.Mathlib.Omega.{arith}
use native.Mathlib.Decide.{ℕ_discrete}
use lib.Dec.{ltb}
use lib.ListN.{get_or}
use borrow.Author.Tests.{lt-ltb, le-ltb, ltb-true, ltb-false}
use Rattle.std.specs.Array.{IsFromFnResultFrom}
use denote.Param.Members.{Mut, Called}
use Rattle.ground.specs.Lists.{table}
use Rattle.ground.proofs.Lists.{at_table}
use Rattle.settings.specs.Settings.{fits}
use Rattle.settings.specs.declared.Rack.{Rack}

-- ten that fit and ten that do not: from place 10 - n on, whether each of the cards fits
abbrev pub ten : List Bool
ten = true ∷ true ∷ true ∷ true ∷ true ∷ true ∷ true ∷ true ∷ true ∷ true ∷ false ∷ false ∷ false ∷ false ∷ false ∷ false ∷ false ∷ false ∷ false ∷ false ∷ []

pub fitted_at : (rack : Rack) (q from : ℕ) → from ≡ 10 - rack.n → q < 10 → get_or ten (from + q) false ≡ fits rack q
unfolding fits
fitted_at rack q from e h = (ap (λ (l : List Bool). get_or l (from + q) false) all ∙ at_table 20 0 (λ i. ltb i 10) (from + q) false (omega arith)) ∙ go (ltb q rack.n) refl
  where
    all : ten ≡ table 20 0 (λ i. ltb i 10)
    all = unfold table in refl

    go : (b : Bool) → ltb q rack.n ≡ b → ltb (0 + (from + q)) 10 ≡ ltb q rack.n
    go true t = lt-ltb (0 + (from + q)) 10 (omega (arith, ltb-true q rack.n t)) ∙ sym t
    go false t = le-ltb (0 + (from + q)) 10 (omega (arith, ltb-false q rack.n t)) ∙ sym t

-- what calls at the numbers from i on gave, where each leaves P and gives h of its number
module _ {F B : Type 0} (g : Mut F (ℕ × Unit {0}) B) (h : ℕ → B) (P : F → Type 0) (turn : (p q : F) (i : ℕ) (y : B) → P p → Called g p (i, tt) y q → (y ≡ h i) × P q) where
  pub made_at : (n i : ℕ) (f : F) (ys : List B) (d : B) → P f → IsFromFnResultFrom g f ys i n → (k : ℕ) → i ≤ k → k < i + n → get_or ys k d ≡ h k
  made_at zero i f ys d s e k a b = absurd (omega arith)
  made_at (suc n) i f ys d s (q, y, el, call, rest) k a b = let t = turn f q i y s call in go (ℕ_discrete k i) (λ z. made_at n (i + 1) q ys d t.1 rest k z (omega arith))
    where
      go : Dec (k ≡ i) → (i + 1 ≤ k → get_or ys k d ≡ h k) → get_or ys k d ≡ h k
      go (yes z) ih = rw z (el.1 d ∙ (turn f q i y s call).0)
      go (no z) ih = ih (omega arith)

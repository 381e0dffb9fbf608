-- Laws of the way from a slot up to slot 0.
use Prim.Native.Nat.{ℕ, zero, suc, ◌<◌}
use mathlib.Core.Path.{◌≡◌, refl, sym, ap}
use mathlib.Core.List.Memᴰ
use mathlib.Core.List.{Memᴰ}
use mathlib.Core.Logic.{◌⊎◌, inl, inr}
use native.Mathlib.Omega.{arith}
use Rattle.paths.specs.Slots.{below, above, level, way_by, way}
use Rattle.paths.proofs.Levels.{level_zero, level-above, above-below}

-- the way begins with its slot
pub way-first : (d k : ℕ) → Memᴰ k (way_by d k)
unfolding way_by
way-first zero k = Memᴰ.head refl
way-first (suc d) k = Memᴰ.head refl

-- with a slot over 0 the slot above it is on the way
way_above : (d k s : ℕ) → k < 1111 → level k ≡ d → 0 < s → Memᴰ s (way_by d k) → Memᴰ (above s) (way_by d k)
unfolding way_by
way_above zero k s h e p m = let z : s ≡ k = Memᴰ.eq_of_singleton m in let o : k ≡ 0 = level_zero k h e in absurd (omega arith)
way_above (suc d) k s h e p m = Memᴰ.tail (go (Memᴰ.cases_cons m) (way_above d (above k) s (omega arith) (level-above k d h e) p))
  where
    go : (s ≡ k) ⊎ Memᴰ s (way_by d (above k)) → (Memᴰ s (way_by d (above k)) → Memᴰ (above s) (way_by d (above k))) → Memᴰ (above s) (way_by d (above k))
    go (inl q) f = Memᴰ.cast (ap above q) (way-first d (above k))
    go (inr n) f = f n

-- no path longer than a path off the way is on it
pub way_off : (k₀ k q : ℕ) → k₀ < 1111 → q < 10 → (Memᴰ k (way k₀) → ⊥) → Memᴰ (below k q) (way k₀) → ⊥
way_off k₀ k q h g off m = off (Memᴰ.cast (sym (above-below k q g)) (way_above (level k₀) k₀ (below k q) h refl (omega arith) m))

-- The live paths one relay longer.
use Prim.Native.Nat.{ℕ, suc, ◌<◌}
use mathlib.Core.Path.{◌≡◌}
use native.Mathlib.Omega.{arith}
use Rattle.ground.proofs.Lists.{Each}
use Rattle.settings.specs.declared.Settings.{Settings}
use Rattle.paths.specs.Slots.{below, level, live}
use Rattle.paths.proofs.Levels.{level-below}
use Rattle.paths.proofs.Live.{live-slot}

-- P holds at every live path one relay longer than the path at k
abbrev pub Longer : Settings → ℕ → (ℕ → Type 0) → Type 0
Longer s k P = Each (λ q. live s (below k q)) 10 0 (λ q. P (below k q))

-- its level is one more
pub longer-level : (s : Settings) (k : ℕ) → Longer s k (λ j. level j ≡ suc (level k))
longer-level s k q a b t = let l : below k q < 1111 = live-slot s (below k q) t in level-below k q (omega arith) (omega arith)

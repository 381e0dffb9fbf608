-- What the tests of the bound say.
use Prim.Native.Nat.{ℕ, ◌+◌, ◌*◌, ◌≤◌, ◌<◌}
use mathlib.Core.Path.{◌≡◌}
use mathlib.Core.Logic.{◌↔◌}
use mathlib.Core.Bool.{true, and-eq-true_iff}
use lib.Dec.{leb}
use borrow.Author.Tests.{ltb-true, lt-ltb, leb-true, le-leb}
use Rattle.settings.specs.Settings.{cards}
use Rattle.settings.specs.declared.Rack.{Rack}
use Rattle.exchange.specs.declared.Status.{Status}
use Rattle.bound.specs.Bound.{arbitraries, symmetrics, manifests, enough, bounded}

-- n > 2a + 2s + c + m
abbrev pub Enough : Rack → (ℕ → Status) → Type 0
Enough rack status = 2 * arbitraries rack status + 2 * symmetrics rack status + manifests rack status + rack.m < cards rack

module _ (rack : Rack) (status : ℕ → Status) where
  pub enough_says : (enough rack status ≡ true) ↔ Enough rack status
  unfolding enough
  enough_says = (ltb-true _ (cards rack), lt-ltb _ (cards rack))

  -- and a is at most m
  pub bounded_says : (bounded rack status ≡ true) ↔ (Enough rack status × (arbitraries rack status ≤ rack.m))
  unfolding bounded
  bounded_says =
      let both = and-eq-true_iff (enough rack status) (leb (arbitraries rack status) rack.m) in
      (λ e. (enough_says.0 (both.0 e).0, leb-true _ rack.m (both.0 e).1), λ h. both.1 (enough_says.1 h.0, le-leb _ rack.m h.1))

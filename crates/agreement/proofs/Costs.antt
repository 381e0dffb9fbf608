-- What all cards of the rack cost, and the bound by it.
use Prim.Native.Nat.{ℕ, zero, suc, ◌+◌, ◌*◌, ◌<◌}
use mathlib.Core.Path.{◌≡◌}
use mathlib.Core.Bool.{Bool, true, false, cond, ◌&&◌}
use native.Mathlib.Nat.{mul-suc}
use native.Mathlib.Omega.{arith}
use Rattle.ground.specs.Lists.{count}
use Rattle.words.specs.Majority.{same}
use Rattle.words.specs.Rule.{Rule, omh}
use Rattle.settings.specs.Settings.{cards, fits}
use Rattle.exchange.specs.declared.Status.{Status}
use Rattle.exchange.specs.declared.Status.TheVariants.{Good, Arbitrary, Symmetric, Manifest}
use Rattle.exchange.specs.Exchange.{Exchange}
use Rattle.bound.specs.Bound.{is_arbitrary, is_symmetric, is_manifest, arbitraries, symmetrics, manifests}
use Rattle.bound.proofs.Says.{Enough}
use Rattle.agreement.proofs.Sums.{sum, total}
use Rattle.agreement.proofs.Elected.{price, cost}

-- how many of the c cards from q on are of the rack and have a status of this kind
abbrev having : Exchange → (Status → Bool) → ℕ → ℕ → ℕ
having X is c q = count (λ x. fits X.rack x && is (X.status x)) c q

cost_by : (R : Rule) (X : Exchange) (c q : ℕ) → sum (fits X.rack) (λ x. cost R (X.status x)) c q ≡ 2 * having X is_arbitrary c q + 2 * having X is_symmetric c q + price R * having X is_manifest c q
unfolding sum count
cost_by R X zero q = omega arith
cost_by R X (suc c) q = go (fits X.rack q) (X.status q) _ _ _ _ (cost_by R X c (suc q))
  where
    go : (f : Bool) (s : Status) (l a b d : ℕ) → l ≡ 2 * a + 2 * b + price R * d → cond f (cost R s) 0 + l ≡ 2 * cond (f && is_arbitrary s) (suc a) a + 2 * cond (f && is_symmetric s) (suc b) b + price R * cond (f && is_manifest s) (suc d) d
    go true Good l a b d e = omega arith
    go true Arbitrary l a b d e = omega arith
    go true Symmetric l a b d e = omega arith
    go true Manifest l a b d e = rw (mul-suc (price R) d) (omega arith)
    go false s l a b d e = omega arith

-- 2a + 2s + price c
abbrev costs : Rule → Exchange → ℕ
costs R X = 2 * arbitraries X.rack X.status + 2 * symmetrics X.rack X.status + price R * manifests X.rack X.status

pub cost_all : (R : Rule) (X : Exchange) → total (fits X.rack) (λ q. cost R (X.status q)) ≡ costs R X
cost_all R X = cost_by R X 10 0

-- n > 2a + 2s + price c + m
abbrev pub EnoughBy : Rule → Exchange → Type 0
EnoughBy R X = costs R X + X.rack.m < cards X.rack

-- by document 01's rule a manifest card costs 1
pub omh-enough : (X : Exchange) → Enough X.rack X.status → EnoughBy omh X
unfolding same
omh-enough X h = omega arith

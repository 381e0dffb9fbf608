-- What settings that are not refused keep.
use Prim.Native.Nat.{ℕ, ◌≤◌, ◌<◌}
use mathlib.Core.Path.{◌≡◌, refl, ◌∙◌}
use mathlib.Core.Bool.{Bool, true, false, ◌||◌}
use native.Mathlib.Omega.{arith}
use lib.Dec.{T, eqb, ltb, leb, ltb→lt}
use borrow.Author.Tests.{ltb-false, eqb-false, leb-false, lt-ltb, le-ltb}
use Rattle.ground.specs.Checks.{verdict}
use Rattle.ground.specs.Lists.{count}
use Rattle.ground.proofs.Bools.{holds}
use Rattle.ground.proofs.Verdicts.{no_verdict, none-verdict}
use Rattle.ground.proofs.Lists.{count-first, count-all}
use Rattle.settings.specs.Settings.{cards, fits, turn_of, rack_checks, turn_checks, settings_checks}
use Rattle.settings.specs.declared.Rack.{Rack}
use Rattle.settings.specs.declared.Turn.{Turn}
use Rattle.settings.specs.declared.Settings.{Settings}

-- a rack that is not refused
pub record GoodRack (rack : Rack) : Type 0 where
  pub some : 0 < cards rack
  pub few : cards rack ≤ 10
  pub deep : rack.m ≤ 3
  pub relays : rack.m < cards rack

-- and its sender
pub record GoodTurn (turn : Turn) : Type 0 where
  pub rack : GoodRack turn.rack
  pub sender : T (fits turn.rack turn.t)

-- and the own card
pub record Good (s : Settings) : Type 0 where
  pub turn : GoodTurn (turn_of s)
  pub own : T (fits s.rack s.p)

neither : (a b : Bool) → (a || b) ≡ false → (a ≡ false) × (b ≡ false)
neither true b e = let z : ◌≡◌ {A = ℕ} 0 1 = cc in absurd (omega arith)
neither false b e = (refl, e)

pub rack_good : (rack : Rack) → verdict (rack_checks rack) ≡ 0 → GoodRack rack
rack_good rack e =
    let n = cards rack in
    let m = rack.m in
    let none = no_verdict (rack_checks rack) tt e in
    let n-is = neither (eqb n 0) (ltb 10 n) none.0 in
    let m-is = neither (ltb 3 m) (leb n m) none.1.0 in
    let some : (n ≡ 0) → ⊥ = eqb-false n 0 n-is.0 in
    record { some = omega arith; few = ltb-false 10 n n-is.1; deep = ltb-false 3 m m-is.0; relays = leb-false n m m-is.1 }

pub turn_good : (turn : Turn) → verdict (turn_checks turn) ≡ 0 → GoodTurn turn
turn_good turn e =
    let none = no_verdict (turn_checks turn) tt e in
    record { rack = rack_good turn.rack (none-verdict (rack_checks turn.rack) (none.0, (none.1.0, tt))); sender = holds (fits turn.rack turn.t) none.1.1.0 }

pub settings_good : (s : Settings) → verdict (settings_checks s) ≡ 0 → Good s
settings_good s e =
    let none = no_verdict (settings_checks s) tt e in
    record { turn = turn_good (turn_of s) (none-verdict (turn_checks (turn_of s)) (none.0, (none.1.0, (none.1.1.0, tt)))); own = holds (fits s.rack s.p) none.1.1.1.0 }

-- ---- the cards that fit

-- those below n, of the ten
module _ (rack : Rack) (few : cards rack ≤ 10) where
  pub fits_count : count (fits rack) 10 0 ≡ cards rack
  unfolding fits
  fits_count = count-first _ (λ q. true) 10 (cards rack) 0 few (λ q a b. lt-ltb q (cards rack) (omega arith)) (λ q a. le-ltb q (cards rack) (omega arith)) ∙ count-all (cards rack) 0

  pub fits_ten : (q : ℕ) → T (fits rack q) → q < 10
  unfolding fits
  fits_ten q t = let h : q < cards rack = ltb→lt q (cards rack) t in omega arith

-- Laws of the status bytes: which is a good or an arbitrary card's, and what it tells that none of the ten is bad.
use Prim.Native.Nat.{ℕ, zero, suc, ◌≤◌, ◌<◌}
use mathlib.Core.Path.{◌≡◌, refl, sym, ◌∙◌}
use mathlib.Core.Bool.{Bool, true, false, true≢false}
use mathlib.Core.List.{List}
use native.Mathlib.Omega.{arith}
use denote.Enum.Bare.{sameb}
use lib.Dec.{eqb, ltb}
use lib.ListN.{get_or}
use borrow.Author.Tests.{ltb-false}
use Rattle.ground.proofs.Lists.{one_of}
use Rattle.settings.specs.declared.Rack.{Rack}
use Rattle.exchange.specs.declared.Status.TheVariants.{Good, Arbitrary}
use Rattle.exchange.specs.contracts.Status.{the_type}
use Rattle.exchange.specs.Exchange.{status_of}
use Rattle.exchange.specs.Asked.{status_bad, statuses_bad}

-- ---- two statuses by their bytes

pub good_is : (s : ℕ) → sameb the_type (status_of s) Good ≡ eqb s 0
unfolding status_of
good_is zero = refl
good_is (suc zero) = refl
good_is (suc (suc zero)) = refl
good_is (suc (suc (suc s))) = grind arith

pub arbitrary_is : (s : ℕ) → sameb the_type (status_of s) Arbitrary ≡ eqb s 1
unfolding status_of
arbitrary_is zero = refl
arbitrary_is (suc zero) = refl
arbitrary_is (suc (suc zero)) = refl
arbitrary_is (suc (suc (suc s))) = grind arith

-- ---- the ten status bytes

module _ (rack : Rack) (statuses : List ℕ) where
  -- no status byte is over 3
  pub at_most_3 : statuses_bad rack statuses ≡ false → (q : ℕ) → q < 10 → get_or statuses q 0 ≤ 3
  unfolding status_bad
  at_most_3 e q h = go (ltb 3 (get_or statuses q 0)) refl
    where
      go : (b : Bool) → ltb 3 (get_or statuses q 0) ≡ b → get_or statuses q 0 ≤ 3
      go true z = absurd (true≢false (sym (one_of (status_bad rack statuses) 10 0 q (omega arith) (omega arith) (rw z)) ∙ e))
      go false z = ltb-false 3 (get_or statuses q 0) z

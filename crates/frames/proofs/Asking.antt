-- What no verdict on reading tells.
use Prim.Native.Nat.{ℕ}
use mathlib.Core.Path.{◌≡◌}
use mathlib.Core.Bool.{true}
use mathlib.Core.List.{List}
use lib.ListN.{length}
use borrow.Author.Tests.{eqb-true, not-false}
use Rattle.ground.specs.Checks.{verdict}
use Rattle.ground.specs.Bytes.{starts, be16}
use Rattle.ground.proofs.Verdicts.{no_verdict}
use Rattle.frames.specs.Frame.{mark, version, frame_of, well_formed}
use Rattle.frames.specs.Asked.{read_checks}

-- what the checks leave of bytes that they pass
pub record Passed (l : List ℕ) : Type 0 where
  pub size : length l ≡ 17
  pub marked : starts l mark ≡ true
  pub versioned : be16 l 3 ≡ version
  pub formed : well_formed (frame_of l) ≡ true

pub passed_all : (l : List ℕ) → verdict (read_checks l) ≡ 0 → Passed l
passed_all l e =
    let none = no_verdict (read_checks l) tt e in
    record {
      size = eqb-true _ _ (not-false _ none.0);
      marked = not-false _ none.1.0;
      versioned = eqb-true _ _ (not-false _ none.1.1.0);
      formed = not-false _ none.1.1.1.0;
    }

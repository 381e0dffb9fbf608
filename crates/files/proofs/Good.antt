-- What a file that is not refused keeps.
use Prim.Native.Nat.{ℕ, ◌≤◌}
use mathlib.Core.Path.{◌≡◌}
use mathlib.Core.Bool.{false}
use mathlib.Core.List.{List}
use native.Mathlib.Omega.{arith}
use lib.ListN.{length, drop, length-drop}
use lib.Seq.{length-take-le}
use borrow.Author.Tests.{ltb-false}
use Rattle.ground.specs.Checks.{verdict}
use Rattle.ground.proofs.Verdicts.{none-verdict, no_verdict, no_verdicts}
use Rattle.settings.specs.Settings.{rack_checks}
use Rattle.exchange.specs.Asked.{statuses_bad}
use Rattle.files.specs.File.{turn_in, statuses, shape_checks, exchange_checks, file_checks}

-- its head is there, and neither its exchange nor its rack nor a status byte is refused
pub record GoodFile (file : List ℕ) : Type 0 where
  pub head : 24 ≤ length file
  pub ten : length (statuses file) ≡ 10
  pub exchange : verdict (exchange_checks file) ≡ 0
  pub rack : verdict (rack_checks (turn_in file).rack) ≡ 0
  pub fine : statuses_bad (turn_in file).rack (statuses file) ≡ false

pub head_there : (file : List ℕ) → verdict (shape_checks file) ≡ 0 → 24 ≤ length file
head_there file e = ltb-false (length file) 24 (no_verdict (shape_checks file) tt e).0

pub file_good : (file : List ℕ) → verdict (file_checks file) ≡ 0 → GoodFile file
file_good file e =
    let both = no_verdicts (shape_checks file) _ tt e in
    let head = head_there file both.0 in
    let exchange = (no_verdicts (exchange_checks file) _ tt both.1).0 in
    let none = no_verdict (exchange_checks file) tt exchange in
    record {
      head = head;
      ten = length-take-le 10 (drop 8 file) (rw (length-drop 8 file) (omega arith));
      exchange = exchange;
      rack = none-verdict (rack_checks (turn_in file).rack) (none.0, (none.1.0, tt));
      fine = none.1.1.1.0;
    }

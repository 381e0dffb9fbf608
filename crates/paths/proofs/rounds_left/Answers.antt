-- `paths::rounds_left` meets its contract.
use mathlib.Core.Path.{sym}
use native.Mathlib.Omega.{arith}
use Rattle.paths.proofs.Handed.{left_own, left_other}
use Rattle.paths.proofs.rounds_left.Goals as goal

pub returns-then-s : goal.returns-then-s
returns-then-s c = let a = c.args in sym (left_own a.s a.d c.if-s.true)

pub returns-then-s-d : goal.returns-then-s-d
returns-then-s-d c =
    let a = c.args in
    omega (arith, left_other a.s a.d c.if-s.false, c.if-s-d.true)

pub returns-else-s-d : goal.returns-else-s-d
returns-else-s-d c =
    let a = c.args in
    sym (left_other a.s a.d c.if-s.false)

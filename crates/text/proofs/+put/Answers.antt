-- `text::put` meets its contract: where the branches meet, every digit but the last is stored. The measure is `n`.
use Prim.Native.Nat.{ℕ}
use mathlib.Core.Path.{ap, ◌∙◌}
use native.Mathlib.Omega.{arith}
use lib.ListN.{length, length-append}
use Rattle.text.proofs.Digits.{more_digits}
use Rattle.text.proofs.Store.{Begun, begun_none, begun_some, inside, ended}
use Rattle.text.proofs.+put.Goals as goal
use Rattle.text.proofs.+put.Goals.{Joined-n-lt10, then-n-lt10, else-n-lt10}

pub put-last-requires : goal.put-last-requires
put-last-requires t c = (omega arith, omega (arith, simp length-append at (ap length (more_digits 8 c.if-n-lt10.false (omega arith)))))

begun : (t : ℕ) (c : Joined-n-lt10 t) → Begun c.args.out.now c.args.at c.args.n c.if-n-lt10.last c.if-n-lt10.out
begun t c =
    elim c.if-n-lt10.branch [
      | then-n-lt10 w ↦ begun_none w.if-n-lt10.true w.last-is w.out-is
      | else-n-lt10 w ↦ begun_some w.if-n-lt10.false c.ranges.n.fits (w.last-is ∙ w.put-last.ensures.0) (w.out-is ∙ w.put-last.ensures.1)
    ]

pub bounds-out-last : goal.bounds-out-last
bounds-out-last t c = inside (begun t c) c.requires

pub overflow_add-result : goal.overflow_add-result
overflow_add-result t c = omega (arith, (ended (begun t (goal.at.overflow_add-result t c).Joined-n-lt10)).0)

pub returns : goal.returns
returns t c = ended (begun t (goal.at.returns t c).Joined-n-lt10)

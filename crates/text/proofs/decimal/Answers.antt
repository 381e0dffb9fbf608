-- `text::decimal` meets its contract: each branch stores the text of a word of its sign.
use Prim.Native.Nat.{◌+◌}
use native.Mathlib.Omega.{arith}
use lib.IntN.{nat_abs}
use Rattle.ground.proofs.Bits.{back}
use Rattle.text.proofs.Laws.{length_digits}
use Rattle.text.proofs.Store.{stored}
use Rattle.text.proofs.Sign.{plus, under, minus}
use Rattle.text.proofs.decimal.Goals as goal

pub put-requires : goal.put-requires
put-requires c = omega (arith, length_digits 10 (nat_abs (back c.args.word)))

pub put-requires-else-word-ge0 : goal.put-requires-else-word-ge0
put-requires-else-word-ge0 c = omega (arith, length_digits 10 (nat_abs (back (under c.args.word)) + 1))

pub returns-then-word-ge0 : goal.returns-then-word-ge0
returns-then-word-ge0 c =
    stored _ _ c.told-out (plus _ c.ranges.word c.if-word-ge0.true).text (omega arith) c.put.ensures.1

pub returns-else-word-ge0 : goal.returns-else-word-ge0
returns-else-word-ge0 c =
    stored _ _ c.told-out (minus _ c.ranges.word c.if-word-ge0.false).text (omega arith) c.put-else-word-ge0.ensures.1

-- `refilling::refill_part` meets its contract: it is the call on its two halves.
use Prim.Native.Nat.{ℕ, ◌+◌}
use mathlib.Core.Path.{ap, ◌∙◌}
use Rattle.book.proofs.Halves.{split_call}
use Rattle.refilling.specs.Refilled.{refill_asked}
use Rattle.refilling.proofs.refill_part.Goals as goal

pub returns : goal.returns
returns c =
    let at = c.split_at_mut-words.ensures in
    split_call (record {
      half = c.min-half.ensures;
      front = at.front;
      back = at.back;
      left_long = at.front_len;
      right_long = ap (λ (n : ℕ). n + c.min-half.result) c.refill.auto.votes ∙ at.back_len;
    }) (refill_asked c.args.s) c.refill.ensures

-- `book::open_part` meets its contract: it is the call on its two halves.
use Prim.Native.Nat.{ℕ, ◌+◌}
use mathlib.Core.Path.{ap, ◌∙◌}
use Rattle.book.specs.Asked.{open_asked}
use Rattle.book.proofs.Halves.{split_call}
use Rattle.book.proofs.open_part.Goals as goal

pub returns : goal.returns
returns c =
    let at = c.split_at_mut-words.ensures in
    split_call (record {
      half = c.min-half.ensures;
      front = at.front;
      back = at.back;
      left_long = c.open.auto.words ∙ at.front_len;
      right_long = ap (λ (n : ℕ). n + c.min-half.result) c.open.auto.votes ∙ at.back_len;
    }) (open_asked c.args.s) c.open.ensures

-- `entering::enter_part` meets its contract: it is the call on its two halves.
use Prim.Native.Nat.{ℕ, ◌+◌}
use mathlib.Core.Path.{ap, ◌∙◌}
use Rattle.entering.specs.Asked.{enter_asked}
use Rattle.ground.proofs.Bits.{back_is}
use Rattle.book.specs.Book.{book_of}
use Rattle.book.proofs.Halves.{split_call}
use Rattle.entering.proofs.enter_part.Goals as goal

pub returns : goal.returns
returns c =
    let at = c.split_at_mut-words.ensures in
    split_call (record {
      half = c.min-half.ensures;
      front = at.front;
      back = at.back;
      left_long = c.enter.auto.words ∙ at.front_len;
      right_long = ap (λ (n : ℕ). n + c.min-half.result) c.enter.auto.votes ∙ at.back_len;
    }) (λ b. enter_asked c.args.s b c.args.slot c.args.word) (c.enter.ensures ∙ ap (enter_asked c.args.s (book_of c.split_at_mut-words.result.0.now c.split_at_mut-words.result.1.now) c.args.slot) (back_is c.ranges.word))

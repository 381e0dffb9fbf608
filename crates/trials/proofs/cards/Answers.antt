-- `trials::cards` meets its contract: the words told, all answers over them, a line to each, and the last line.
use Prim.Native.Nat.{ℕ}
use mathlib.Core.Path.{ap, ◌∙◌}
use mathlib.Core.List.{List, ◌++◌}
use native.Mathlib.Omega.{arith}
use borrow.Author.Rules.{sfits_of}
use lib.ListN.{length, replicate, length-replicate}
use Rattle.words.specs.Word.{E}
use Rattle.settings.specs.Settings.{fits}
use Rattle.exchange.proofs.Statuses.{at_most_3}
use Rattle.files.specs.File.{turn_in, statuses, all_missing}
use Rattle.files.specs.declared.Head.{Head}
use Rattle.files.proofs.Good.{file_good}
use Rattle.trials.proofs.Asking.{answers_are}
use Rattle.trials.specs.Listing.{line_at}
use Rattle.trials.proofs.Lines.{length_line, length_lines}
use Rattle.trials.proofs.Text.{card-lines}
use Rattle.trials.proofs.cards.Goals as goal

pub slice_bounds-all_answers-end : goal.slice_bounds-all_answers-end
slice_bounds-all_answers-end c =
    omega (arith, (file_good c.args.file.now c.requires.0.passes).head)

pub lines-page-requires : goal.lines-page-requires
lines-page-requires c =
    let good = file_good c.args.file.now c.requires.0.passes in
    (good.ten, at_most_3 (turn_in c.args.file.now).rack _ good.fine, omega arith)

pub put-requires : goal.put-requires
put-requires c =
    omega (arith, c.requires.1, ap length c.lines-page.ensures, length_lines (fits c.args.h.turn.rack) (line_at (statuses c.args.file.now) c.all_answers.new.answers) (λ p. length_line p _ _) 10)

pub returns : goal.returns
unfolding all_missing
returns c =
    let file = c.args.file.now in
    let made = answers_are file c.requires.0 (sfits_of c.struct_told-1.given.1.0.1) c.tell.ensures (replicate 10 E) (length-replicate 10 E) c.all_answers.ensures in
    c.put.ensures ∙ ap (λ (l : List ℕ). l ++ c.args.last.now) (c.lines-page.ensures ∙ card-lines file (replicate 10 E) made (ap (λ (h : Head). h.turn.rack) c.requires.0.head))

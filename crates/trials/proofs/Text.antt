-- The text of a file: its card lines from all answers, and the whole by what its checks say.
use Prim.Native.Nat.{ℕ, ◌≤◌, ◌<◌}
use mathlib.Core.Path.{◌≡◌, refl, ap, ◌∙◌}
use mathlib.Core.Bool.{Bool}
use mathlib.Core.List.{List, ◌++◌}
use native.Mathlib.Nat.{zero-add}
use native.Mathlib.Omega.{arith}
use lib.Dec.{T}
use lib.IntN.{ℤ, pos}
use lib.ListN.{length, get_or, length-append}
use Rattle.ground.specs.Checks.{verdict}
use Rattle.ground.specs.Lists.{at}
use Rattle.ground.specs.Answer.{value}
use Rattle.ground.proofs.Answers.{answer-refused, answer-given}
use Rattle.ground.proofs.Bools.{cond_yes}
use Rattle.ground.proofs.Lists.{at_table}
use Rattle.text.specs.Decimal.{decimal_of}
use Rattle.settings.specs.Settings.{most_cards, fits}
use Rattle.settings.specs.declared.Rack.{Rack}
use Rattle.vote.specs.Vote.{rule_of}
use Rattle.exchange.specs.Exchange.{answer_of}
use Rattle.bound.specs.Bound.{bound_asked}
use Rattle.bench.specs.Asked.{answers_of}
use Rattle.files.specs.File.{turn_in, statuses, exchange_of, file_checks}
use Rattle.files.specs.declared.Head.{Head}
use Rattle.trials.specs.Accepting.{Accepted}
use Rattle.trials.proofs.Asking.{bound_is}
use Rattle.trials.specs.Listing.{ending, line_of, line_at, lines, bound_line, refused_line, card_line, listed, printed, text_of}
use Rattle.trials.proofs.Lines.{length_word, length_line, length_bound, length_lines, lines_same}

module _ (file : List ℕ) where
  -- ---- the lines of the cards

  module _ (before : List ℤ) {list : List ℤ} (e : list ≡ answers_of (rule_of (turn_in file).rack) (exchange_of file) before) where
    answer_at : (p : ℕ) → p < 10 → T (fits (turn_in file).rack p) → at list p ≡ answer_of (rule_of (turn_in file).rack) (exchange_of file) p
    unfolding answers_of
    answer_at p h t = ap (λ (l : List ℤ). at l p) e ∙ at_table 10 0 _ p (pos 0) h ∙ rw zero-add (cond_yes (fits (turn_in file).rack p) _ _ t)

    pub card-lines : {rack : Rack} → rack ≡ (turn_in file).rack → lines (fits rack) (line_at (statuses file) list) 10 ≡ lines (fits (turn_in file).rack) (card_line file) 10
    card-lines q = rw q (lines_same _ _ (card_line file) 10 (λ p h t. ap (line_of p (get_or (statuses file) p 0)) (answer_at p h t)))

  pub length-cards : length (lines (fits (turn_in file).rack) (card_line file) 10) ≤ 160
  length-cards = length_lines (fits (turn_in file).rack) (card_line file) (λ p. length_line p _ _) 10

  -- by the bound's answer
  pub listed_as : {h : Head} → Accepted file h → {held : Bool} → value held ≡ bound_asked h.turn.rack (statuses file) → lines (fits (turn_in file).rack) (card_line file) most_cards ++ bound_line held ≡ listed file
  listed_as a e = rw (bound_is file a e)

  -- at most ten lines of 16 bytes and one of 15
  pub length-listed : length (listed file) ≤ 175
  length-listed = simp length-append (omega (arith, length-cards, length_bound))

  -- ---- the text

  pub refused-text : {no : ℕ} → no ≡ verdict (file_checks file) → (no ≡ 0 → ⊥) → refused_line no ≡ text_of file
  unfolding text_of
  refused-text e n = ap printed (answer-refused e n _)

  pub listed-text : verdict (file_checks file) ≡ 0 → listed file ≡ text_of file
  unfolding text_of
  listed-text z = ap printed (answer-given refl z refl)

pub length-refused : (k : ℕ) → length (refused_line k) ≤ 20
unfolding refused_line
length-refused k = rw (length-append (decimal_of (pos k)) ending) (omega (arith, length_word (pos k)))

-- Laws of the text: what each piece is, how long it is, and that lines of the same words are the same.
use Prim.Native.Nat.{ℕ, zero, suc, ◌+◌, ◌*◌, ◌≤◌, ◌<◌}
use mathlib.Core.Path.{◌≡◌, refl, sym, ap₂, ◌∙◌}
use mathlib.Core.Bool.{Bool, true, false, cond}
use mathlib.Core.List.{List, [], ◌∷◌, ◌++◌}
use native.Mathlib.Numerals.{add-one}
use native.Mathlib.Omega.{arith}
use borrow.Author.Tests.{eq-eqb, ne_eqb}
use lib.Dec.{T, lit<}
use lib.IntN.{ℤ}
use lib.ListN.{length, length-append}
use mir.Syntax.{w32}
use mir.Val.{of_z, SFits}
use Rattle.std.proofs.lemmas.Grind.{common_steps}
use Rattle.ground.proofs.Bools.{cond-case, cond_same}
use Rattle.words.specs.Word.{E}
use Rattle.words.specs.Majority.{same}
use Rattle.words.proofs.Same.{bits_same, same_sym}
use Rattle.text.specs.Decimal.{decimal_of}
use Rattle.text.proofs.Laws.{length-text}
use Rattle.trials.specs.Listing.{ending, answer_text, line_of, lines, bound_line}

-- ---- an answer's text, by the machine's test of its word

module _ {w : ℤ} (f : SFits w32 w) where
  tested : {b : Bool} → same w E ≡ b → same E w ≡ b
  tested e = same_sym E w ∙ e

  pub answer_missing : of_z w32 w ≡ 1000000000 → answer_text w ≡ 45 ∷ []
  unfolding answer_text
  answer_missing e = rw (tested (sym (bits_same {y = E} f (record { sfits = lit< tt })) ∙ eq-eqb _ _ e))

  pub answer_word : (of_z w32 w ≡ 1000000000 → ⊥) → answer_text w ≡ decimal_of w
  unfolding answer_text
  answer_word n = rw (tested (sym (bits_same {y = E} f (record { sfits = lit< tt })) ∙ ne_eqb _ _ n))

-- ---- lengths

pub length_word : (w : ℤ) → length (decimal_of w) ≤ 11
length_word w = (length-text w).1

pub length_answer : (w : ℤ) → length (answer_text w) ≤ 11
unfolding answer_text
length_answer w = cond-case (λ (l : List ℕ). length l ≤ 11) (same E w) _ _ (λ t. omega arith) (λ t. length_word w)

pub length_line : (p status : ℕ) (w : ℤ) → length (line_of p status w) ≤ 16
unfolding line_of
length_line p status w = rw (length-append (answer_text w) ending) (omega (arith, length_answer w))

pub length_bound : (b : Bool) → length (bound_line b) ≤ 15
unfolding bound_line
length_bound true = omega arith
length_bound false = omega arith

-- ---- a line to each card that passes

module _ (passes : ℕ → Bool) (line : ℕ → List ℕ) where
  pub length_lines : ((p : ℕ) → length (line p) ≤ 16) → (c : ℕ) → length (lines passes line c) ≤ 16 * c
  unfolding lines
  length_lines h zero = omega arith
  length_lines h (suc c) =
      let ih = length_lines h c in
      let last = cond-case (λ (l : List ℕ). length l ≤ 16) (passes c) (line c) [] (λ t. h c) (λ t. omega arith) in
      rw (length-append (lines passes line c) (cond (passes c) (line c) [])) (omega arith)

  -- one card more
  pub lines_more : (c : ℕ) → lines passes line (c + 1) ≡ lines passes line c ++ cond (passes c) (line c) []
  unfolding lines
  lines_more c = rw add-one

  -- lines that are the same for each card that passes
  pub lines_same : (other : ℕ → List ℕ) (c : ℕ) → ((p : ℕ) → p < c → T (passes p) → line p ≡ other p) → lines passes line c ≡ lines passes other c
  unfolding lines
  lines_same other zero h = refl
  lines_same other (suc c) h = ap₂ ◌++◌ (lines_same other c (λ p g. h p (omega arith))) (cond_same (passes c) _ _ _ _ (h c (omega arith)) (λ t. refl))

-- the laws that the page's functions are tried with
pub ruleset steps = (common_steps, answer_missing, answer_word, length_word, length_answer, lines_more)

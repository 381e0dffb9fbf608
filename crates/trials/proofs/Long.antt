-- A file longer than any that is not refused: its first 473 bytes give the same text.
use Prim.Native.Nat.{ℕ, ◌+◌, ◌*◌, ◌≤◌, ◌<◌}
use mathlib.Core.Path.{◌≡◌, refl, sym, ap, ◌∙◌}
use mathlib.Core.Bool.{Bool, true, false, cond, not, true≢false}
use mathlib.Core.List.{List, [], ◌∷◌}
use native.Mathlib.Omega.{arith}
use borrow.Author.Tests.{le-ltb, le-leb, ne_eqb, ltb-false}
use lib.Dec.{eqb, ltb}
use lib.ListN.{length, take}
use lib.Seq.{get_or-take, length-take-le}
use Rattle.ground.specs.Refusal as refusal
use Rattle.ground.specs.Checks.{Check, check, verdict}
use Rattle.ground.specs.Bytes.{byte, starts, be16}
use Rattle.ground.proofs.Verdicts.{no_verdict, still_refused}
use Rattle.files.specs.File.{mark, version, exceptions, shape_checks}
use Rattle.trials.specs.Listing.{refused_line, text_of}
use Rattle.trials.proofs.Text.{refused-text}

-- what is left to check of such a file: the length is wrong
abbrev long_checks : List ℕ → List Check
long_checks file =
    check refusal.mark (not (starts file mark))
    ∷ check refusal.version (not (eqb (be16 file 3) version))
    ∷ check refusal.exception (ltb 64 (exceptions file))
    ∷ check refusal.size true
    ∷ []

-- one of them applies
some_long : (file : List ℕ) → verdict (long_checks file) ≡ 0 → ⊥
some_long file e = true≢false (no_verdict (long_checks file) tt e).1.1.1.0

-- the last check decides only where there are at most 64 exceptions
long_shape : (file : List ℕ) → 473 ≤ length file → verdict (long_checks file) ≡ verdict (shape_checks file)
unfolding verdict
long_shape file h =
    rw (le-ltb (length file) 24 (omega arith))
    (ap (λ (v : ℕ). cond (not (starts file mark)) refusal.mark (cond (not (eqb (be16 file 3) version)) refusal.version v)) (go (ltb 64 (exceptions file)) refl))
  where
    go : (b : Bool) → ltb 64 (exceptions file) ≡ b → cond b refusal.exception refusal.size ≡ cond b refusal.exception (cond (not (eqb (length file) (24 + 7 * exceptions file))) refusal.size 0)
    go true e = refl
    go false e = rw (ne_eqb (length file) (24 + 7 * exceptions file) (λ q. omega (arith, ltb-false 64 (exceptions file) e)))

refused-long : (file : List ℕ) → 473 ≤ length file → refused_line (verdict (long_checks file)) ≡ text_of file
refused-long file h = refused-text file (still_refused (shape_checks file) _ tt (long_shape file h) (some_long file)) (some_long file)

module _ (file : List ℕ) (h : 473 ≤ length file) where
  same_byte : (k : ℕ) → k < 473 → byte (take 473 file) k ≡ byte file k
  same_byte k g = get_or-take 473 file k 0 g

  same_number : (k : ℕ) → k + 1 < 473 → be16 (take 473 file) k ≡ be16 file k
  unfolding be16
  same_number k g = rw (same_byte k (omega arith), same_byte (k + 1) g)

  cut_long : length (take 473 file) ≡ 473
  cut_long = length-take-le 473 file h

  same-starts : starts (take 473 file) mark ≡ starts file mark
  unfolding starts
  same-starts = rw (same_byte 0 (omega arith), same_byte 1 (omega arith), same_byte 2 (omega arith), cut_long, le-leb 3 (length file) (omega arith))

  pub long-text : text_of (take 473 file) ≡ text_of file
  long-text =
      sym (refused-long (take 473 file) (omega (arith, cut_long)))
      ∙ rw (same-starts, same_number 3 (omega arith), same_number 22 (omega arith)) (refused-long file h)

-- What no verdict on a call on a book tells, and that good settings and a book of the right size have none.
use Prim.Native.Nat.{ℕ}
use mathlib.Core.Path.{◌≡◌, ◌∙◌}
use mathlib.Core.Bool.{false, not}
use lib.Dec.{T, eqb, eqb→eq}
use lib.ListN.{length, length-replicate}
use borrow.Author.Tests.{eq-eqb}
use Rattle.ground.specs.Checks.{verdict}
use Rattle.ground.proofs.Bools.{holds, and_left, and_right}
use Rattle.ground.proofs.Verdicts.{no_verdict, none-verdict, no_verdicts, rest_decides}
use Rattle.words.specs.Word.{E}
use Rattle.words.specs.Rule.{Rule}
use Rattle.settings.specs.Settings.{slots, settings_checks}
use Rattle.settings.specs.declared.Settings.{Settings}
use Rattle.settings.proofs.Good.{Good, settings_good}
use Rattle.paths.specs.Slots.{live}
use Rattle.book.specs.Book.{Book, sized, Sized, opened}
use Rattle.book.specs.Asked.{book_checks, slot_checks, held_checks}

-- ---- the lists' length, as a test

pub sized_both : (b : Book) → not (sized b) ≡ false → Sized b
sized_both b e =
    let t = holds (sized b) e in
    let words = eqb (length b.words) slots in
    record { words_long = eqb→eq _ _ (and_left words _ t); votes_long = eqb→eq _ _ (and_right words _ t) }

pub both_sized : (b : Book) → Sized b → not (sized b) ≡ false
both_sized b z = rw (eq-eqb (length b.words) slots z.words_long, eq-eqb (length b.votes) slots z.votes_long)

pub opened-sized : (R : Rule) → Sized (opened R)
unfolding opened
opened-sized R = record { words_long = length-replicate slots E; votes_long = length-replicate slots R.none }

-- ---- no verdict

pub book-asked : (s : Settings) (b : Book) → verdict (book_checks s b) ≡ 0 → Good s × Sized b
book-asked s b e =
    let both = no_verdicts (settings_checks s) _ tt e in
    (settings_good s both.0, sized_both b (no_verdict _ tt both.1).0)

pub slot-asked : (s : Settings) (b : Book) (k : ℕ) → verdict (slot_checks s b k) ≡ 0 → Good s × Sized b × T (live s k)
slot-asked s b k e =
    let both = no_verdicts (book_checks s b) _ tt e in
    let book = book-asked s b both.0 in
    (book.0, book.1, holds (live s k) (no_verdict _ tt both.1).0)

pub not_refused : (s : Settings) (b : Book) → verdict (settings_checks s) ≡ 0 → Sized b → verdict (book_checks s b) ≡ 0
not_refused s b good z = rest_decides (settings_checks s) (held_checks b) tt good ∙ none-verdict (held_checks b) (both_sized b z, tt)

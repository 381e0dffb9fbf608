-- Laws of the long list: the sender's part as it is lent on and comes back, and that the part's call is the long list's.
use Prim.Native.Nat.{ℕ, zero, suc, ◌+◌, ◌*◌, ◌≤◌, ◌<◌}
use mathlib.Core.Path.{◌≡◌, refl, sym, ap, ap₂, ◌∙◌}
use mathlib.Core.Logic.{◌≢◌}
use mathlib.Core.Bool.{Bool, true, false, not, ◌&&◌, true≢false}
use mathlib.Core.List.{List, ◌++◌}
use native.Mathlib.Omega.{arith}
use lib.Dec.{T, eqb, ltb, eqb→eq, ltb→lt}
use lib.IntN.{ℤ}
use lib.ListN.{length, take-append-drop, length-append}
use borrow.Author.Tests.{eq-eqb, lt-ltb}
use Rattle.ground.specs.Checks.{Check, verdict}
use Rattle.ground.specs.Answer.{Answer, Outcome, outcome, answer, after, outcome_by, refusal_of, of_result}
use Rattle.std.specs.Prelude.{Result}
use Rattle.ground.specs.declared.refusal.Refusal.{Refusal}
use Rattle.ground.proofs.Answers.{refused_outcome}
use Rattle.ground.specs.Lists.{part, with_part}
use Rattle.ground.proofs.Bools.{holds, and_left, and_right}
use Rattle.ground.proofs.Parts.{part-kept, part-long, part_same, part-other, length_with}
use Rattle.ground.proofs.Verdicts.{none-verdict, no_verdict, no_verdicts, rest_decides, first_decides, same_first, still_refused}
use Rattle.settings.specs.Settings.{settings_checks}
use Rattle.settings.specs.declared.Settings.{Settings}
use Rattle.settings.proofs.Good.{settings_good, fits_ten}
use Rattle.book.specs.Book.{Book, halves, Sized}
use Rattle.book.specs.Asked.{book_checks}
use Rattle.book.proofs.Asking.{both_sized}
use Rattle.book.proofs.Halves.{halves-sized, halves_joined}
use Rattle.books.specs.Books.{book_from, with_book, has_part, books_checks}

-- ---- where there is a part

-- the sender is one of the ten cards, and the long list has its length
pub record Has (t : ℕ) (l : List ℤ) : Type 0 where
  pub sender : t < 10
  pub long : length l ≡ 22220

pub has_it : {t : ℕ} {l : List ℤ} → (ltb t 10 && eqb (length l) 22220) ≡ true → Has t l
has_it {t} {l} e =
    let h : T (ltb t 10 && eqb (length l) 22220) = rw e tt in
    record { sender = ltb→lt t 10 (and_left (ltb t 10) _ h); long = eqb→eq _ _ (and_right (ltb t 10) _ h) }

-- a call that is not refused has its part
pub asked_has : (s : Settings) (l : List ℤ) → verdict (books_checks s l) ≡ 0 → Has s.t l
asked_has s l e =
    let both = no_verdicts (settings_checks s) _ tt e in
    let good = settings_good s both.0 in
    record { sender = fits_ten s.rack good.turn.rack.few s.t good.turn.sender; long = eqb→eq _ _ (holds (eqb (length l) 22220) (no_verdict _ tt both.1).0) }

pub good_has : (s : Settings) (l : List ℤ) → verdict (settings_checks s) ≡ 0 → length l ≡ 22220 → Has s.t l
good_has s l good long = asked_has s l (rest_decides (settings_checks s) _ tt good ∙ none-verdict _ (ap not (eq-eqb (length l) 22220 long), tt))

-- and so one that has none is refused
pub has_not : (s : Settings) (l : List ℤ) → (ltb s.t 10 && eqb (length l) 22220) ≡ false → verdict (books_checks s l) ≡ 0 → ⊥
has_not s l e z =
    let h = asked_has s l z in
    let w : ◌≡◌ {A = Bool} true false = sym (rw (lt-ltb s.t 10 h.sender, eq-eqb (length l) 22220 h.long) refl) ∙ e in
    true≢false w

module _ {t : ℕ} {l : List ℤ} (h : Has t l) where
  pub part_in : 2222 * t + 2222 ≤ length l
  part_in = omega (arith, h.sender, h.long)

  pub part-whole : length (part 2222 t l) ≡ 2222
  part-whole = part-long 2222 t l part_in

  pub from_sized : Sized (book_from t l)
  from_sized = halves-sized (part 2222 t l) part-whole

  -- ---- the sender's book in place of the old one

  -- the book that is there leaves the list as it is
  with_same : with_book t l (book_from t l) ≡ l
  with_same = ap (with_part 2222 t l) (take-append-drop 1111 (part 2222 t l)) ∙ part-kept 2222 t l

  joined_long : (b : Book) → Sized b → length (b.words ++ b.votes) ≡ 2222
  joined_long b z = length-append b.words b.votes ∙ omega (arith, z.words_long, z.votes_long)

  -- another is the sender's book from then on,
  pub with_from : (b : Book) → Sized b → book_from t (with_book t l b) ≡ b
  with_from b z =
      ap halves (part_same 2222 t l part_in (b.words ++ b.votes) (joined_long b z))
      ∙ halves_joined b.words b.votes z.words_long

  -- and no other sender's part differs
  pub with_other : (b : Book) → Sized b → (u : ℕ) → u ≢ t → part 2222 u (with_book t l b) ≡ part 2222 u l
  with_other b z u o = part-other 2222 t l part_in (b.words ++ b.votes) (joined_long b z) u o

  pub with-long : (b : Book) → Sized b → length (with_book t l b) ≡ length l
  with-long b z = length_with 2222 t l part_in (b.words ++ b.votes) (joined_long b z)

  -- ---- the part's call is the long list's

  -- the same checks
  pub same-verdict : (s : Settings) → verdict (book_checks s (book_from t l)) ≡ verdict (books_checks s l)
  same-verdict s =
      first_decides (settings_checks s) _ tt (none-verdict _ (both_sized (book_from t l) from_sized, tt))
      ∙ sym (first_decides (settings_checks s) _ tt (none-verdict _ (ap not (eq-eqb (length l) 22220 h.long), tt)))

  pub same_then : (s : Settings) (cs : List Check) → verdict (book_checks s (book_from t l) ++ cs) ≡ verdict (books_checks s l ++ cs)
  same_then s cs = same_first (book_checks s (book_from t l)) (books_checks s l) cs tt tt (same-verdict s)

  -- what it yields, and the part that it leaves in place of the old one
  part_call : (made : Book) (new : List ℤ) (v : ℕ) {v' : ℕ} {y : Answer (Unit {0})} → outcome y (halves new) ≡ outcome_by v (book_from t l) made → v ≡ v' → outcome y (with_part 2222 t l new) ≡ outcome_by v' l (with_book t l made)
  unfolding outcome_by after
  part_call made new v {y = y} o same = rw (← same) (go v o)
    where
      joined_again : with_part 2222 t l new ≡ with_book t l (halves new)
      joined_again = ap (with_part 2222 t l) (sym (take-append-drop 1111 new))

      go : (v : ℕ) → outcome y (halves new) ≡ outcome (answer v tt) (after v (book_from t l) made) → outcome y (with_part 2222 t l new) ≡ outcome (answer v tt) (after v l (with_book t l made))
      go zero o = ap₂ outcome (ap (λ (o : Outcome (Answer (Unit {0})) Book). o.yields) o) (joined_again ∙ ap (λ (o : Outcome (Answer (Unit {0})) Book). with_book t l o.leaves) o)
      go (suc k) o = ap₂ outcome (ap (λ (o : Outcome (Answer (Unit {0})) Book). o.yields) o) (joined_again ∙ ap (λ (o : Outcome (Answer (Unit {0})) Book). with_book t l o.leaves) o ∙ with_same)

-- a call by `on_part`, for which the part's call is a book's with these checks after its own
pub by_part : (s : Settings) (l : List ℤ) (cs : List Check) (made : Book) (x : Result (Unit {0}) Refusal) {left : List ℤ} {Returns : List ℤ → Type 0} →
    (has_part s l ≡ true → (new : List ℤ) × Returns new × (left ≡ with_part 2222 s.t l new)) →
    (has_part s l ≡ false → (refusal_of x ≡ verdict (books_checks s l)) × (left ≡ l)) →
    ((new : List ℤ) → Returns new → outcome (of_result x) (halves new) ≡ outcome_by (verdict (book_checks s (book_from s.t l) ++ cs)) (book_from s.t l) made) →
    outcome (of_result x) left ≡ outcome_by (verdict (books_checks s l ++ cs)) l (with_book s.t l made)
by_part s l cs made x {left} called none told = go (has_part s l) refl
  where
    go : (b : Bool) → has_part s l ≡ b → outcome (of_result x) left ≡ outcome_by (verdict (books_checks s l ++ cs)) l (with_book s.t l made)
    go true e =
        let part = called e in
        let has = has_it e in
        ap (outcome (of_result x)) part.2 ∙ part_call has made part.0 (verdict (book_checks s (book_from s.t l) ++ cs)) (told part.0 part.1) (same_then has s cs)
    go false e =
        let is = none e in
        let stays = still_refused (books_checks s l) cs tt refl (has_not s l e) in
        ap (outcome (of_result x)) is.1 ∙ refused_outcome x (is.0 ∙ stays) (λ z. has_not s l e (stays ∙ z)) l _

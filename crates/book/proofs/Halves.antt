-- Laws of a book in one list: its two halves.
use Prim.Native.Nat.{ℕ, zero, suc, ◌+◌, ◌≤◌, min}
use mathlib.Core.Path.{◌≡◌, refl, sym, ap, ap₂, ◌∙◌}
use mathlib.Core.Bool.{Bool, true, false, not, true≢false}
use mathlib.Core.List.{List, [], ◌∷◌, ◌++◌, append-nil}
use native.Mathlib.Omega.{arith}
use native.Mathlib.Nat.{zero-add, suc-add}
use lib.Dec.{eqb, leb, leb→le}
use lib.IntN.{ℤ}
use lib.ListN.{length, replicate, take, drop, take-append-drop, drop_of_length-le, length-drop, length-append, length-replicate}
use lib.Seq.{length-take-le, take_all, take_at, drop_at}
use borrow.Author.Tests.{eq-eqb, ne_eqb, leb-false}
use Rattle.std.proofs.lemmas.List.{take_min, drop_min, nil_from_length}
use Rattle.ground.specs.Answer.{Outcome, outcome, of_result}
use Rattle.std.specs.Prelude.{Result}
use Rattle.ground.specs.declared.refusal.Refusal.{Refusal}
use Rattle.ground.proofs.Answers.{outcome_apart}
use Rattle.settings.specs.Settings.{slots}
use Rattle.book.specs.Book.{Book, book_of, halves, sized, Sized}
use Rattle.book.proofs.Asking.{sized_both, both_sized}

-- words and then votes have just these halves
pub halves_joined : (words votes : List ℤ) → length words ≡ slots → halves (words ++ votes) ≡ book_of words votes
halves_joined words votes long = ap₂ book_of (take_at words votes slots long) (drop_at words votes slots long)

-- and a list is its halves, one after the other
pub halves_apart : (l m : List ℤ) → halves l ≡ halves m → l ≡ m
halves_apart l m e =
    sym (take-append-drop slots l)
    ∙ ap₂ (λ (words votes : List ℤ). words ++ votes) (ap (λ (b : Book). b.words) e) (ap (λ (b : Book). b.votes) e)
    ∙ take-append-drop slots m

-- so an outcome of a book in one list fixes the list
pub part_apart : (x y : (Result (Unit {0}) Refusal)) {l m : List ℤ} → outcome (of_result x) (halves l) ≡ outcome (of_result y) (halves m) → outcome x l ≡ outcome y m
part_apart x y {l} {m} e =
    let both = outcome_apart x y e in
    ap₂ outcome (ap (λ (o : Outcome (Result (Unit {0}) Refusal) Book). o.yields) both) (halves_apart l m (ap (λ (o : Outcome (Result (Unit {0}) Refusal) Book). o.leaves) both))

-- both halves have their right length where the list has that of both
pub halves-sized : (l : List ℤ) → length l ≡ 2222 → Sized (halves l)
halves-sized l e = record { words_long = length-take-le slots l (omega arith); votes_long = length-drop slots l ∙ omega arith }

pub sized-halves : (l : List ℤ) → Sized (halves l) → length l ≡ 2222
sized-halves l z =
    ap length (sym (take-append-drop slots l)) ∙ length-append (take slots l) (drop slots l) ∙ omega (arith, z.words_long, z.votes_long)

-- as a test
pub halves_long : (l : List ℤ) → not (eqb (length l) 2222) ≡ not (sized (halves l))
halves_long l = go (sized (halves l)) refl
  where
    go : (b : Bool) → sized (halves l) ≡ b → not (eqb (length l) 2222) ≡ not (sized (halves l))
    go true q = rw (eq-eqb (length l) 2222 (sized-halves l (sized_both (halves l) (ap not q))), q)
    go false q = rw (ne_eqb (length l) 2222 (λ e. let z = both_sized (halves l) (halves-sized l e) in true≢false (sym (ap not q) ∙ z)), q)

-- a word everywhere is that word everywhere in both halves
pub halves-same : (n : ℕ) (w : ℤ) → n ≡ 2222 → halves (replicate n w) ≡ book_of (replicate slots w) (replicate slots w)
halves-same n w e =
    let both : n ≡ slots + slots = omega arith in
    ap (λ (i : ℕ). halves (replicate i w)) both ∙ ap halves (replicate_add slots slots) ∙ halves_joined (replicate slots w) (replicate slots w) (length-replicate slots w)
  where
    replicate_add : (a b : ℕ) → replicate (a + b) w ≡ replicate a w ++ replicate b w
    replicate_add zero b = ap (λ (i : ℕ). replicate i w) (zero-add b)
    replicate_add (suc a) b = ap (λ (i : ℕ). replicate i w) (suc-add a b) ∙ ap (λ (l : List ℤ). w ∷ l) (replicate_add a b)

-- ---- the list split in its halves and lent on: the first `mid` places, all of them where there are fewer than a half has

-- the two parts are the halves
pub split_halves : (l : List ℤ) {words votes : List ℤ} {mid : ℕ} → mid ≡ min slots (length l) → words ≡ take mid l → votes ≡ drop mid l → book_of words votes ≡ halves l
split_halves l e w v = ap₂ book_of (w ∙ ap (λ (m : ℕ). take m l) e ∙ take_min slots l) (v ∙ ap (λ (m : ℕ). drop m l) e ∙ drop_min slots l)

-- what it is split into, and what comes back, has as many places in each part
pub record Split (l words votes left right : List ℤ) (mid : ℕ) : Type 0 where
  pub half : mid ≡ min slots (length l)
  pub front : words ≡ take mid l
  pub back : votes ≡ drop mid l
  pub left_long : length left ≡ mid
  pub right_long : length right + mid ≡ length l

module _ {l words votes left right : List ℤ} {mid : ℕ} (p : Split l words votes left right mid) where
  joined : halves (left ++ right) ≡ book_of left right
  joined = go (leb slots (length l)) refl
    where
      go : (b : Bool) → leb slots (length l) ≡ b → halves (left ++ right) ≡ book_of left right
      go true q = halves_joined left right (p.left_long ∙ omega (arith, p.half, leb→le slots (length l) (rw q tt)))
      go false q =
          let small : length left ≤ slots = omega (arith, p.half, p.left_long) in
          let none : right ≡ [] = nil_from_length right (omega (arith, p.half, p.right_long, leb-false slots (length l) q)) in
          rw (none, append-nil) (ap₂ book_of (take_all slots left small) (drop_of_length-le left {i = slots} small))

  -- what a call on the two yields and leaves, it yields and leaves of the list
  pub split_call : {Y : Type 0} {y : Y} (asked : Book → Outcome Y Book) → outcome y (book_of left right) ≡ asked (book_of words votes) → outcome y (halves (left ++ right)) ≡ asked (halves l)
  split_call {y = y} asked told =
      ap (outcome y) joined ∙ told ∙ ap asked (split_halves l p.half p.front p.back)

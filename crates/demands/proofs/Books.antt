-- Demand 3 for every sender: a card's books in one list. First what each function's contract says of a call, then what a run of calls for all senders leaves.
use Prim.Native.Nat.{ℕ}
use mathlib.Core.Path.{◌≡◌, ap, ◌∙◌}
use mathlib.Core.Logic.{◌≢◌}
use mathlib.Core.List.{List}
use lib.Dec.{T}
use lib.IntN.{ℤ}
use lib.ListN.{length}
use Rattle.ground.specs.Checks.{verdict}
use Rattle.ground.specs.Answer.{value, Outcome}
use Rattle.ground.specs.Fixes.{Allows}
use Rattle.ground.specs.Lists.{at, part}
use Rattle.settings.specs.Settings.{settings_checks}
use Rattle.settings.specs.Asked.{settings}
use Rattle.settings.specs.declared.Settings.{Settings}
use Rattle.paths.specs.Slots.{live}
use Rattle.vote.specs.Vote.{rule_of, vote}
use Rattle.book.specs.Book.{Book}
use Rattle.book.specs.Asked.{held_asked}
use Rattle.entering.specs.Run.{words_left}
use Rattle.arrivals.specs.Run.{word, frame, entries_of}
use Rattle.arrivals.proofs.Runs.{held_after_arrivals, votes-after_arrivals}
use Rattle.books.specs.Books.{book_words, books_words, book_from}
use Rattle.books.specs.Run.{Act, opens, enters, refills, long_left, book_left, Mixed, open_called, own_of}
use Rattle.books.proofs.Parts.{from_sized, good_has}
use Rattle.books.proofs.Runs.{other-part, own_book, mixed_run}
use Rattle.books.proofs.open.Kinds as opens_book
use Rattle.books.proofs.open.Reads as opens_book_says
use Rattle.books.proofs.enter.Kinds as enter
use Rattle.books.proofs.enter.Reads as enter_says
use Rattle.books.proofs.refill.Kinds as refill
use Rattle.books.proofs.refill.Reads as refill_says
use Rattle.books.proofs.enter_frame.Kinds as enter_frame
use Rattle.books.proofs.enter_frame.Reads as enter_frame_says
use Rattle.omh.proofs.omh_books_open.Kinds as c_open
use Rattle.omh.proofs.omh_books_open.Reads as c_open_says
use Rattle.omh.proofs.omh_books_enter.Kinds as c_enter
use Rattle.omh.proofs.omh_books_enter.Reads as c_enter_says
use Rattle.omh.proofs.omh_books_refill.Kinds as c_refill
use Rattle.omh.proofs.omh_books_refill.Reads as c_refill_says
use Rattle.omh.proofs.omh_books_enter_frame.Kinds as c_frame
use Rattle.omh.proofs.omh_books_enter_frame.Reads as c_frame_says

-- what a call leaves
abbrev what_left : {A : Type 0} {o p : Outcome A (List ℤ)} → o ≡ p → o.leaves ≡ p.leaves
what_left {A} e = ap (λ (o : Outcome A (List ℤ)). o.leaves) e

-- ---- what the contracts say of a call: the whole long list that it leaves

pub open_leaves : Allows 1 opens_book.ps opens_book.r opens_book_says.Post (λ κs a x e. e.1.0.now ≡ long_left a.0 a.1.0.now opens)
open_leaves κs a x e p = what_left p

pub enter_leaves : Allows 1 enter.ps enter.r enter_says.Post (λ κs a x e. e.1.0.now ≡ long_left a.0 a.1.0.now (enters (word (record { slot = a.1.1.0; word = a.1.1.1.0 }))))
enter_leaves κs a x e p = what_left p

pub refill_leaves : Allows 1 refill.ps refill.r refill_says.Post (λ κs a x e. e.1.0.now ≡ long_left a.0 a.1.0.now refills)
refill_leaves κs a x e p = what_left p

pub frame-leaves : Allows 2 enter_frame.ps enter_frame.r enter_frame_says.Post (λ κs a x e. e.1.0.now ≡ long_left a.0 a.1.0.now (enters (frame a.1.1.0 a.1.1.1.0.now)))
frame-leaves κs a x e p = what_left p

-- and so what C gets
pub c_open_leaves : Allows 1 c_open.ps c_open.r c_open_says.Post (λ κs a x e. e.1.1.1.1.0.now ≡ long_left (settings a.0 a.1.0 a.1.1.0 a.1.1.1.0) a.1.1.1.1.0.now opens)
c_open_leaves κs a x e p = what_left p

pub c_enter_leaves : Allows 1 c_enter.ps c_enter.r c_enter_says.Post (λ κs a x e. e.1.1.1.1.0.now ≡ long_left (settings a.0 a.1.0 a.1.1.0 a.1.1.1.0) a.1.1.1.1.0.now (enters (word (record { slot = a.1.1.1.1.1.0; word = a.1.1.1.1.1.1.0 }))))
c_enter_leaves κs a x e p = what_left p

pub c_refill_leaves : Allows 1 c_refill.ps c_refill.r c_refill_says.Post (λ κs a x e. e.1.1.1.1.0.now ≡ long_left (settings a.0 a.1.0 a.1.1.0 a.1.1.1.0) a.1.1.1.1.0.now refills)
c_refill_leaves κs a x e p = what_left p

pub c_frame-leaves : Allows 2 c_frame.ps c_frame.r c_frame_says.Post (λ κs a x e. e.1.1.1.1.0.now ≡ long_left (settings a.0 a.1.0 a.1.1.0 a.1.1.1.0) a.1.1.1.1.0.now (enters (frame a.1.1.1.1.1.0 a.1.1.1.1.1.1.0.now)))
c_frame-leaves κs a x e p = what_left p

-- ---- what a run of calls for all senders leaves

pub record Demand3Books : Type 0 where
  -- A call for one sender, of any kind, by any settings and on any list, changes no other sender's part.
  pub others : (s : Settings) (l : List ℤ) (a : Act) (u : ℕ) → u ≢ s.t → part book_words u (long_left s l a) ≡ part book_words u l
  -- With settings that are not refused it leaves of its sender's book what the same call leaves of a book by itself.
  pub own : (s : Settings) → verdict (settings_checks s) ≡ 0 → (l : List ℤ) → length l ≡ books_words → (a : Act) → book_from s.t (long_left s l a) ≡ book_left s (book_from s.t l) a
  -- After `open` for t, and then in any order words and frames for t, refused ones and second words among them, its votes made again, and whatever is called for other senders: t's held answer is the answer worked out afresh from what t's accepted words leave,
  pub held : (s : Settings) → verdict (settings_checks s) ≡ 0 → (l : List ℤ) → length l ≡ books_words → (xs : List (Mixed s)) → held_asked (book_from s.t (open_called s l xs)) ≡ value (vote (rule_of s.rack) s (words_left s (entries_of s (own_of s xs))) 0)
  -- and so is every live held vote of t's book.
  pub held_votes : (s : Settings) → verdict (settings_checks s) ≡ 0 → (l : List ℤ) → length l ≡ books_words → (xs : List (Mixed s)) (k : ℕ) → T (live s k) → at (book_from s.t (open_called s l xs)).votes k ≡ vote (rule_of s.rack) s (words_left s (entries_of s (own_of s xs))) k

pub demand_3_books : Demand3Books
demand_3_books = record {
  others = other-part;
  own = λ s good l long. own_book s l (good_has s l good long);
  held = λ s good l long xs. ap held_asked (mixed_run s good l long xs) ∙ held_after_arrivals s good (book_from s.t l) (from_sized (good_has s l good long)) (own_of s xs);
  held_votes = λ s good l long xs k t.
      ap (λ (b : Book). at b.votes k) (mixed_run s good l long xs) ∙ votes-after_arrivals s good (book_from s.t l) (from_sized (good_has s l good long)) (own_of s xs) k t;
}

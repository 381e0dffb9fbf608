-- Demand 3: words reach a card one at a time. First what each function's contract says of a call, then what a run of such calls leaves.
use Prim.Native.Nat.{ℕ}
use mathlib.Core.Path.{◌≡◌, sym, ap, ◌∙◌}
use mathlib.Core.Logic.{◌≢◌}
use mathlib.Core.List.{List, Memᴰ}
use lib.Dec.{T}
use lib.IntN.{ℤ}
use Rattle.ground.specs.Checks.{verdict}
use Rattle.ground.specs.Answer.{value, Outcome, outcome, of_result}
use Rattle.ground.specs.Fixes.{Allows}
use Rattle.ground.specs.Lists.{at}
use Rattle.words.specs.Word.{E}
use Rattle.settings.specs.Settings.{settings_checks}
use Rattle.settings.specs.Asked.{settings}
use Rattle.settings.specs.declared.Settings.{Settings}
use Rattle.paths.specs.Slots.{way, live}
use Rattle.vote.specs.Vote.{rule_of, vote}
use Rattle.book.specs.Book.{Book, book_of, Sized}
use Rattle.book.specs.Asked.{open_asked, held_asked}
use Rattle.entering.specs.Run.{left_at, words_left}
use Rattle.entering.specs.declared.Entry.{Entry}
use Rattle.entering.specs.Accepted.{accepted_at, leaves}
use Rattle.entering.specs.Asked.{enter_asked}
use Rattle.entering.proofs.Holding.{left_agreed}
use Rattle.entering.proofs.OnlyLive.{Alike, entering_yields}
use Rattle.refilling.specs.Refilled.{refill_asked}
use Rattle.arrivals.specs.Run.{Arrival, word, frame, entry_of, entries_of, left_by, open_arrived}
use Rattle.arrivals.proofs.Runs.{held_after_arrivals, votes-after_arrivals}
use Rattle.omh.specs.Numbers.{numbered, placed}
use Rattle.demands.proofs.Runs.{one_word_left, on_the_way_left, alike_left, refilled_afresh}
use Rattle.book.proofs.open.Kinds as opens
use Rattle.book.proofs.open.Reads as opens_says
use Rattle.book.proofs.held_answer.Kinds as held_answer
use Rattle.book.proofs.held_answer.Reads as held_answer_says
use Rattle.entering.proofs.enter.Kinds as enter
use Rattle.entering.proofs.enter.Reads as enter_says
use Rattle.refilling.proofs.refill.Kinds as refill
use Rattle.refilling.proofs.refill.Reads as refill_says
use Rattle.arrivals.proofs.enter.Kinds as enter_frame
use Rattle.arrivals.proofs.enter.Reads as enter_frame_says
use Rattle.omh.proofs.omh_open.Kinds as c_open
use Rattle.omh.proofs.omh_open.Reads as c_open_says
use Rattle.omh.proofs.omh_held_answer.Kinds as c_held
use Rattle.omh.proofs.omh_held_answer.Reads as c_held_says
use Rattle.omh.proofs.omh_enter.Kinds as c_enter
use Rattle.omh.proofs.omh_enter.Reads as c_enter_says
use Rattle.omh.proofs.omh_refill.Kinds as c_refill
use Rattle.omh.proofs.omh_refill.Reads as c_refill_says
use Rattle.omh.proofs.omh_enter_frame.Kinds as c_enter_frame
use Rattle.omh.proofs.omh_enter_frame.Reads as c_enter_frame_says

-- what a call leaves, and what it yields
abbrev what_left : {A : Type 0} {o p : Outcome A Book} → o ≡ p → o.leaves ≡ p.leaves
what_left {A} e = ap (λ (o : Outcome A Book). o.leaves) e

-- ---- what the contracts say of a call

-- `open`, `enter`, `refill` and a frame entered leave, and `held_answer` tells, what the definitions give, for any arguments
pub open_leaves : Allows 2 opens.ps opens.r opens_says.Post (λ κs a x e. (book_of e.1.0.now e.1.1.0.now) ≡ (open_asked a.0 (book_of a.1.0.now a.1.1.0.now)).leaves)
open_leaves κs a x e p = what_left p

pub enter_leaves : Allows 2 enter.ps enter.r enter_says.Post (λ κs a x e. (book_of e.1.0.now e.1.1.0.now) ≡ left_by a.0 (book_of a.1.0.now a.1.1.0.now) (word (record { slot = a.1.1.1.0; word = a.1.1.1.1.0 })))
enter_leaves κs a x e p = what_left p

pub frame-leaves : Allows 3 enter_frame.ps enter_frame.r enter_frame_says.Post (λ κs a x e. (book_of e.1.0.now e.1.1.0.now) ≡ left_by a.0 (book_of a.1.0.now a.1.1.0.now) (frame a.1.1.1.0 a.1.1.1.1.0.now))
frame-leaves κs a x e p = what_left p

pub refill_leaves : Allows 2 refill.ps refill.r refill_says.Post (λ κs a x e. outcome (of_result x) (book_of a.1.0.now e.1.1.0.now) ≡ refill_asked a.0 (book_of a.1.0.now a.1.1.0.now))
refill_leaves κs a x e p = p

pub held_tells : Allows 2 held_answer.ps held_answer.r held_answer_says.Post (λ κs a x e. of_result x ≡ held_asked (book_of a.0.now a.1.0.now))
held_tells κs a x e p = p

-- and so what C gets
pub c_open_leaves : Allows 2 c_open.ps c_open.r c_open_says.Post (λ κs a x e. (book_of e.1.1.1.1.0.now e.1.1.1.1.1.0.now) ≡ (open_asked (settings a.0 a.1.0 a.1.1.0 a.1.1.1.0) (book_of a.1.1.1.1.0.now a.1.1.1.1.1.0.now)).leaves)
c_open_leaves κs a x e p = what_left p

pub c_enter_leaves : Allows 2 c_enter.ps c_enter.r c_enter_says.Post (λ κs a x e. (book_of e.1.1.1.1.0.now e.1.1.1.1.1.0.now) ≡ left_by (settings a.0 a.1.0 a.1.1.0 a.1.1.1.0) (book_of a.1.1.1.1.0.now a.1.1.1.1.1.0.now) (word (record { slot = a.1.1.1.1.1.1.0; word = a.1.1.1.1.1.1.1.0 })))
c_enter_leaves κs a x e p = what_left p

pub c_frame-leaves : Allows 3 c_enter_frame.ps c_enter_frame.r c_enter_frame_says.Post (λ κs a x e. (book_of e.1.1.1.1.0.now e.1.1.1.1.1.0.now) ≡ left_by (settings a.0 a.1.0 a.1.1.0 a.1.1.1.0) (book_of a.1.1.1.1.0.now a.1.1.1.1.1.0.now) (frame a.1.1.1.1.1.1.0 a.1.1.1.1.1.1.1.0.now))
c_frame-leaves κs a x e p = what_left p

pub c_refill_leaves : Allows 2 c_refill.ps c_refill.r c_refill_says.Post (λ κs a x e. outcome x (book_of a.1.1.1.1.0.now e.1.1.1.1.1.0.now) ≡ numbered (refill_asked (settings a.0 a.1.0 a.1.1.0 a.1.1.1.0) (book_of a.1.1.1.1.0.now a.1.1.1.1.1.0.now)))
c_refill_leaves κs a x e p = p

pub c_held_tells : Allows 3 c_held.ps c_held.r c_held_says.Post (λ κs a x e. outcome x e.1.1.0.now ≡ placed (held_asked (book_of a.0.now a.1.0.now)) a.1.1.0.now)
c_held_tells κs a x e p = p

-- ---- what a run of calls leaves

-- settings that are not refused, kept; xs are words and frames in the order of their calls, refused ones and second words for one path among them
pub record Demand3 (s : Settings) : Type 0 where
  -- After `open`, on any book of the right length, and such a run, the held answer is the answer worked out afresh from what each path's accepted words leave by the rule of document 02's Q-2, a path with none counting as missing;
  pub held : (b : Book) → Sized b → (xs : List Arrival) → held_asked (open_arrived s b xs) ≡ value (vote (rule_of s.rack) s (words_left s (entries_of s xs)) 0)
  -- and so is every live held vote.
  pub held_votes : (b : Book) → Sized b → (xs : List Arrival) (k : ℕ) → T (live s k) → at (open_arrived s b xs).votes k ≡ vote (rule_of s.rack) s (words_left s (entries_of s xs)) k
  -- That rule, followed word by word, comes to this, over the words accepted on a path: the leading E left out, E where none is left, the word where all are the same, else 1,000,000,009.
  pub by_rule : (es : List Entry) (k : ℕ) → left_at s k es E ≡ leaves (accepted_at s k es)
  -- An entering, of a word or a frame and into any book, alters one stored word at most,
  pub one_word : (b : Book) (x : Arrival) (j : ℕ) → j ≢ (entry_of x).slot → at (left_by s b x).words j ≡ at b.words j
  -- and no held votes but those on the way from that path up to the sender.
  pub on_the_way : (b : Book) (x : Arrival) (j : ℕ) → (Memᴰ j (way (entry_of x).slot) → ⊥) → at (left_by s b x).votes j ≡ at b.votes j
  -- Refilling makes every live vote right, from any votes.
  pub refilled : (b : Book) → (refill_asked s b).yields ≡ value tt → (k : ℕ) → T (live s k) → at (refill_asked s b).leaves.votes k ≡ vote (rule_of s.rack) s b.words k
  -- Words and votes at slots that are not live change no refusal, and nothing at the live ones.
  pub same_refusals : (b c : Book) → Sized b → Sized c → (k : ℕ) (w : ℤ) → (enter_asked s b k w).yields ≡ (enter_asked s c k w).yields
  pub only_live : (b c : Book) → Sized b → Sized c → Alike s b c → (x : Arrival) → Alike s (left_by s b x) (left_by s c x)

pub demand_3 : (s : Settings) → verdict (settings_checks s) ≡ 0 → Demand3 s
demand_3 s good = record {
  held = λ b z xs. held_after_arrivals s good b z xs;
  held_votes = λ b z xs. votes-after_arrivals s good b z xs;
  by_rule = λ es k. left_agreed s k es;
  one_word = λ b x j. one_word_left s b j x;
  on_the_way = λ b x j. on_the_way_left s b j x;
  refilled = refilled_afresh s;
  same_refusals = λ b c y z. entering_yields s b c (y.words_long ∙ sym z.words_long) (y.votes_long ∙ sym z.votes_long);
  only_live = alike_left s good;
}

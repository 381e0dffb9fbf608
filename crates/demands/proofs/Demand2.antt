-- Demand 2: a card's answer is OMH's, and frames carry records. First what each function's contract says of a call, then what good cards answer, and hold, whatever the faulty ones say; last what a frame written reads to.
use Prim.Native.Nat.{ℕ, ◌+◌, ◌*◌, ◌≤◌, ◌<◌}
use mathlib.Core.Path.{◌≡◌}
use mathlib.Core.Bool.{Bool, true}
use mathlib.Core.List.{List}
use mathlib.Core.Logic.{◌↔◌}
use lib.Dec.{T}
use lib.IntN.{ℤ}
use lib.ListN.{length}
use Rattle.ground.specs.Answer.{value, refused, outcome, of_result}
use Rattle.ground.specs.Bytes.{AllBytes}
use Rattle.ground.specs.Fixes.{Allows}
use Rattle.ground.specs.Lists.{at}
use Rattle.words.specs.Word.{E, read_at}
use Rattle.settings.specs.Settings.{slots}
use Rattle.settings.specs.Asked.{settings}
use Rattle.settings.specs.declared.Turn.{Turn}
use Rattle.paths.specs.Slots.{live}
use Rattle.vote.specs.Asked.{vote_asked}
use Rattle.vote.specs.Vote.{rule_of}
use Rattle.book.specs.Book.{Book, book_of, held, Sized}
use Rattle.book.specs.Asked.{held_asked}
use Rattle.entering.specs.Run.{left_at}
use Rattle.frames.specs.Frame.{InRange}
use Rattle.frames.specs.Asked.{read_asked, write_asked}
use Rattle.frames.specs.declared.Frame.{Frame}
use Rattle.frames.proofs.Round as round
use Rattle.arrivals.specs.Run.{Arrival, entries_of, open_arrived}
use Rattle.exchange.specs.declared.Status.TheVariants.{Good, Symmetric, Manifest}
use Rattle.exchange.specs.Exchange.{statuses_of, exchange, dealt}
use Rattle.bench.specs.Asked.{answer_for_asked, answers_asked}
use Rattle.dealing.specs.Asked.{fill_asked}
use Rattle.bound.specs.Bound.{bound_asked}
use Rattle.agreement.proofs.Demand2.{n, m, a, s, c}
use Rattle.omh.specs.Numbers as numbers
use Rattle.omh.specs.Numbers.{rack, frame_with, numbered, placed, placed_as, bit, fields_of}
use Rattle.demands.proofs.Cards.{card_of, Tells, tells_value, tells_read, tells_missing, tell_same, bound_is, all_tell, filled_tells, votes-answer, holds-answer}
use Rattle.vote.proofs.vote_at.Kinds as vote_at
use Rattle.vote.proofs.vote_at.Reads as vote_at_says
use Rattle.frames.proofs.read.Kinds as read
use Rattle.frames.proofs.read.Reads as read_says
use Rattle.frames.proofs.write.Kinds as write
use Rattle.frames.proofs.write.Reads as write_says
use Rattle.bench.proofs.answer_for.Kinds as answer-for
use Rattle.bench.proofs.answer_for.Reads as answer_for_says
use Rattle.bench.proofs.all_answers.Kinds as all_answers
use Rattle.bench.proofs.all_answers.Reads as all_answers_says
use Rattle.dealing.proofs.fill.Kinds as fill
use Rattle.dealing.proofs.fill.Reads as fill_says
use Rattle.bound.proofs.bound.Kinds as bound
use Rattle.bound.proofs.bound.Reads as bound_says
use Rattle.omh.proofs.omh_vote_at.Kinds as c_vote_at
use Rattle.omh.proofs.omh_vote_at.Reads as c_vote_at_says
use Rattle.omh.proofs.omh_read_frame.Kinds as c_read_frame
use Rattle.omh.proofs.omh_read_frame.Reads as c_read_frame_says
use Rattle.omh.proofs.omh_write_frame.Kinds as c_write_frame
use Rattle.omh.proofs.omh_write_frame.Reads as c_write_frame_says
use Rattle.omh.proofs.omh_answer_for.Kinds as c_answer_for
use Rattle.omh.proofs.omh_answer_for.Reads as c_answer_for_says
use Rattle.omh.proofs.omh_all_answers.Kinds as c_all_answers
use Rattle.omh.proofs.omh_all_answers.Reads as c_all_answers_says
use Rattle.omh.proofs.omh_fill.Kinds as c_fill
use Rattle.omh.proofs.omh_fill.Reads as c_fill_says
use Rattle.omh.proofs.omh_bound.Kinds as c_bound
use Rattle.omh.proofs.omh_bound.Reads as c_bound_says

-- ---- what the contracts say of a call

pub answer_for_tells : Allows 2 answer-for.ps answer-for.r answer_for_says.Post (λ κs a x e. of_result x ≡ answer_for_asked a.0 a.1.0 a.1.1.0.now a.1.1.1.0.now)
answer_for_tells κs a x e p = p

pub all_answers_leaves : Allows 3 all_answers.ps all_answers.r all_answers_says.Post (λ κs a x e. outcome (of_result x) e.1.1.1.1.0.now ≡ answers_asked a.0 a.1.0 a.1.1.0.now a.1.1.1.0.now a.1.1.1.1.0.now)
all_answers_leaves κs a x e p = p

pub fill_leaves : Allows 4 fill.ps fill.r fill_says.Post (λ κs a x e. outcome (of_result x) (book_of e.1.1.1.1.0.now e.1.1.1.1.1.0.now) ≡ fill_asked a.0 a.1.0 a.1.1.0.now a.1.1.1.0.now (book_of a.1.1.1.1.0.now a.1.1.1.1.1.0.now))
fill_leaves κs a x e p = p

pub bound_tells : Allows 1 bound.ps bound.r bound_says.Post (λ κs a x e. of_result x ≡ bound_asked a.0 a.1.0.now)
bound_tells κs a x e p = p

pub vote_at_tells : Allows 1 vote_at.ps vote_at.r vote_at_says.Post (λ κs a x e. of_result x ≡ vote_asked a.0 a.1.0.now a.1.1.0)
vote_at_tells κs a x e p = p

pub read_tells : Allows 1 read.ps read.r read_says.Post (λ κs a x e. of_result x ≡ read_asked a.0.now)
read_tells κs a x e p = p

pub write_leaves : Allows 1 write.ps write.r write_says.Post (λ κs a x e. outcome (of_result x) e.1.0.now ≡ write_asked a.0 a.1.0.now)
write_leaves κs a x e p = p

-- and so what C gets
pub c_vote_at_tells : Allows 2 c_vote_at.ps c_vote_at.r c_vote_at_says.Post (λ κs a x e. outcome x e.1.1.1.1.1.1.0.now ≡ placed (vote_asked (settings a.0 a.1.0 a.1.1.0 a.1.1.1.0) a.1.1.1.1.0.now a.1.1.1.1.1.0) a.1.1.1.1.1.1.0.now)
c_vote_at_tells κs a x e p = p

pub c_read-frame-leaves : Allows 2 c_read_frame.ps c_read_frame.r c_read_frame_says.Post (λ κs a x e. outcome x e.1.0.now ≡ placed_as fields_of (read_asked a.0.now) a.1.0.now)
c_read-frame-leaves κs a x e p = p

pub c_write_frame-leaves : Allows 1 c_write_frame.ps c_write_frame.r c_write_frame_says.Post (λ κs a x e. outcome x e.1.1.1.1.1.1.1.1.0.now ≡ numbered (write_asked (frame_with a.0 a.1.0 a.1.1.0 a.1.1.1.0 a.1.1.1.1.0 a.1.1.1.1.1.0 a.1.1.1.1.1.1.0 a.1.1.1.1.1.1.1.0) a.1.1.1.1.1.1.1.1.0.now))
c_write_frame-leaves κs a x e p = p

pub c_answer_for_tells : Allows 3 c_answer_for.ps c_answer_for.r c_answer_for_says.Post (λ κs a x e. outcome x e.1.1.1.1.1.1.1.0.now ≡ placed (answer_for_asked (settings a.0 a.1.0 a.1.1.0 a.1.1.1.1.1.1.0) a.1.1.1.0 a.1.1.1.1.0.now a.1.1.1.1.1.0.now) a.1.1.1.1.1.1.1.0.now)
c_answer_for_tells κs a x e p = p

pub c_all_answers_leaves : Allows 3 c_all_answers.ps c_all_answers.r c_all_answers_says.Post (λ κs a x e. outcome x e.1.1.1.1.1.1.0.now ≡ numbered (answers_asked (numbers.turn a.0 a.1.0 a.1.1.0) a.1.1.1.0 a.1.1.1.1.0.now a.1.1.1.1.1.0.now a.1.1.1.1.1.1.0.now))
c_all_answers_leaves κs a x e p = p

pub c_fill_leaves : Allows 4 c_fill.ps c_fill.r c_fill_says.Post (λ κs a x e. outcome x (book_of e.1.1.1.1.1.1.1.0.now e.1.1.1.1.1.1.1.1.0.now) ≡ numbered (fill_asked (settings a.0 a.1.0 a.1.1.0 a.1.1.1.1.1.1.0) a.1.1.1.0 a.1.1.1.1.0.now a.1.1.1.1.1.0.now (book_of a.1.1.1.1.1.1.1.0.now a.1.1.1.1.1.1.1.1.0.now)))
c_fill_leaves κs a x e p = p

pub c_bound_tells : Allows 2 c_bound.ps c_bound.r c_bound_says.Post (λ κs a x e. outcome x e.1.1.1.0.now ≡ placed_as bit (bound_asked (rack a.0 a.1.0) a.1.1.0.now) a.1.1.1.0.now)
c_bound_tells κs a x e p = p

-- ---- what good cards answer

-- a turn, the sender's value, status bytes and any table: any words of the faulty cards. `Tells .. p w`: card p is good, and `answer_for` tells w of it.
pub record Demand2 (turn : Turn) (x : ℤ) (statuses : List ℕ) (words : List ℤ) : Type 0 where
  -- The bound test, where it is not refused, says yes exactly if n > 2a + 2s + c + m and a is at most m.
  pub bound_says : let X = exchange turn x statuses words in (b : Bool) → bound_asked turn.rack statuses ≡ value b → (b ≡ true) ↔ ((2 * a X + 2 * s X + c X + m X < n X) × (a X ≤ m X))
  -- Where n > 2a + 2s + c + m, a good card answers a good sender's value,
  pub sender_good : let X = exchange turn x statuses words in 2 * a X + 2 * s X + c X + m X < n X → statuses_of statuses turn.t ≡ Good → (p : ℕ) (w : ℤ) → Tells turn x statuses words p w → w ≡ x
  -- a symmetric sender's word as read,
  pub sender_symmetric : let X = exchange turn x statuses words in 2 * a X + 2 * s X + c X + m X < n X → statuses_of statuses turn.t ≡ Symmetric → (p : ℕ) (w : ℤ) → Tells turn x statuses words p w → w ≡ read_at 0 (at words 0)
  -- and E for a manifest one.
  pub sender_manifest : let X = exchange turn x statuses words in 2 * a X + 2 * s X + c X + m X < n X → statuses_of statuses turn.t ≡ Manifest → (p : ℕ) (w : ℤ) → Tells turn x statuses words p w → w ≡ E
  -- If also a is at most m, any two good cards give the same answer.
  pub agree : let X = exchange turn x statuses words in 2 * a X + 2 * s X + c X + m X < n X → a X ≤ m X → (p q : ℕ) (w v : ℤ) → Tells turn x statuses words p w → Tells turn x statuses words q v → w ≡ v
  -- All answers, where they are not refused, have each card's in its place,
  pub all_answers : (list : List ℤ) → (answers_asked turn x statuses words list).yields ≡ value tt → (p : ℕ) (w : ℤ) → Tells turn x statuses words p w → at (answers_asked turn x statuses words list).leaves p ≡ w
  -- a book filled for a card holds that card's answer,
  pub filled : (p : ℕ) (w : ℤ) → Tells turn x statuses words p w → (b : Book) → (fill_asked (card_of turn p) x statuses words b).yields ≡ value tt → held (fill_asked (card_of turn p) x statuses words b).leaves ≡ w
  -- the plain vote over a list of words yields it where each live path has the word dealt to the card there,
  pub voted : (p : ℕ) (w : ℤ) → Tells turn x statuses words p w → (ws : List ℤ) → length ws ≡ slots → ((k : ℕ) → T (live (card_of turn p) k) → at ws k ≡ dealt (rule_of turn.rack) (exchange turn x statuses words) k p) → vote_asked (card_of turn p) ws 0 ≡ value w
  -- and so does the card's own book, opened, after any run of words and frames whose accepted words leave on each live path the word dealt to the card there: in any order, refused and repeated ones among them.
  pub own_book : (p : ℕ) (w : ℤ) → Tells turn x statuses words p w → (b : Book) → Sized b → (xs : List Arrival) → ((k : ℕ) → T (live (card_of turn p) k) → left_at (card_of turn p) k (entries_of (card_of turn p) xs) E ≡ dealt (rule_of turn.rack) (exchange turn x statuses words) k p) → held_asked (open_arrived (card_of turn p) b xs) ≡ value w

pub demand_2 : (turn : Turn) (x : ℤ) (statuses : List ℕ) (words : List ℤ) → Demand2 turn x statuses words
demand_2 turn x statuses words = record {
  bound_says = bound_is turn x statuses words;
  sender_good = λ e q p w t. tells_value turn x statuses words t e q;
  sender_symmetric = λ e q p w t. tells_read turn x statuses words t e q;
  sender_manifest = λ e q p w t. tells_missing turn x statuses words t e q;
  agree = λ e f p q w v t u. tell_same turn x statuses words e f t u;
  all_answers = λ list d p w t. all_tell turn x statuses words t list d;
  filled = λ p w t b d. filled_tells turn x statuses words t b d;
  voted = λ p w t ws z h. votes-answer turn x statuses words t ws z h;
  own_book = λ p w t b z xs h. holds-answer turn x statuses words t b z xs h;
}

-- ---- frames

pub record Demand2Frames : Type 0 where
  -- What a writing that is done leaves reads back to the record.
  pub reads_back : (f : Frame) → InRange f → (buffer : List ℕ) → (write_asked f buffer).yields ≡ value tt → read_asked (write_asked f buffer).leaves ≡ value f
  -- Each record has one frame.
  pub one_frame : (l m : List ℕ) → AllBytes l → AllBytes m → (f : Frame) → read_asked l ≡ value f → read_asked m ≡ value f → l ≡ m
  -- The writer refuses what the reader would refuse: a record that no bytes read to.
  pub writer_refuses : (f : Frame) (buffer : List ℕ) → InRange f → length buffer ≡ 17 → ((write_asked f buffer).yields ≡ refused 14) ↔ ((l : List ℕ) → AllBytes l → read_asked l ≡ value f → ⊥)

pub demand_2_frames : Demand2Frames
demand_2_frames = record { reads_back = round.written_reads; one_frame = round.one_frame; writer_refuses = round.refused_unread }

-- Demand 1: bad input gets the refusal number of document 01's table, by the stated order of checks (`Orders.antt`); no refusal is given on other grounds; a refusal changes nothing that is lent. A theorem to an entry point, of every call that its contract allows: argument i is `a` with i times `.1` and then `.0`, and a lent list at exit the same of `s`.
use Rattle.ground.specs.Answer.{refusal_of, of_result}
use Rattle.ground.specs.Fixes.{Allows}
use Rattle.settings.specs.Settings.{rack_checks, turn_checks, settings_checks}
use Rattle.settings.specs.Asked.{settings}
use Rattle.paths.specs.Asked.{path_checks, slot_asked, above_checks, above_asked, live_asked}
use Rattle.vote.specs.Asked as vote
use Rattle.vote.specs.Asked.{words_checks, vote_checks, vote_asked}
use Rattle.book.specs.Book.{book_of, halves}
use Rattle.book.specs.Asked.{book_checks, slot_checks, held_checks}
use Rattle.frames.specs.Asked.{read_checks, read_asked, write_checks, write_asked}
use Rattle.arrivals.specs.Entry.{frame_checks, entry_checks, entry_asked, arrival_asked, arrival_checks, frame_asked}
use Rattle.books.specs.Books.{books_checks, books_slot_checks}
use Rattle.books.specs.Asked.{books_open_asked, books_enter_asked, books_refill_asked, books_frame_checks, books_frame_asked}
use Rattle.exchange.specs.Asked.{status_checks, value_checks}
use Rattle.bench.specs.Asked as bench
use Rattle.bench.specs.Asked.{answer_checks, answers_checks, answers_asked}
use Rattle.outcomes.specs.Asked.{row_checks, row_asked, start_checks, start_asked, list_checks, list_asked}
use Rattle.dealing.specs.Asked.{word_checks, word_asked, fill_checks, fill_asked}
use Rattle.bound.specs.Bound.{bound_checks, bound_asked}
use Rattle.files.specs.File.{file_checks, file_asked}
use Rattle.demands.specs.Refusing.{Refuses, Numbers, Judged, Counted}
use Rattle.demands.proofs.Order.{by_answer, by_outcome, by_part, by_state, by_verdict}
use Rattle.settings.proofs.Settings.new.Kinds as new
use Rattle.settings.proofs.Settings.new.Reads as new_says
use Rattle.paths.proofs.slot_of.Kinds as slot_of
use Rattle.paths.proofs.slot_of.Reads as slot_of_says
use Rattle.paths.proofs.slot_above.Kinds as slot_above
use Rattle.paths.proofs.slot_above.Reads as slot_above_says
use Rattle.paths.proofs.is_live.Kinds as is_live
use Rattle.paths.proofs.is_live.Reads as is_live_says
use Rattle.vote.proofs.vote_at.Kinds as vote_at
use Rattle.vote.proofs.vote_at.Reads as vote_at_says
use Rattle.vote.proofs.answer.Kinds as answer
use Rattle.vote.proofs.answer.Reads as answer_says
use Rattle.book.proofs.open.Kinds as opening
use Rattle.book.proofs.open.Reads as opening_says
use Rattle.entering.proofs.enter.Kinds as enter
use Rattle.entering.proofs.enter.Reads as enter_says
use Rattle.refilling.proofs.refill.Kinds as refill
use Rattle.refilling.proofs.refill.Reads as refill_says
use Rattle.book.proofs.open_part.Kinds as open_part
use Rattle.book.proofs.open_part.Reads as open_part_says
use Rattle.entering.proofs.enter_part.Kinds as enter_part
use Rattle.entering.proofs.enter_part.Reads as enter_part_says
use Rattle.refilling.proofs.refill_part.Kinds as refill_part
use Rattle.refilling.proofs.refill_part.Reads as refill_part_says
use Rattle.book.proofs.held_answer.Kinds as held_answer
use Rattle.book.proofs.held_answer.Reads as held_answer_says
use Rattle.books.proofs.open.Kinds as books_open
use Rattle.books.proofs.open.Reads as books_open_says
use Rattle.books.proofs.enter.Kinds as books_enter
use Rattle.books.proofs.enter.Reads as books_enter_says
use Rattle.books.proofs.refill.Kinds as books_refill
use Rattle.books.proofs.refill.Reads as books_refill_says
use Rattle.frames.proofs.read.Kinds as read
use Rattle.frames.proofs.read.Reads as read_says
use Rattle.frames.proofs.write.Kinds as write
use Rattle.frames.proofs.write.Reads as write_says
use Rattle.arrivals.proofs.enter.Kinds as enter_frame
use Rattle.arrivals.proofs.enter.Reads as enter_frame_says
use Rattle.arrivals.proofs.entry_of.Kinds as entry_of
use Rattle.arrivals.proofs.entry_of.Reads as entry_of_says
use Rattle.arrivals.proofs.arrival.Kinds as arrival
use Rattle.arrivals.proofs.arrival.Reads as arrival_says
use Rattle.books.proofs.enter_frame.Kinds as books_enter_frame
use Rattle.books.proofs.enter_frame.Reads as books_enter_frame_says
use Rattle.dealing.proofs.word_for.Kinds as word_for
use Rattle.dealing.proofs.word_for.Reads as word_for_says
use Rattle.bench.proofs.answer_for.Kinds as answer_for
use Rattle.bench.proofs.answer_for.Reads as answer_for_says
use Rattle.bench.proofs.all_answers.Kinds as all_answers
use Rattle.bench.proofs.all_answers.Reads as all_answers_says
use Rattle.dealing.proofs.fill.Kinds as fill
use Rattle.dealing.proofs.fill.Reads as fill_says
use Rattle.bound.proofs.bound.Kinds as bound
use Rattle.bound.proofs.bound.Reads as bound_says
use Rattle.outcomes.proofs.set_row.Kinds as set_row
use Rattle.outcomes.proofs.set_row.Reads as set_row_says
use Rattle.outcomes.proofs.start_list.Kinds as start_list
use Rattle.outcomes.proofs.start_list.Reads as start_list_says
use Rattle.outcomes.proofs.set_in_list.Kinds as set_in_list
use Rattle.outcomes.proofs.set_in_list.Reads as set_in_list_says
use Rattle.files.proofs.read.Kinds as read_file
use Rattle.files.proofs.read.Reads as read_file_says
use Rattle.settings.proofs.rack_refused.Kinds as rack_refused
use Rattle.settings.proofs.rack_refused.Reads as rack_refused_says
use Rattle.settings.proofs.turn_refused.Kinds as turn_refused
use Rattle.settings.proofs.turn_refused.Reads as turn_refused_says
use Rattle.settings.proofs.settings_refused.Kinds as settings_refused
use Rattle.settings.proofs.settings_refused.Reads as settings_refused_says
use Rattle.book.proofs.book_refused.Kinds as book_refused
use Rattle.book.proofs.book_refused.Reads as book_refused_says
use Rattle.book.proofs.part_refused.Kinds as part_refused
use Rattle.book.proofs.part_refused.Reads as part_refused_says
use Rattle.books.proofs.books_refused.Kinds as books_refused
use Rattle.books.proofs.books_refused.Reads as books_refused_says
use Rattle.frames.proofs.refused.Kinds as bytes_refused
use Rattle.frames.proofs.refused.Reads as bytes_refused_says
use Rattle.exchange.proofs.statuses_refused.Kinds as statuses_refused
use Rattle.exchange.proofs.statuses_refused.Reads as statuses_refused_says
use Rattle.exchange.proofs.values_refused.Kinds as values_refused
use Rattle.exchange.proofs.values_refused.Reads as values_refused_says

-- ---- settings and paths

pub new_refuses : Allows 0 new.ps new.r new_says.Post (λ κs a x s. Judged (settings_checks (settings a.0 a.1.0 a.1.1.0 a.1.1.1.0)) (of_result x))
new_refuses κs a x s p = by_answer _ _ p

pub slot_of_refuses : Allows 0 slot_of.ps slot_of.r slot_of_says.Post (λ κs a x s. Judged (path_checks a.0 a.1.0 a.1.1.0 a.1.1.1.0) (of_result x))
unfolding slot_asked
slot_of_refuses κs a x s p = by_answer _ _ p

pub slot_above_refuses : Allows 0 slot_above.ps slot_above.r slot_above_says.Post (λ κs a x s. Judged (above_checks a.0) (of_result x))
unfolding above_asked
slot_above_refuses κs a x s p = by_answer _ _ p

pub is_live_refuses : Allows 0 is_live.ps is_live.r is_live_says.Post (λ κs a x s. Judged (settings_checks a.0) (of_result x))
unfolding live_asked
is_live_refuses κs a x s p = by_answer _ _ p

-- ---- the vote

pub vote_at_refuses : Allows 1 vote_at.ps vote_at.r vote_at_says.Post (λ κs a x s. Judged (vote_checks a.0 a.1.0.now a.1.1.0) (of_result x))
unfolding vote_asked
vote_at_refuses κs a x s p = by_answer _ _ p

pub answer_refuses : Allows 1 answer.ps answer.r answer_says.Post (λ κs a x s. Judged (words_checks a.0 a.1.0.now) (of_result x))
unfolding vote.answer_asked
answer_refuses κs a x s p = by_answer _ _ p

-- ---- the book

pub opening_refuses : Allows 2 opening.ps opening.r opening_says.Post (λ κs a x s. Refuses (book_checks a.0 (book_of a.1.0.now a.1.1.0.now)) (of_result x) (book_of a.1.0.now a.1.1.0.now) (book_of s.1.0.now s.1.1.0.now))
opening_refuses κs a x s p = by_outcome _ _ p

pub enter_refuses : Allows 2 enter.ps enter.r enter_says.Post (λ κs a x s. Refuses (slot_checks a.0 (book_of a.1.0.now a.1.1.0.now) a.1.1.1.0) (of_result x) (book_of a.1.0.now a.1.1.0.now) (book_of s.1.0.now s.1.1.0.now))
enter_refuses κs a x s p = by_outcome _ _ p

-- its words are lent to be read only
pub refill_refuses : Allows 2 refill.ps refill.r refill_says.Post (λ κs a x s. Refuses (book_checks a.0 (book_of a.1.0.now a.1.1.0.now)) (of_result x) (book_of a.1.0.now a.1.1.0.now) (book_of a.1.0.now s.1.1.0.now))
refill_refuses κs a x s p = by_outcome _ _ p

pub held_answer_refuses : Allows 2 held_answer.ps held_answer.r held_answer_says.Post (λ κs a x s. Judged (held_checks (book_of a.0.now a.1.0.now)) (of_result x))
held_answer_refuses κs a x s p = by_answer _ _ p

-- ---- a book in one list

pub open_part_refuses : Allows 1 open_part.ps open_part.r open_part_says.Post (λ κs a x s. Refuses (book_checks a.0 (halves a.1.0.now)) (of_result x) a.1.0.now s.1.0.now)
open_part_refuses κs a x s p = by_part _ _ p

pub enter_part_refuses : Allows 1 enter_part.ps enter_part.r enter_part_says.Post (λ κs a x s. Refuses (slot_checks a.0 (halves a.1.0.now) a.1.1.0) (of_result x) a.1.0.now s.1.0.now)
enter_part_refuses κs a x s p = by_part _ _ p

pub refill_part_refuses : Allows 1 refill_part.ps refill_part.r refill_part_says.Post (λ κs a x s. Refuses (book_checks a.0 (halves a.1.0.now)) (of_result x) a.1.0.now s.1.0.now)
refill_part_refuses κs a x s p = by_part _ _ p

-- ---- the long list

pub books_open_refuses : Allows 1 books_open.ps books_open.r books_open_says.Post (λ κs a x s. Refuses (books_checks a.0 a.1.0.now) (of_result x) a.1.0.now s.1.0.now)
unfolding books_open_asked
books_open_refuses κs a x s p = by_outcome _ _ p

pub books_enter_refuses : Allows 1 books_enter.ps books_enter.r books_enter_says.Post (λ κs a x s. Refuses (books_slot_checks a.0 a.1.0.now a.1.1.0) (of_result x) a.1.0.now s.1.0.now)
unfolding books_enter_asked
books_enter_refuses κs a x s p = by_outcome _ _ p

pub books_refill_refuses : Allows 1 books_refill.ps books_refill.r books_refill_says.Post (λ κs a x s. Refuses (books_checks a.0 a.1.0.now) (of_result x) a.1.0.now s.1.0.now)
unfolding books_refill_asked
books_refill_refuses κs a x s p = by_outcome _ _ p

-- ---- frames

pub read_refuses : Allows 1 read.ps read.r read_says.Post (λ κs a x s. Judged (read_checks a.0.now) (of_result x))
unfolding read_asked
read_refuses κs a x s p = by_answer _ _ p

pub write_refuses : Allows 1 write.ps write.r write_says.Post (λ κs a x s. Refuses (write_checks a.0 a.1.0.now) (of_result x) a.1.0.now s.1.0.now)
unfolding write_asked
write_refuses κs a x s p = by_outcome _ _ p

pub enter_frame_refuses : Allows 3 enter_frame.ps enter_frame.r enter_frame_says.Post (λ κs a x s. Refuses (arrival_checks a.0 (book_of a.1.0.now a.1.1.0.now) a.1.1.1.0 a.1.1.1.1.0.now) (of_result x) (book_of a.1.0.now a.1.1.0.now) (book_of s.1.0.now s.1.1.0.now))
unfolding frame_asked
enter_frame_refuses κs a x s p = by_outcome _ _ p

pub entry_of_refuses : Allows 0 entry_of.ps entry_of.r entry_of_says.Post (λ κs a x s. Judged (entry_checks a.0 a.1.0 a.1.1.0) (of_result x))
unfolding entry_asked
entry_of_refuses κs a x s p = by_answer _ _ p

pub arrival_refuses : Allows 1 arrival.ps arrival.r arrival_says.Post (λ κs a x s. Judged (frame_checks a.0 a.1.0 a.1.1.0.now) (of_result x))
unfolding arrival_asked
arrival_refuses κs a x s p = by_answer _ _ p

pub books_enter_frame_refuses : Allows 2 books_enter_frame.ps books_enter_frame.r books_enter_frame_says.Post (λ κs a x s. Refuses (books_frame_checks a.0 a.1.0.now a.1.1.0 a.1.1.1.0.now) (of_result x) a.1.0.now s.1.0.now)
unfolding books_frame_asked
books_enter_frame_refuses κs a x s p = by_outcome _ _ p

-- ---- the bench

pub word_for_refuses : Allows 2 word_for.ps word_for.r word_for_says.Post (λ κs a x s. Judged (word_checks a.0 a.1.0 a.1.1.0.now a.1.1.1.0.now a.1.1.1.1.0) (of_result x))
unfolding word_asked
word_for_refuses κs a x s p = by_answer _ _ p

pub answer_for_refuses : Allows 2 answer_for.ps answer_for.r answer_for_says.Post (λ κs a x s. Judged (answer_checks a.0 a.1.0 a.1.1.0.now a.1.1.1.0.now) (of_result x))
unfolding bench.answer_for_asked
answer_for_refuses κs a x s p = by_answer _ _ p

pub all_answers_refuses : Allows 3 all_answers.ps all_answers.r all_answers_says.Post (λ κs a x s. Refuses (answers_checks a.0 a.1.0 a.1.1.0.now a.1.1.1.0.now a.1.1.1.1.0.now) (of_result x) a.1.1.1.1.0.now s.1.1.1.1.0.now)
unfolding answers_asked
all_answers_refuses κs a x s p = by_outcome _ _ p

pub fill_refuses : Allows 4 fill.ps fill.r fill_says.Post (λ κs a x s. Refuses (fill_checks a.0 a.1.0 a.1.1.0.now a.1.1.1.0.now (book_of a.1.1.1.1.0.now a.1.1.1.1.1.0.now)) (of_result x) (book_of a.1.1.1.1.0.now a.1.1.1.1.1.0.now) (book_of s.1.1.1.1.0.now s.1.1.1.1.1.0.now))
unfolding fill_asked
fill_refuses κs a x s p = by_outcome _ _ p

pub bound_refuses : Allows 1 bound.ps bound.r bound_says.Post (λ κs a x s. Judged (bound_checks a.0 a.1.0.now) (of_result x))
unfolding bound_asked
bound_refuses κs a x s p = by_answer _ _ p

-- ---- the outcome

-- the number is that of the refusal beside the outcome; and where it is not 0, the outcome yielded is the one handed in
pub set_row_refuses : Allows 2 set_row.ps set_row.r set_row_says.Post (λ κs a x s. Numbers (row_checks a.0 a.1.0 a.1.1.0.now a.1.1.1.0.now) (refusal_of x.1) a.1.1.1.1.0 x.0)
unfolding row_asked
set_row_refuses κs a x s p = by_state _ _ p

pub start_list_refuses : Allows 1 start_list.ps start_list.r start_list_says.Post (λ κs a x s. Refuses (start_checks a.0.now) (of_result x) a.0.now s.0.now)
unfolding start_asked
start_list_refuses κs a x s p = by_outcome _ _ p

pub set_in_list_refuses : Allows 3 set_in_list.ps set_in_list.r set_in_list_says.Post (λ κs a x s. Refuses (list_checks a.0 a.1.0 a.1.1.0.now a.1.1.1.0.now a.1.1.1.1.0.now) (of_result x) a.1.1.1.1.0.now s.1.1.1.1.0.now)
unfolding list_asked
set_in_list_refuses κs a x s p = by_outcome _ _ p

-- ---- listing files

pub read_file_refuses : Allows 1 read_file.ps read_file.r read_file_says.Post (λ κs a x s. Judged (file_checks a.0.now) (of_result x))
unfolding file_asked
read_file_refuses κs a x s p = by_answer _ _ p

-- ---- the refusals themselves

pub rack_refused_refuses : Allows 0 rack_refused.ps rack_refused.r rack_refused_says.Post (λ κs a x s. Counted (rack_checks a.0) (refusal_of x))
rack_refused_refuses κs a x s p = by_verdict _ p

pub turn_refused_refuses : Allows 0 turn_refused.ps turn_refused.r turn_refused_says.Post (λ κs a x s. Counted (turn_checks a.0) (refusal_of x))
turn_refused_refuses κs a x s p = by_verdict _ p

pub settings_refused_refuses : Allows 0 settings_refused.ps settings_refused.r settings_refused_says.Post (λ κs a x s. Counted (settings_checks a.0) (refusal_of x))
settings_refused_refuses κs a x s p = by_verdict _ p

pub book_refused_refuses : Allows 2 book_refused.ps book_refused.r book_refused_says.Post (λ κs a x s. Counted (book_checks a.0 (book_of a.1.0.now a.1.1.0.now)) (refusal_of x))
book_refused_refuses κs a x s p = by_verdict _ p

pub part_refused_refuses : Allows 1 part_refused.ps part_refused.r part_refused_says.Post (λ κs a x s. Counted (book_checks a.0 (halves a.1.0.now)) (refusal_of x))
part_refused_refuses κs a x s p = by_verdict _ p

pub books_refused_refuses : Allows 1 books_refused.ps books_refused.r books_refused_says.Post (λ κs a x s. Counted (books_checks a.0 a.1.0.now) (refusal_of x))
books_refused_refuses κs a x s p = by_verdict _ p

pub bytes-refused_refuses : Allows 1 bytes_refused.ps bytes_refused.r bytes_refused_says.Post (λ κs a x s. Counted (read_checks a.0.now) (refusal_of x))
bytes-refused_refuses κs a x s p = by_verdict _ p

pub statuses_refused_refuses : Allows 1 statuses_refused.ps statuses_refused.r statuses_refused_says.Post (λ κs a x s. Counted (status_checks a.0 a.1.0 a.1.1.0.now) (refusal_of x))
statuses_refused_refuses κs a x s p = by_verdict _ p

pub values_refused_refuses : Allows 1 values_refused.ps values_refused.r values_refused_says.Post (λ κs a x s. Counted (value_checks a.0 a.1.0 a.1.1.0.now a.1.1.1.0) (refusal_of x))
values_refused_refuses κs a x s p = by_verdict _ p

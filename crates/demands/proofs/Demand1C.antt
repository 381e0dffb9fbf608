-- Demand 1 of what a card gets: each exported function answers 0 or the number of the first check that applies, and a refusal changes nothing that is lent.
use Rattle.ground.specs.Fixes.{Allows}
use Rattle.settings.specs.Settings.{settings_checks}
use Rattle.settings.specs.Asked.{settings}
use Rattle.paths.specs.Asked.{path_checks, slot_asked, above_checks, above_asked, live_asked}
use Rattle.vote.specs.Asked.{vote_checks, vote_asked}
use Rattle.book.specs.Book.{book_of}
use Rattle.book.specs.Asked.{book_checks, slot_checks, held_checks}
use Rattle.frames.specs.Asked.{read_checks, read_asked, write_checks, write_asked}
use Rattle.arrivals.specs.Entry.{arrival_checks, frame_asked}
use Rattle.books.specs.Books.{books_checks, books_slot_checks}
use Rattle.books.specs.Asked.{books_open_asked, books_enter_asked, books_refill_asked, books_frame_checks, books_frame_asked}
use Rattle.bench.specs.Asked as bench
use Rattle.bench.specs.Asked.{answer_checks, answers_checks, answers_asked}
use Rattle.outcomes.specs.Asked.{start_checks, start_asked, list_checks, list_asked}
use Rattle.dealing.specs.Asked.{word_checks, word_asked, fill_checks, fill_asked}
use Rattle.bound.specs.Bound.{bound_checks, bound_asked}
use Rattle.omh.specs.Numbers.{rack, turn, frame_with}
use Rattle.demands.specs.Refusing.{Numbers, Counted}
use Rattle.demands.proofs.Order.{by_number, by_place, by_verdict}
use Rattle.omh.proofs.omh_settings_refused.Kinds as settings_refused
use Rattle.omh.proofs.omh_settings_refused.Reads as settings_refused_says
use Rattle.omh.proofs.omh_slot_of.Kinds as slot_of
use Rattle.omh.proofs.omh_slot_of.Reads as slot_of_says
use Rattle.omh.proofs.omh_slot_above.Kinds as slot_above
use Rattle.omh.proofs.omh_slot_above.Reads as slot_above_says
use Rattle.omh.proofs.omh_is_live.Kinds as is_live
use Rattle.omh.proofs.omh_is_live.Reads as is_live_says
use Rattle.omh.proofs.omh_vote_at.Kinds as vote_at
use Rattle.omh.proofs.omh_vote_at.Reads as vote_at_says
use Rattle.omh.proofs.omh_open.Kinds as opening
use Rattle.omh.proofs.omh_open.Reads as opening_says
use Rattle.omh.proofs.omh_enter.Kinds as enter
use Rattle.omh.proofs.omh_enter.Reads as enter_says
use Rattle.omh.proofs.omh_refill.Kinds as refill
use Rattle.omh.proofs.omh_refill.Reads as refill_says
use Rattle.omh.proofs.omh_held_answer.Kinds as held_answer
use Rattle.omh.proofs.omh_held_answer.Reads as held_answer_says
use Rattle.omh.proofs.omh_books_open.Kinds as books_open
use Rattle.omh.proofs.omh_books_open.Reads as books_open_says
use Rattle.omh.proofs.omh_books_enter.Kinds as books_enter
use Rattle.omh.proofs.omh_books_enter.Reads as books_enter_says
use Rattle.omh.proofs.omh_books_refill.Kinds as books_refill
use Rattle.omh.proofs.omh_books_refill.Reads as books_refill_says
use Rattle.omh.proofs.omh_read_frame.Kinds as read_frame
use Rattle.omh.proofs.omh_read_frame.Reads as read_frame_says
use Rattle.omh.proofs.omh_write_frame.Kinds as write_frame
use Rattle.omh.proofs.omh_write_frame.Reads as write_frame_says
use Rattle.omh.proofs.omh_enter_frame.Kinds as enter_frame
use Rattle.omh.proofs.omh_enter_frame.Reads as enter_frame_says
use Rattle.omh.proofs.omh_books_enter_frame.Kinds as books_enter_frame
use Rattle.omh.proofs.omh_books_enter_frame.Reads as books_enter_frame_says
use Rattle.omh.proofs.omh_word_for.Kinds as word_for
use Rattle.omh.proofs.omh_word_for.Reads as word_for_says
use Rattle.omh.proofs.omh_answer_for.Kinds as answer_for
use Rattle.omh.proofs.omh_answer_for.Reads as answer_for_says
use Rattle.omh.proofs.omh_all_answers.Kinds as all_answers
use Rattle.omh.proofs.omh_all_answers.Reads as all_answers_says
use Rattle.omh.proofs.omh_fill.Kinds as fill
use Rattle.omh.proofs.omh_fill.Reads as fill_says
use Rattle.omh.proofs.omh_bound.Kinds as bound
use Rattle.omh.proofs.omh_bound.Reads as bound_says
use Rattle.omh.proofs.omh_outcome_start.Kinds as outcome_start
use Rattle.omh.proofs.omh_outcome_start.Reads as outcome_start_says
use Rattle.omh.proofs.omh_outcome_set.Kinds as outcome_set
use Rattle.omh.proofs.omh_outcome_set.Reads as outcome_set_says

-- ---- settings and paths

pub settings_refused_refuses : Allows 0 settings_refused.ps settings_refused.r settings_refused_says.Post (λ κs a x s. Counted (settings_checks (settings a.0 a.1.0 a.1.1.0 a.1.1.1.0)) x)
settings_refused_refuses κs a x s p = by_verdict _ p

pub slot_of_refuses : Allows 1 slot_of.ps slot_of.r slot_of_says.Post (λ κs a x s. Numbers (path_checks a.0 a.1.0 a.1.1.0 a.1.1.1.0) x a.1.1.1.1.0.now s.1.1.1.1.0.now)
unfolding slot_asked
slot_of_refuses κs a x s p = by_place _ _ _ _ p

pub slot_above_refuses : Allows 1 slot_above.ps slot_above.r slot_above_says.Post (λ κs a x s. Numbers (above_checks a.0) x a.1.0.now s.1.0.now)
unfolding above_asked
slot_above_refuses κs a x s p = by_place _ _ _ _ p

pub is_live_refuses : Allows 1 is_live.ps is_live.r is_live_says.Post (λ κs a x s. Numbers (settings_checks (settings a.0 a.1.0 a.1.1.0 a.1.1.1.0)) x a.1.1.1.1.1.0.now s.1.1.1.1.1.0.now)
unfolding live_asked
is_live_refuses κs a x s p = by_place _ _ _ _ p

-- ---- the vote and the book

pub vote_at_refuses : Allows 2 vote_at.ps vote_at.r vote_at_says.Post (λ κs a x s. Numbers (vote_checks (settings a.0 a.1.0 a.1.1.0 a.1.1.1.0) a.1.1.1.1.0.now a.1.1.1.1.1.0) x a.1.1.1.1.1.1.0.now s.1.1.1.1.1.1.0.now)
unfolding vote_asked
vote_at_refuses κs a x s p = by_place _ _ _ _ p

pub opening_refuses : Allows 2 opening.ps opening.r opening_says.Post (λ κs a x s. Numbers (book_checks (settings a.0 a.1.0 a.1.1.0 a.1.1.1.0) (book_of a.1.1.1.1.0.now a.1.1.1.1.1.0.now)) x (book_of a.1.1.1.1.0.now a.1.1.1.1.1.0.now) (book_of s.1.1.1.1.0.now s.1.1.1.1.1.0.now))
opening_refuses κs a x s p = by_number _ _ p

pub enter_refuses : Allows 2 enter.ps enter.r enter_says.Post (λ κs a x s. Numbers (slot_checks (settings a.0 a.1.0 a.1.1.0 a.1.1.1.0) (book_of a.1.1.1.1.0.now a.1.1.1.1.1.0.now) a.1.1.1.1.1.1.0) x (book_of a.1.1.1.1.0.now a.1.1.1.1.1.0.now) (book_of s.1.1.1.1.0.now s.1.1.1.1.1.0.now))
enter_refuses κs a x s p = by_number _ _ p

pub refill_refuses : Allows 2 refill.ps refill.r refill_says.Post (λ κs a x s. Numbers (book_checks (settings a.0 a.1.0 a.1.1.0 a.1.1.1.0) (book_of a.1.1.1.1.0.now a.1.1.1.1.1.0.now)) x (book_of a.1.1.1.1.0.now a.1.1.1.1.1.0.now) (book_of a.1.1.1.1.0.now s.1.1.1.1.1.0.now))
refill_refuses κs a x s p = by_number _ _ p

pub held_answer_refuses : Allows 3 held_answer.ps held_answer.r held_answer_says.Post (λ κs a x s. Numbers (held_checks (book_of a.0.now a.1.0.now)) x a.1.1.0.now s.1.1.0.now)
held_answer_refuses κs a x s p = by_place _ _ _ _ p

-- ---- the long list

pub books_open_refuses : Allows 1 books_open.ps books_open.r books_open_says.Post (λ κs a x s. Numbers (books_checks (settings a.0 a.1.0 a.1.1.0 a.1.1.1.0) a.1.1.1.1.0.now) x a.1.1.1.1.0.now s.1.1.1.1.0.now)
unfolding books_open_asked
books_open_refuses κs a x s p = by_number _ _ p

pub books_enter_refuses : Allows 1 books_enter.ps books_enter.r books_enter_says.Post (λ κs a x s. Numbers (books_slot_checks (settings a.0 a.1.0 a.1.1.0 a.1.1.1.0) a.1.1.1.1.0.now a.1.1.1.1.1.0) x a.1.1.1.1.0.now s.1.1.1.1.0.now)
unfolding books_enter_asked
books_enter_refuses κs a x s p = by_number _ _ p

pub books_refill_refuses : Allows 1 books_refill.ps books_refill.r books_refill_says.Post (λ κs a x s. Numbers (books_checks (settings a.0 a.1.0 a.1.1.0 a.1.1.1.0) a.1.1.1.1.0.now) x a.1.1.1.1.0.now s.1.1.1.1.0.now)
unfolding books_refill_asked
books_refill_refuses κs a x s p = by_number _ _ p

-- ---- frames

pub read-frame_refuses : Allows 2 read_frame.ps read_frame.r read_frame_says.Post (λ κs a x s. Numbers (read_checks a.0.now) x a.1.0.now s.1.0.now)
unfolding read_asked
read-frame_refuses κs a x s p = by_place _ _ _ _ p

pub write_frame_refuses : Allows 1 write_frame.ps write_frame.r write_frame_says.Post (λ κs a x s. Numbers (write_checks (frame_with a.0 a.1.0 a.1.1.0 a.1.1.1.0 a.1.1.1.1.0 a.1.1.1.1.1.0 a.1.1.1.1.1.1.0 a.1.1.1.1.1.1.1.0) a.1.1.1.1.1.1.1.1.0.now) x a.1.1.1.1.1.1.1.1.0.now s.1.1.1.1.1.1.1.1.0.now)
unfolding write_asked
write_frame_refuses κs a x s p = by_number _ _ p

pub enter_frame_refuses : Allows 3 enter_frame.ps enter_frame.r enter_frame_says.Post (λ κs a x s. Numbers (arrival_checks (settings a.0 a.1.0 a.1.1.0 a.1.1.1.0) (book_of a.1.1.1.1.0.now a.1.1.1.1.1.0.now) a.1.1.1.1.1.1.0 a.1.1.1.1.1.1.1.0.now) x (book_of a.1.1.1.1.0.now a.1.1.1.1.1.0.now) (book_of s.1.1.1.1.0.now s.1.1.1.1.1.0.now))
unfolding frame_asked
enter_frame_refuses κs a x s p = by_number _ _ p

pub books_enter_frame_refuses : Allows 2 books_enter_frame.ps books_enter_frame.r books_enter_frame_says.Post (λ κs a x s. Numbers (books_frame_checks (settings a.0 a.1.0 a.1.1.0 a.1.1.1.0) a.1.1.1.1.0.now a.1.1.1.1.1.0 a.1.1.1.1.1.1.0.now) x a.1.1.1.1.0.now s.1.1.1.1.0.now)
unfolding books_frame_asked
books_enter_frame_refuses κs a x s p = by_number _ _ p

-- ---- the bench

pub word_for_refuses : Allows 3 word_for.ps word_for.r word_for_says.Post (λ κs a x s. Numbers (word_checks (settings a.0 a.1.0 a.1.1.0 a.1.1.1.1.1.1.0) a.1.1.1.0 a.1.1.1.1.0.now a.1.1.1.1.1.0.now a.1.1.1.1.1.1.1.0) x a.1.1.1.1.1.1.1.1.0.now s.1.1.1.1.1.1.1.1.0.now)
unfolding word_asked
word_for_refuses κs a x s p = by_place _ _ _ _ p

pub answer_for_refuses : Allows 3 answer_for.ps answer_for.r answer_for_says.Post (λ κs a x s. Numbers (answer_checks (settings a.0 a.1.0 a.1.1.0 a.1.1.1.1.1.1.0) a.1.1.1.0 a.1.1.1.1.0.now a.1.1.1.1.1.0.now) x a.1.1.1.1.1.1.1.0.now s.1.1.1.1.1.1.1.0.now)
unfolding bench.answer_for_asked
answer_for_refuses κs a x s p = by_place _ _ _ _ p

pub all_answers_refuses : Allows 3 all_answers.ps all_answers.r all_answers_says.Post (λ κs a x s. Numbers (answers_checks (turn a.0 a.1.0 a.1.1.0) a.1.1.1.0 a.1.1.1.1.0.now a.1.1.1.1.1.0.now a.1.1.1.1.1.1.0.now) x a.1.1.1.1.1.1.0.now s.1.1.1.1.1.1.0.now)
unfolding answers_asked
all_answers_refuses κs a x s p = by_number _ _ p

pub fill_refuses : Allows 4 fill.ps fill.r fill_says.Post (λ κs a x s. Numbers (fill_checks (settings a.0 a.1.0 a.1.1.0 a.1.1.1.1.1.1.0) a.1.1.1.0 a.1.1.1.1.0.now a.1.1.1.1.1.0.now (book_of a.1.1.1.1.1.1.1.0.now a.1.1.1.1.1.1.1.1.0.now)) x (book_of a.1.1.1.1.1.1.1.0.now a.1.1.1.1.1.1.1.1.0.now) (book_of s.1.1.1.1.1.1.1.0.now s.1.1.1.1.1.1.1.1.0.now))
unfolding fill_asked
fill_refuses κs a x s p = by_number _ _ p

pub bound_refuses : Allows 2 bound.ps bound.r bound_says.Post (λ κs a x s. Numbers (bound_checks (rack a.0 a.1.0) a.1.1.0.now) x a.1.1.1.0.now s.1.1.1.0.now)
unfolding bound_asked
bound_refuses κs a x s p = by_place _ _ _ _ p

-- ---- the outcome of exchanges

pub outcome-start_refuses : Allows 1 outcome_start.ps outcome_start.r outcome_start_says.Post (λ κs a x s. Numbers (start_checks a.0.now) x a.0.now s.0.now)
unfolding start_asked
outcome-start_refuses κs a x s p = by_number _ _ p

pub outcome-set_refuses : Allows 3 outcome_set.ps outcome_set.r outcome_set_says.Post (λ κs a x s. Numbers (list_checks (turn a.0 a.1.0 a.1.1.0) a.1.1.1.0 a.1.1.1.1.0.now a.1.1.1.1.1.0.now a.1.1.1.1.1.1.0.now) x a.1.1.1.1.1.1.0.now s.1.1.1.1.1.1.0.now)
unfolding list_asked
outcome-set_refuses κs a x s p = by_number _ _ p

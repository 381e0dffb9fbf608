-- Each exported function's contract fixes its answer, and what is lent to it afterwards: two outcomes that it allows are equal.
use Prim.Native.Nat.{ℕ}
use mathlib.Core.Path.{sym, ap, ◌∙◌}
use mathlib.Core.List.{List}
use lib.IntN.{ℤ}
use Rattle.ground.specs.Answer.{Outcome, outcome}
use Rattle.ground.specs.Fixes.{Fixes}
use Rattle.book.specs.Book.{Book, book_of}
use Rattle.omh.proofs.omh_read_at.Kinds as omh_read_at
use Rattle.omh.proofs.omh_read_at.Reads as omh_read_at_says
use Rattle.omh.proofs.omh_wrap.Kinds as omh_wrap
use Rattle.omh.proofs.omh_wrap.Reads as omh_wrap_says
use Rattle.omh.proofs.omh_unwrap.Kinds as omh_unwrap
use Rattle.omh.proofs.omh_unwrap.Reads as omh_unwrap_says
use Rattle.omh.proofs.omh_majority.Kinds as omh_majority
use Rattle.omh.proofs.omh_majority.Reads as omh_majority_says
use Rattle.omh.proofs.omh_settings_refused.Kinds as omh_settings_refused
use Rattle.omh.proofs.omh_settings_refused.Reads as omh_settings_refused_says
use Rattle.omh.proofs.omh_slot_of.Kinds as omh_slot_of
use Rattle.omh.proofs.omh_slot_of.Reads as omh_slot_of_says
use Rattle.omh.proofs.omh_slot_above.Kinds as omh_slot_above
use Rattle.omh.proofs.omh_slot_above.Reads as omh_slot_above_says
use Rattle.omh.proofs.omh_is_live.Kinds as omh_is_live
use Rattle.omh.proofs.omh_is_live.Reads as omh_is_live_says
use Rattle.omh.proofs.omh_vote_at.Kinds as omh_vote_at
use Rattle.omh.proofs.omh_vote_at.Reads as omh_vote_at_says
use Rattle.omh.proofs.omh_open.Kinds as omh_open
use Rattle.omh.proofs.omh_open.Reads as omh_open_says
use Rattle.omh.proofs.omh_enter.Kinds as omh_enter
use Rattle.omh.proofs.omh_enter.Reads as omh_enter_says
use Rattle.omh.proofs.omh_refill.Kinds as omh_refill
use Rattle.omh.proofs.omh_refill.Reads as omh_refill_says
use Rattle.omh.proofs.omh_held_answer.Kinds as omh_held_answer
use Rattle.omh.proofs.omh_held_answer.Reads as omh_held_answer_says
use Rattle.omh.proofs.omh_books_open.Kinds as omh_books_open
use Rattle.omh.proofs.omh_books_open.Reads as omh_books_open_says
use Rattle.omh.proofs.omh_books_enter.Kinds as omh_books_enter
use Rattle.omh.proofs.omh_books_enter.Reads as omh_books_enter_says
use Rattle.omh.proofs.omh_books_refill.Kinds as omh_books_refill
use Rattle.omh.proofs.omh_books_refill.Reads as omh_books_refill_says
use Rattle.omh.proofs.omh_next_exchange.Kinds as omh_next_exchange
use Rattle.omh.proofs.omh_next_exchange.Reads as omh_next_exchange_says
use Rattle.omh.proofs.omh_age.Kinds as omh_age
use Rattle.omh.proofs.omh_age.Reads as omh_age_says
use Rattle.omh.proofs.omh_age_class.Kinds as omh_age_class
use Rattle.omh.proofs.omh_age_class.Reads as omh_age_class_says
use Rattle.omh.proofs.omh_read_frame.Kinds as omh_read_frame
use Rattle.omh.proofs.omh_read_frame.Reads as omh_read_frame_says
use Rattle.omh.proofs.omh_write_frame.Kinds as omh_write_frame
use Rattle.omh.proofs.omh_write_frame.Reads as omh_write_frame_says
use Rattle.omh.proofs.omh_enter_frame.Kinds as omh_enter_frame
use Rattle.omh.proofs.omh_enter_frame.Reads as omh_enter_frame_says
use Rattle.omh.proofs.omh_books_enter_frame.Kinds as omh_books_enter_frame
use Rattle.omh.proofs.omh_books_enter_frame.Reads as omh_books_enter_frame_says
use Rattle.omh.proofs.omh_word_for.Kinds as omh_word_for
use Rattle.omh.proofs.omh_word_for.Reads as omh_word_for_says
use Rattle.omh.proofs.omh_answer_for.Kinds as omh_answer_for
use Rattle.omh.proofs.omh_answer_for.Reads as omh_answer_for_says
use Rattle.omh.proofs.omh_all_answers.Kinds as omh_all_answers
use Rattle.omh.proofs.omh_all_answers.Reads as omh_all_answers_says
use Rattle.omh.proofs.omh_fill.Kinds as omh_fill
use Rattle.omh.proofs.omh_fill.Reads as omh_fill_says
use Rattle.omh.proofs.omh_bound.Kinds as omh_bound
use Rattle.omh.proofs.omh_bound.Reads as omh_bound_says
use Rattle.omh.proofs.omh_outcome_start.Kinds as omh_outcome_start
use Rattle.omh.proofs.omh_outcome_start.Reads as omh_outcome_start_says
use Rattle.omh.proofs.omh_outcome_set.Kinds as omh_outcome_set
use Rattle.omh.proofs.omh_outcome_set.Reads as omh_outcome_set_says
use Rattle.omh.proofs.omh_list.Kinds as omh_list
use Rattle.omh.proofs.omh_list.Reads as omh_list_says

pub omh_read_at_fixed : Fixes 0 omh_read_at.ps omh_read_at.r omh_read_at_says.Post ℤ (λ κs x s. x)
omh_read_at_fixed κs a x y s t p q = p ∙ sym q

pub omh_wrap_fixed : Fixes 0 omh_wrap.ps omh_wrap.r omh_wrap_says.Post ℤ (λ κs x s. x)
omh_wrap_fixed κs a x y s t p q = p ∙ sym q

pub omh_unwrap_fixed : Fixes 0 omh_unwrap.ps omh_unwrap.r omh_unwrap_says.Post ℤ (λ κs x s. x)
omh_unwrap_fixed κs a x y s t p q = p ∙ sym q

pub omh_majority_fixed : Fixes 1 omh_majority.ps omh_majority.r omh_majority_says.Post ℤ (λ κs x s. x)
omh_majority_fixed κs a x y s t p q = p ∙ sym q

pub omh_settings_refused_fixed : Fixes 0 omh_settings_refused.ps omh_settings_refused.r omh_settings_refused_says.Post ℕ (λ κs x s. x)
omh_settings_refused_fixed κs a x y s t p q = p ∙ sym q

pub omh_slot_of_fixed : Fixes 1 omh_slot_of.ps omh_slot_of.r omh_slot_of_says.Post (Outcome ℕ ℕ) (λ κs x s. outcome x s.1.1.1.1.0.now)
omh_slot_of_fixed κs a x y s t p q = p ∙ sym q

pub omh_slot_above_fixed : Fixes 1 omh_slot_above.ps omh_slot_above.r omh_slot_above_says.Post (Outcome ℕ ℕ) (λ κs x s. outcome x s.1.0.now)
omh_slot_above_fixed κs a x y s t p q = p ∙ sym q

pub omh_is_live_fixed : Fixes 1 omh_is_live.ps omh_is_live.r omh_is_live_says.Post (Outcome ℕ ℤ) (λ κs x s. outcome x s.1.1.1.1.1.0.now)
omh_is_live_fixed κs a x y s t p q = p ∙ sym q

pub omh_vote_at_fixed : Fixes 2 omh_vote_at.ps omh_vote_at.r omh_vote_at_says.Post (Outcome ℕ ℤ) (λ κs x s. outcome x s.1.1.1.1.1.1.0.now)
omh_vote_at_fixed κs a x y s t p q = p ∙ sym q

pub omh_open_fixed : Fixes 2 omh_open.ps omh_open.r omh_open_says.Post (Outcome ℕ Book) (λ κs x s. outcome x (book_of s.1.1.1.1.0.now s.1.1.1.1.1.0.now))
omh_open_fixed κs a x y s t p q = p ∙ sym q

pub omh_enter_fixed : Fixes 2 omh_enter.ps omh_enter.r omh_enter_says.Post (Outcome ℕ Book) (λ κs x s. outcome x (book_of s.1.1.1.1.0.now s.1.1.1.1.1.0.now))
omh_enter_fixed κs a x y s t p q = p ∙ sym q

-- the words are lent to be read only
pub omh_refill_fixed : Fixes 2 omh_refill.ps omh_refill.r omh_refill_says.Post (ℕ × List ℤ) (λ κs x s. (x, s.1.1.1.1.1.0.now))
omh_refill_fixed κs a x y s t p q = ap (λ (o : Outcome ℕ Book). (o.yields, o.leaves.votes)) (p ∙ sym q)

pub omh_held_answer_fixed : Fixes 3 omh_held_answer.ps omh_held_answer.r omh_held_answer_says.Post (Outcome ℕ ℤ) (λ κs x s. outcome x s.1.1.0.now)
omh_held_answer_fixed κs a x y s t p q = p ∙ sym q

pub omh_books_open_fixed : Fixes 1 omh_books_open.ps omh_books_open.r omh_books_open_says.Post (Outcome ℕ (List ℤ)) (λ κs x s. outcome x s.1.1.1.1.0.now)
omh_books_open_fixed κs a x y s t p q = p ∙ sym q

pub omh_books_enter_fixed : Fixes 1 omh_books_enter.ps omh_books_enter.r omh_books_enter_says.Post (Outcome ℕ (List ℤ)) (λ κs x s. outcome x s.1.1.1.1.0.now)
omh_books_enter_fixed κs a x y s t p q = p ∙ sym q

pub omh_books_refill_fixed : Fixes 1 omh_books_refill.ps omh_books_refill.r omh_books_refill_says.Post (Outcome ℕ (List ℤ)) (λ κs x s. outcome x s.1.1.1.1.0.now)
omh_books_refill_fixed κs a x y s t p q = p ∙ sym q

pub omh_next_exchange_fixed : Fixes 0 omh_next_exchange.ps omh_next_exchange.r omh_next_exchange_says.Post ℕ (λ κs x s. x)
omh_next_exchange_fixed κs a x y s t p q = p ∙ sym q

pub omh_age_fixed : Fixes 0 omh_age.ps omh_age.r omh_age_says.Post ℕ (λ κs x s. x)
omh_age_fixed κs a x y s t p q = p ∙ sym q

pub omh_age_class_fixed : Fixes 0 omh_age_class.ps omh_age_class.r omh_age_class_says.Post ℕ (λ κs x s. x)
omh_age_class_fixed κs a x y s t p q = p ∙ sym q

pub omh_read_frame_fixed : Fixes 2 omh_read_frame.ps omh_read_frame.r omh_read_frame_says.Post (Outcome ℕ (List ℤ)) (λ κs x s. outcome x s.1.0.now)
omh_read_frame_fixed κs a x y s t p q = p ∙ sym q

pub omh_write_frame_fixed : Fixes 1 omh_write_frame.ps omh_write_frame.r omh_write_frame_says.Post (Outcome ℕ (List ℕ)) (λ κs x s. outcome x s.1.1.1.1.1.1.1.1.0.now)
omh_write_frame_fixed κs a x y s t p q = p ∙ sym q

pub omh_enter_frame_fixed : Fixes 3 omh_enter_frame.ps omh_enter_frame.r omh_enter_frame_says.Post (Outcome ℕ Book) (λ κs x s. outcome x (book_of s.1.1.1.1.0.now s.1.1.1.1.1.0.now))
omh_enter_frame_fixed κs a x y s t p q = p ∙ sym q

pub omh_books_enter_frame_fixed : Fixes 2 omh_books_enter_frame.ps omh_books_enter_frame.r omh_books_enter_frame_says.Post (Outcome ℕ (List ℤ)) (λ κs x s. outcome x s.1.1.1.1.0.now)
omh_books_enter_frame_fixed κs a x y s t p q = p ∙ sym q

pub omh_word_for_fixed : Fixes 3 omh_word_for.ps omh_word_for.r omh_word_for_says.Post (Outcome ℕ ℤ) (λ κs x s. outcome x s.1.1.1.1.1.1.1.1.0.now)
omh_word_for_fixed κs a x y s t p q = p ∙ sym q

pub omh_answer_for_fixed : Fixes 3 omh_answer_for.ps omh_answer_for.r omh_answer_for_says.Post (Outcome ℕ ℤ) (λ κs x s. outcome x s.1.1.1.1.1.1.1.0.now)
omh_answer_for_fixed κs a x y s t p q = p ∙ sym q

pub omh_all_answers_fixed : Fixes 3 omh_all_answers.ps omh_all_answers.r omh_all_answers_says.Post (Outcome ℕ (List ℤ)) (λ κs x s. outcome x s.1.1.1.1.1.1.0.now)
omh_all_answers_fixed κs a x y s t p q = p ∙ sym q

pub omh_fill_fixed : Fixes 4 omh_fill.ps omh_fill.r omh_fill_says.Post (Outcome ℕ Book) (λ κs x s. outcome x (book_of s.1.1.1.1.1.1.1.0.now s.1.1.1.1.1.1.1.1.0.now))
omh_fill_fixed κs a x y s t p q = p ∙ sym q

pub omh_bound_fixed : Fixes 2 omh_bound.ps omh_bound.r omh_bound_says.Post (Outcome ℕ ℤ) (λ κs x s. outcome x s.1.1.1.0.now)
omh_bound_fixed κs a x y s t p q = p ∙ sym q

pub omh_outcome_start_fixed : Fixes 1 omh_outcome_start.ps omh_outcome_start.r omh_outcome_start_says.Post (Outcome ℕ (List ℤ)) (λ κs x s. outcome x s.0.now)
omh_outcome_start_fixed κs a x y s t p q = p ∙ sym q

pub omh_outcome_set_fixed : Fixes 3 omh_outcome_set.ps omh_outcome_set.r omh_outcome_set_says.Post (Outcome ℕ (List ℤ)) (λ κs x s. outcome x s.1.1.1.1.1.1.0.now)
omh_outcome_set_fixed κs a x y s t p q = p ∙ sym q

pub omh_list_fixed : Fixes 2 omh_list.ps omh_list.r omh_list_says.Post (ℕ × List ℕ) (λ κs x s. (x, s.1.0.now))
omh_list_fixed κs a x y s t p q = λ i. ((p.0 ∙ sym q.0) i, (p.1 ∙ sym q.1) i)

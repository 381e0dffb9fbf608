-- Demand 1: the order of refusal numbers for each call that documents 01 and 02 give, for any arguments.
use Prim.Native.Nat.{ℕ}
use mathlib.Core.Path.{◌≡◌, refl}
use mathlib.Core.Bool.{Bool}
use mathlib.Core.List.{List, [], ◌∷◌}
use lib.IntN.{ℤ}
use Rattle.settings.specs.Settings.{rack_checks, turn_checks, settings_checks}
use Rattle.settings.specs.declared.Rack.{Rack}
use Rattle.settings.specs.declared.Turn.{Turn}
use Rattle.settings.specs.declared.Settings.{Settings}
use Rattle.paths.specs.Asked.{path_checks, above_checks}
use Rattle.vote.specs.Asked.{words_checks, vote_checks}
use Rattle.book.specs.Book.{Book}
use Rattle.book.specs.Asked.{book_checks, slot_checks, held_checks}
use Rattle.frames.specs.Asked.{read_checks, write_checks}
use Rattle.frames.specs.declared.Frame.{Frame}
use Rattle.arrivals.specs.Entry.{frame_checks, entry_checks, arrival_checks}
use Rattle.books.specs.Books.{books_checks, books_slot_checks}
use Rattle.books.specs.Asked.{books_frame_checks}
use Rattle.exchange.specs.Asked.{status_checks, value_checks}
use Rattle.bench.specs.Asked.{answer_checks, answers_checks}
use Rattle.outcomes.specs.Asked.{row_checks, start_checks, list_checks}
use Rattle.dealing.specs.Asked.{word_checks, fill_checks}
use Rattle.bound.specs.Bound.{bound_checks}
use Rattle.files.specs.File.{file_checks}
use Rattle.demands.specs.Refusing.{numbers}

-- a sentence to a field
pub record Orders (s : Settings) (turn : Turn) (rack : Rack) (b : Book) (words list : List ℤ) (statuses bytes : List ℕ) (f : Frame) (x : ℤ) (long : Bool) (k current q1 q2 q3 : ℕ) : Type 0 where
  -- a rack; a rack and a sender; settings
  pub of_rack : numbers (rack_checks rack) ≡ 1 ∷ 2 ∷ []
  pub of_turn : numbers (turn_checks turn) ≡ 1 ∷ 2 ∷ 3 ∷ []
  pub of_settings : numbers (settings_checks s) ≡ 1 ∷ 2 ∷ 3 ∷ 4 ∷ []
  -- a path's slot, and the slot above
  pub slot : numbers (path_checks k q1 q2 q3) ≡ 8 ∷ 8 ∷ []
  pub above : numbers (above_checks k) ≡ 8 ∷ []
  -- book calls: 1, 2, 3, 4, 5, 8
  pub answer : numbers (words_checks s words) ≡ 1 ∷ 2 ∷ 3 ∷ 4 ∷ 5 ∷ []
  pub vote : numbers (vote_checks s words k) ≡ 1 ∷ 2 ∷ 3 ∷ 4 ∷ 5 ∷ 8 ∷ []
  pub opening_refilling : numbers (book_checks s b) ≡ 1 ∷ 2 ∷ 3 ∷ 4 ∷ 5 ∷ []
  pub entering : numbers (slot_checks s b k) ≡ 1 ∷ 2 ∷ 3 ∷ 4 ∷ 5 ∷ 8 ∷ []
  pub held_answer : numbers (held_checks b) ≡ 5 ∷ []
  -- the long list: as the book
  pub books_opening_refilling : numbers (books_checks s list) ≡ 1 ∷ 2 ∷ 3 ∷ 4 ∷ 5 ∷ []
  pub books_entering : numbers (books_slot_checks s list k) ≡ 1 ∷ 2 ∷ 3 ∷ 4 ∷ 5 ∷ 8 ∷ []
  -- entering a frame: 1 to 5, 9, 10, 11, 14, 12, 13, 15, 8, of which the frame alone has 9 to 15; reading 9, 10, 11, 14; writing 5, 14
  pub entering_frame : numbers (arrival_checks s b current bytes) ≡ 1 ∷ 2 ∷ 3 ∷ 4 ∷ 5 ∷ 9 ∷ 10 ∷ 11 ∷ 14 ∷ 12 ∷ 13 ∷ 15 ∷ 8 ∷ []
  pub books_entering_frame : numbers (books_frame_checks s list current bytes) ≡ 1 ∷ 2 ∷ 3 ∷ 4 ∷ 5 ∷ 9 ∷ 10 ∷ 11 ∷ 14 ∷ 12 ∷ 13 ∷ 15 ∷ 8 ∷ []
  pub frame_alone : numbers (frame_checks s current bytes) ≡ 9 ∷ 10 ∷ 11 ∷ 14 ∷ 12 ∷ 13 ∷ 15 ∷ []
  pub frame_entry : numbers (entry_checks s current f) ≡ 12 ∷ 13 ∷ 15 ∷ 8 ∷ 8 ∷ []
  pub reading_frame : numbers (read_checks bytes) ≡ 9 ∷ 10 ∷ 11 ∷ 14 ∷ []
  pub writing_frame : numbers (write_checks f bytes) ≡ 5 ∷ 14 ∷ []
  -- bench: 1 to 5, 7, 6, 8
  pub of_statuses : numbers (status_checks rack x statuses) ≡ 7 ∷ 6 ∷ []
  pub of_values : numbers (value_checks rack x statuses long) ≡ 5 ∷ 7 ∷ 6 ∷ []
  pub one_word : numbers (word_checks s x statuses words k) ≡ 1 ∷ 2 ∷ 3 ∷ 4 ∷ 5 ∷ 7 ∷ 6 ∷ 8 ∷ []
  pub one_answer : numbers (answer_checks s x statuses words) ≡ 1 ∷ 2 ∷ 3 ∷ 4 ∷ 5 ∷ 7 ∷ 6 ∷ []
  pub all_answers : numbers (answers_checks turn x statuses words list) ≡ 1 ∷ 2 ∷ 3 ∷ 5 ∷ 7 ∷ 6 ∷ []
  pub filling : numbers (fill_checks s x statuses words b) ≡ 1 ∷ 2 ∷ 3 ∷ 4 ∷ 5 ∷ 7 ∷ 6 ∷ []
  pub bound : numbers (bound_checks rack statuses) ≡ 1 ∷ 2 ∷ 5 ∷ 7 ∷ []
  -- the outcome, by value and as a list: as all answers; started in a list: 5
  pub outcome_row : numbers (row_checks turn x statuses words) ≡ 1 ∷ 2 ∷ 3 ∷ 5 ∷ 7 ∷ 6 ∷ []
  pub outcome_list : numbers (list_checks turn x statuses words list) ≡ 1 ∷ 2 ∷ 3 ∷ 5 ∷ 7 ∷ 6 ∷ []
  pub outcome_start : numbers (start_checks list) ≡ 5 ∷ []
  -- listing: 9, 10, 11, 16, 9, 1, 2, 3, 7, 6, 16
  pub listing : numbers (file_checks bytes) ≡ 9 ∷ 10 ∷ 11 ∷ 16 ∷ 9 ∷ 1 ∷ 2 ∷ 3 ∷ 7 ∷ 6 ∷ 16 ∷ []

pub orders : (s : Settings) (turn : Turn) (rack : Rack) (b : Book) (words list : List ℤ) (statuses bytes : List ℕ) (f : Frame) (x : ℤ) (long : Bool) (k current q1 q2 q3 : ℕ) → Orders s turn rack b words list statuses bytes f x long k current q1 q2 q3
orders s turn rack b words list statuses bytes f x long k current q1 q2 q3 = record {
  of_rack = refl;
  of_turn = refl;
  of_settings = refl;
  slot = refl;
  above = refl;
  answer = refl;
  vote = refl;
  opening_refilling = refl;
  entering = refl;
  held_answer = refl;
  books_opening_refilling = refl;
  books_entering = refl;
  entering_frame = refl;
  books_entering_frame = refl;
  frame_alone = refl;
  frame_entry = refl;
  reading_frame = refl;
  writing_frame = refl;
  of_statuses = refl;
  of_values = refl;
  one_word = refl;
  one_answer = refl;
  all_answers = refl;
  filling = refl;
  bound = refl;
  outcome_row = refl;
  outcome_list = refl;
  outcome_start = refl;
  listing = refl;
}

-- Two different words on one path: what stands there then, and what clears it.
use Prim.Native.Nat.{ℕ, ◌<◌}
use mathlib.Core.Path.{◌≡◌, refl, ap, ◌∙◌}
use mathlib.Core.Bool.{true, cond}
use mathlib.Core.List.{List}
use lib.Dec.{T}
use lib.IntN.{ℤ}
use lib.ListN.{length}
use Rattle.ground.specs.Checks.{verdict}
use Rattle.ground.specs.Answer.{value, refused, after, outcome_by}
use Rattle.ground.specs.Lists.{at}
use Rattle.ground.proofs.Answers.{value-verdict, refused-verdict, refused-leaves}
use Rattle.ground.proofs.Verdicts.{no_verdicts}
use Rattle.words.specs.Word.{E, kind_of, read_at}
use Rattle.settings.specs.Settings.{slots, turn_of, settings_checks}
use Rattle.settings.specs.declared.Settings.{Settings}
use Rattle.paths.specs.Slots.{live}
use Rattle.vote.specs.Vote.{rule_of}
use Rattle.book.specs.Book.{Book, Sized}
use Rattle.book.specs.Asked.{book_checks, slot_checks, open_asked, held_asked}
use Rattle.entering.specs.Entered.{contradicted}
use Rattle.entering.specs.Asked.{enter_asked}
use Rattle.entering.specs.declared.Entry.{Entry}
use Rattle.entering.specs.Accepted.{accepted_at, repeats}
use Rattle.entering.proofs.Holding.{left_agreed, repeated}
use Rattle.entering.proofs.FromOpening.{opened-word}
use Rattle.arrivals.specs.Entry.{frame_asked}
use Rattle.arrivals.specs.Run.{Arrival, entries_of, arrived, open_arrived}
use Rattle.arrivals.proofs.Runs.{refused_keeps}
use Rattle.books.specs.Books.{books_words, book_from}
use Rattle.books.specs.Run.{Mixed, called, open_called, own_of}
use Rattle.books.proofs.Parts.{from_sized, good_has}
use Rattle.books.proofs.Runs.{mixed_run}
use Rattle.exchange.specs.Exchange.{exchange, dealt, answer_of}
use Rattle.bench.specs.Asked.{answer_checks, answer_for_asked}
use Rattle.dealing.specs.Asked.{fill_checks, fill_asked}
use Rattle.dealing.proofs.Filling.{filled_word}
use Rattle.demands.proofs.Cards.{holds-dealt}
use Rattle.demands.proofs.Runs.{stays_arrived, stays_called}

-- On each live path of s the words accepted are the one that the exchange deals there, once or more often.
abbrev pub OnlyDealt : Settings → ℤ → List ℕ → List ℤ → List Entry → Type 0
OnlyDealt s x statuses words es = (k : ℕ) → T (live s k) → repeats (dealt (rule_of s.rack) (exchange (turn_of s) x statuses words) k s.p) (accepted_at s k es) ≡ true

-- by settings s, whatever they are; b is any book, of any length
pub record Contradictions (s : Settings) : Type 0 where
  -- What stands where two different words came reads as E, at every level.
  pub reads : (d : ℕ) → read_at d contradicted ≡ E
  -- A contradicted slot stays so through any run of words and frames,
  pub stays : (b : Book) (xs : List Arrival) (k : ℕ) → at b.words k ≡ contradicted → at (arrived s b xs).words k ≡ contradicted
  -- and in the long list through any calls for all senders, but `open` for its own.
  pub stays_long : verdict (settings_checks s) ≡ 0 → (l : List ℤ) → length l ≡ books_words → (xs : List (Mixed s)) (k : ℕ) → at (book_from s.t l).words k ≡ contradicted → at (book_from s.t (called s l xs)).words k ≡ contradicted
  -- A refused entering contradicts nothing: the book is as it was.
  pub refused_word : (b : Book) (k : ℕ) (w : ℤ) (r : ℕ) → (enter_asked s b k w).yields ≡ refused r → (enter_asked s b k w).leaves ≡ b
  pub refused_frame : (b : Book) (current : ℕ) (bytes : List ℕ) (r : ℕ) → (frame_asked s b current bytes).yields ≡ refused r → (frame_asked s b current bytes).leaves ≡ b
  -- Opening clears every slot.
  pub opened : (b : Book) → (open_asked s b).yields ≡ value tt → (k : ℕ) → k < slots → at (open_asked s b).leaves.words k ≡ E
  -- Filling deals over what was there at the live slots, and leaves the others.
  pub filled : (x : ℤ) (statuses : List ℕ) (words : List ℤ) (b : Book) → (fill_asked s x statuses words b).yields ≡ value tt → (k : ℕ) → k < slots → at (fill_asked s x statuses words b).leaves.words k ≡ cond (live s k) (dealt (rule_of s.rack) (exchange (turn_of s) x statuses words) k s.p) (at b.words k)
  -- A card that enters the words dealt to it, each once or more often, in any order and with refused ones between them, holds the answer that the bench tells of it,
  pub told_again : (x : ℤ) (statuses : List ℕ) (words : List ℤ) (w : ℤ) → answer_for_asked s x statuses words ≡ value w → (b : Book) → Sized b → (xs : List Arrival) → OnlyDealt s x statuses words (entries_of s xs) → held_asked (open_arrived s b xs) ≡ value w
  -- and in the long list too, whatever is called for other senders meanwhile.
  pub told_again_long : (x : ℤ) (statuses : List ℕ) (words : List ℤ) (w : ℤ) → answer_for_asked s x statuses words ≡ value w → (l : List ℤ) → length l ≡ books_words → (xs : List (Mixed s)) → OnlyDealt s x statuses words (entries_of s (own_of s xs)) → held_asked (book_from s.t (open_called s l xs)) ≡ value w

-- ---- a card that enters what it was dealt

module _ (s : Settings) (x : ℤ) (statuses : List ℕ) (words : List ℤ) (w : ℤ) (e : answer_for_asked s x statuses words ≡ value w) where
  told : (verdict (answer_checks s x statuses words) ≡ 0) × (answer_of (rule_of s.rack) (exchange (turn_of s) x statuses words) s.p ≡ w)
  unfolding answer_for_asked
  told = value-verdict _ (verdict (answer_checks s x statuses words)) e

  checked : verdict (settings_checks s) ≡ 0
  checked = (no_verdicts (settings_checks s) _ tt told.0).0

  dealt-again : (b : Book) → Sized b → (xs : List Arrival) → OnlyDealt s x statuses words (entries_of s xs) → held_asked (open_arrived s b xs) ≡ value w
  dealt-again b z xs h =
      holds-dealt (exchange (turn_of s) x statuses words) s.p checked b z xs (λ k t. left_agreed s k (entries_of s xs) ∙ repeated _ _ (h k t)) ∙ ap value told.1

  dealt-again-long : (l : List ℤ) → length l ≡ books_words → (xs : List (Mixed s)) → OnlyDealt s x statuses words (entries_of s (own_of s xs)) → held_asked (book_from s.t (open_called s l xs)) ≡ value w
  dealt-again-long l long xs h =
      ap held_asked (mixed_run s checked l long xs) ∙ dealt-again (book_from s.t l) (from_sized (good_has s l checked long)) (own_of s xs) h

pub contradictions : (s : Settings) → Contradictions s
contradictions s = record {
  reads = λ d. unfold read_at kind_of in refl;
  stays = λ b xs k. stays_arrived s xs b k;
  stays_long = λ good l long xs k. stays_called s good xs l long k;
  refused_word = λ b k w r e. unfold outcome_by in refused-leaves (verdict (slot_checks s b k)) b _ (refused-verdict tt _ e).1;
  refused_frame = refused_keeps s;
  opened = λ b e k h. unfold outcome_by after in rw (value-verdict tt (verdict (book_checks s b)) e).0 (opened-word (rule_of s.rack) k h);
  filled = λ x statuses words b e k h. unfold fill_asked outcome_by after in
      rw (value-verdict tt (verdict (fill_checks s x statuses words b)) e).0 (filled_word (rule_of s.rack) (exchange (turn_of s) x statuses words) s.p b k h);
  told_again = dealt-again s;
  told_again_long = dealt-again-long s;
}

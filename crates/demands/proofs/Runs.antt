-- Demand 3, the laws: what one entering, a run of them and a refilling leave, words and frames mixed.
use Prim.Native.Nat.{ℕ, zero, suc}
use mathlib.Core.Path.{◌≡◌, refl, sym, ap, ◌∙◌}
use mathlib.Core.Logic.{◌≢◌}
use mathlib.Core.Bool.{Bool, true, false, cond}
use mathlib.Core.List.{List, [], ◌∷◌, Memᴰ}
use lib.Dec.{T}
use lib.IntN.{ℤ}
use lib.ListN.{length}
use Rattle.ground.specs.Checks.{verdict}
use Rattle.ground.specs.Answer.{value, after, outcome_by}
use Rattle.ground.specs.Lists.{at}
use Rattle.ground.proofs.Answers.{value-verdict}
use Rattle.settings.specs.Settings.{settings_checks}
use Rattle.settings.specs.declared.Settings.{Settings}
use Rattle.paths.specs.Slots.{way, live}
use Rattle.vote.specs.Vote.{rule_of, vote}
use Rattle.book.specs.Book.{Book, halves, Sized}
use Rattle.book.specs.Asked.{book_checks}
use Rattle.entering.specs.Entered.{contradicted, entered}
use Rattle.entering.specs.Run.{step}
use Rattle.entering.specs.declared.Entry.{Entry}
use Rattle.entering.proofs.Entering.{entered_one_word, entered_stays, entered_on_the_way}
use Rattle.entering.proofs.OnlyLive.{Alike, entered_alike}
use Rattle.refilling.specs.Refilled.{refilled, refill_asked}
use Rattle.refilling.proofs.Refilled.{refilled_agrees}
use Rattle.arrivals.specs.Entry.{frame_asked}
use Rattle.arrivals.specs.Run.{Arrival, word, frame, taken, entry_of, left_by, arrived}
use Rattle.arrivals.proofs.Runs.{call_steps}
use Rattle.books.specs.Books.{books_words, book_from}
use Rattle.books.specs.Run.{enters, refills, Mixed, own, again, other, called}
use Rattle.books.proofs.Parts.{good_has}
use Rattle.books.proofs.Runs.{other-part, long_kept, own_book}

-- ---- one entering, whatever the settings and the lists

-- what holds of the book before and of the book made holds of what a call leaves
by_after : (P : Book → Type 0) (v : ℕ) (b made : Book) → P b → P made → P (after v b made)
unfolding after
by_after P zero b made p q = q
by_after P (suc v) b made p q = p

module _ (s : Settings) (b : Book) (j : ℕ) where
  pub one_word_left : (x : Arrival) → j ≢ (entry_of x).slot → at (left_by s b x).words j ≡ at b.words j
  unfolding outcome_by frame_asked
  one_word_left (word e) n = by_after (λ c. at c.words j ≡ at b.words j) _ b _ refl (entered_one_word (rule_of s.rack) s b e.slot e.word j n)
  one_word_left (frame current bytes) n = by_after (λ c. at c.words j ≡ at b.words j) _ b _ refl (entered_one_word (rule_of s.rack) s b _ _ j n)

  pub on_the_way_left : (x : Arrival) → (Memᴰ j (way (entry_of x).slot) → ⊥) → at (left_by s b x).votes j ≡ at b.votes j
  unfolding outcome_by frame_asked
  on_the_way_left (word e) off = by_after (λ c. at c.votes j ≡ at b.votes j) _ b _ refl (entered_on_the_way (rule_of s.rack) s b e.slot e.word j off)
  on_the_way_left (frame current bytes) off = by_after (λ c. at c.votes j ≡ at b.votes j) _ b _ refl (entered_on_the_way (rule_of s.rack) s b _ _ j off)

  -- a contradicted slot stays so
  pub stays_left : (x : Arrival) → at b.words j ≡ contradicted → at (left_by s b x).words j ≡ contradicted
  unfolding outcome_by frame_asked
  stays_left (word e) h = by_after (λ c. at c.words j ≡ contradicted) _ b _ h (entered_stays (rule_of s.rack) s b e.slot e.word j h)
  stays_left (frame current bytes) h = by_after (λ c. at c.words j ≡ contradicted) _ b _ h (entered_stays (rule_of s.rack) s b _ _ j h)

-- ---- a contradicted slot, through a run

pub stays_arrived : (s : Settings) (xs : List Arrival) (b : Book) (j : ℕ) → at b.words j ≡ contradicted → at (arrived s b xs).words j ≡ contradicted
unfolding arrived
stays_arrived s [] b j h = h
stays_arrived s (x ∷ xs) b j h = stays_arrived s xs (left_by s b x) j (stays_left s b j x h)

-- and in the long list
pub stays_called : (s : Settings) → verdict (settings_checks s) ≡ 0 → (xs : List (Mixed s)) (l : List ℤ) → length l ≡ books_words → (j : ℕ) → at (book_from s.t l).words j ≡ contradicted → at (book_from s.t (called s l xs)).words j ≡ contradicted
unfolding called outcome_by
stays_called s good [] l long j h = h
stays_called s good (own x ∷ xs) l long j h =
    stays_called s good xs _ (long_kept s l (enters x) ∙ long) j
    (ap (λ (b : Book). at b.words j) (own_book s l (good_has s l good long) (enters x)) ∙ stays_left s (book_from s.t l) j x h)
stays_called s good (again ∷ xs) l long j h =
    stays_called s good xs _ (long_kept s l refills ∙ long) j
    (ap (λ (b : Book). at b.words j) (own_book s l (good_has s l good long) refills) ∙ by_after (λ c. at c.words j ≡ contradicted) _ (book_from s.t l) _ h h)
stays_called s good (other o n a ∷ xs) l long j h =
    stays_called s good xs _ (long_kept o l a ∙ long) j
    (ap (λ (p : List ℤ). at (halves p).words j) (other-part o l a s.t (λ q. n (sym q))) ∙ h)

-- ---- slots that are not live

-- books that are alike at the live slots stay so
pub alike_left : (s : Settings) → verdict (settings_checks s) ≡ 0 → (b c : Book) → Sized b → Sized c → Alike s b c → (x : Arrival) → Alike s (left_by s b x) (left_by s c x)
unfolding step
alike_left s good b c y z same x = rw (call_steps s good b y x, call_steps s good c z x) (go (taken s x) (live s e.slot) refl)
  where
    e : Entry
    e = entry_of x

    into : Book → Book
    into d = entered (rule_of s.rack) s d e.slot e.word

    go : (t l : Bool) → live s e.slot ≡ l → Alike s (cond t (cond l (into b) b) b) (cond t (cond l (into c) c) c)
    go true true q = entered_alike (rule_of s.rack) s b c same y z e.slot e.word (rw q tt)
    go true false q = same
    go false l q = same

-- ---- refilling

module _ (s : Settings) (b : Book) (done : (refill_asked s b).yields ≡ value tt) where
  made : (P : Book → Type 0) → P (refilled (rule_of s.rack) s b) → P (refill_asked s b).leaves
  unfolding outcome_by after
  made P p = rw (value-verdict tt (verdict (book_checks s b)) done).0 p

  -- every live vote is the vote worked out afresh
  pub refilled_afresh : (k : ℕ) → T (live s k) → at (refill_asked s b).leaves.votes k ≡ vote (rule_of s.rack) s b.words k
  refilled_afresh k t = made (λ c. at c.votes k ≡ vote (rule_of s.rack) s b.words k) (refilled_agrees (rule_of s.rack) s b.words b.votes k t)

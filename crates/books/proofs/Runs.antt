-- A run of calls for all senders leaves of each sender's book what its own calls leave of a book by itself.
use Prim.Native.Nat.{ℕ, zero, suc}
use mathlib.Core.Path.{◌≡◌, refl, sym, ap, ◌∙◌}
use mathlib.Core.Logic.{◌≢◌}
use mathlib.Core.List.{List, [], ◌∷◌, ◌++◌, append_assoc, append-nil}
use lib.IntN.{ℤ}
use lib.ListN.{length}
use Rattle.ground.specs.Checks.{Check, verdict}
use Rattle.ground.specs.Answer.{Answer, Outcome, after, outcome_by}
use Rattle.ground.specs.Lists.{part}
use Rattle.ground.proofs.Verdicts.{no_verdicts}
use Rattle.words.specs.Rule.{Rule}
use Rattle.words.proofs.Lawful.{omh_lawful}
use Rattle.settings.specs.Settings.{settings_checks}
use Rattle.settings.specs.declared.Settings.{Settings}
use Rattle.vote.specs.Vote.{rule_of, vote}
use Rattle.book.specs.Book.{Book, book_of, halves, Sized, opened}
use Rattle.book.specs.Asked.{book_checks}
use Rattle.book.proofs.Asking.{opened-sized}
use Rattle.entering.specs.Entered.{entered}
use Rattle.entering.specs.Run.{run}
use Rattle.entering.specs.declared.Entry.{Entry}
use Rattle.entering.proofs.Entering.{entered-sized}
use Rattle.entering.proofs.FromOpening.{run-sized, run-words, run-votes}
use Rattle.entering.proofs.Calls.{open_call}
use Rattle.refilling.specs.Refilled.{refilled}
use Rattle.refilling.proofs.Refilled.{refilled-sized, refilled_same}
use Rattle.arrivals.specs.Entry.{frame_asked}
use Rattle.arrivals.specs.Run.{Arrival, word, frame, entries_of, left_by, arrived, open_arrived}
use Rattle.arrivals.proofs.Runs.{arrived-run}
use Rattle.books.specs.Books.{book_from, with_book, books_checks}
use Rattle.books.specs.Asked.{books_open_asked, books_enter_asked, books_refill_asked, books_frame_asked}
use Rattle.books.specs.Run.{Act, opens, enters, refills, long_left, book_left, Mixed, own, again, other, called, open_called, own_of}
use Rattle.books.proofs.Parts.{Has, asked_has, good_has, from_sized, with_from, with_other, with-long, same_then}

-- ---- one call, by the long list's checks and whatever further ones

module _ (s : Settings) (l : List ℤ) (cs : List Check) (made : Book) (z : Has s.t l → Sized made) where
  abbrev left : ℕ → List ℤ
  left v = after v l (with_book s.t l made)

  -- none of the checks applies: there is a part
  none_has : verdict (books_checks s l ++ cs) ≡ 0 → Has s.t l
  none_has e = asked_has s l (no_verdicts (books_checks s l) cs tt e).0

  keeps_others : (u : ℕ) → u ≢ s.t → part 2222 u (left (verdict (books_checks s l ++ cs))) ≡ part 2222 u l
  keeps_others u n = go (verdict (books_checks s l ++ cs)) refl
    where
      go : (v : ℕ) → verdict (books_checks s l ++ cs) ≡ v → part 2222 u (left v) ≡ part 2222 u l
      go zero e = unfold after in with_other (none_has e) made (z (none_has e)) u n
      go (suc v) e = unfold after in refl

  keeps_long : length (left (verdict (books_checks s l ++ cs))) ≡ length l
  keeps_long = go (verdict (books_checks s l ++ cs)) refl
    where
      go : (v : ℕ) → verdict (books_checks s l ++ cs) ≡ v → length (left v) ≡ length l
      go zero e = unfold after in with-long (none_has e) made (z (none_has e))
      go (suc v) e = unfold after in refl

  makes_own : Has s.t l → book_from s.t (left (verdict (books_checks s l ++ cs))) ≡ after (verdict (book_checks s (book_from s.t l) ++ cs)) (book_from s.t l) made
  makes_own h = rw (same_then h s cs) (go (verdict (books_checks s l ++ cs)))
    where
      go : (v : ℕ) → book_from s.t (left v) ≡ after v (book_from s.t l) made
      go zero = unfold after in with_from h made (z h)
      go (suc v) = unfold after in refl

-- ---- one call, of each kind

module _ (s : Settings) (l : List ℤ) where
  enters-sized : (k : ℕ) (w : ℤ) → Has s.t l → Sized (entered (rule_of s.rack) s (book_from s.t l) k w)
  enters-sized k w h = entered-sized (rule_of s.rack) s (book_from s.t l) k w (from_sized h)

  refills-sized : Has s.t l → Sized (refilled (rule_of s.rack) s (book_from s.t l))
  refills-sized h = refilled-sized (rule_of s.rack) s (book_from s.t l).words (book_from s.t l).votes (from_sized h).words_long

  -- no other sender's part differs,
  pub other-part : (a : Act) (u : ℕ) → u ≢ s.t → part 2222 u (long_left s l a) ≡ part 2222 u l
  unfolding books_open_asked books_enter_asked books_refill_asked books_frame_asked outcome_by
  other-part opens = keeps_others s l [] _ (λ h. opened-sized (rule_of s.rack))
  other-part (enters (word e)) = keeps_others s l _ _ (enters-sized e.slot e.word)
  other-part (enters (frame current bytes)) = keeps_others s l _ _ (enters-sized _ _)
  other-part refills = keeps_others s l [] _ refills-sized

  pub long_kept : (a : Act) → length (long_left s l a) ≡ length l
  unfolding books_open_asked books_enter_asked books_refill_asked books_frame_asked outcome_by
  long_kept opens = keeps_long s l [] _ (λ h. opened-sized (rule_of s.rack))
  long_kept (enters (word e)) = keeps_long s l _ _ (enters-sized e.slot e.word)
  long_kept (enters (frame current bytes)) = keeps_long s l _ _ (enters-sized _ _)
  long_kept refills = keeps_long s l [] _ refills-sized

  -- and the sender's book is what the call leaves of it by itself
  pub own_book : Has s.t l → (a : Act) → book_from s.t (long_left s l a) ≡ book_left s (book_from s.t l) a
  unfolding books_open_asked books_enter_asked books_refill_asked books_frame_asked frame_asked outcome_by
  own_book h opens = makes_own s l [] _ (λ h. opened-sized (rule_of s.rack)) h
  own_book h (enters (word e)) = makes_own s l _ _ (enters-sized e.slot e.word) h
  own_book h (enters (frame current bytes)) = makes_own s l _ _ (enters-sized _ _) h
  own_book h refills = makes_own s l [] _ refills-sized h

-- ---- a run for all senders, with settings that are not refused

module _ (s : Settings) (good : verdict (settings_checks s) ≡ 0) where
  abbrev R : Rule
  R = rule_of s.rack

  -- one word or frame more
  arrived_more : (b : Book) (xs : List Arrival) (x : Arrival) → arrived s b (xs ++ x ∷ []) ≡ left_by s (arrived s b xs) x
  unfolding arrived
  arrived_more b [] x = refl
  arrived_more b (y ∷ ys) x = arrived_more (left_by s b y) ys x

  -- after words and frames from opening on, every live vote is right, and refilling changes nothing
  refills-same : (xs : List Arrival) → let b = arrived s (opened R) xs in book_left s b refills ≡ b
  unfolding outcome_by
  refills-same xs = rw (arrived-run s good (opened R) (opened-sized R) xs) (either (verdict (book_checks s b)))
    where
      es : List Entry
      es = entries_of s xs

      b : Book
      b = run R s (opened R) es

      same : refilled R s b ≡ b
      same = ap (book_of b.words) (refilled_same R s b.words b.votes (run-sized R s (opened R) es (opened-sized R)).votes_long
          (λ k l. run-votes R s omh_lawful es k l ∙ ap (λ (ws : List ℤ). vote R s ws k) (sym (run-words R s es))))

      either : (v : ℕ) → after v b (refilled R s b) ≡ b
      either zero = unfold after in same
      either (suc v) = unfold after in refl

  has_kept : (l : List ℤ) {m : List ℤ} → length m ≡ length l → Has s.t l → Has s.t m
  has_kept l e h = record { sender = h.sender; long = e ∙ h.long }

  -- the sender's book is what its own words and frames, those before and those of the run, leave of an opened one
  from_own : (xs : List (Mixed s)) (l : List ℤ) (before : List Arrival) → Has s.t l → book_from s.t l ≡ arrived s (opened R) before → book_from s.t (called s l xs) ≡ arrived s (opened R) (before ++ own_of s xs)
  unfolding called own_of
  from_own [] l before h e = e ∙ ap (arrived s (opened R)) (sym (append-nil before))
  from_own (own x ∷ xs) l before h e =
      from_own xs _ (before ++ x ∷ []) (has_kept l (long_kept s l (enters x)) h)
      (own_book s l h (enters x) ∙ ap (λ (b : Book). left_by s b x) e ∙ sym (arrived_more (opened R) before x))
      ∙ ap (arrived s (opened R)) (append_assoc before (x ∷ []) (own_of s xs))
  from_own (again ∷ xs) l before h e =
      from_own xs _ before (has_kept l (long_kept s l refills) h) (own_book s l h refills ∙ ap (λ (b : Book). book_left s b refills) e ∙ refills-same before)
  from_own (other o n a ∷ xs) l before h e =
      from_own xs _ before (has_kept l (long_kept o l a) h) (ap halves (other-part o l a s.t (λ q. n (sym q))) ∙ e)

  -- and so after `open` for the sender
  pub mixed_run : (l : List ℤ) → length l ≡ 22220 → (xs : List (Mixed s)) → book_from s.t (open_called s l xs) ≡ open_arrived s (book_from s.t l) (own_of s xs)
  unfolding arrived
  mixed_run l long xs =
      from_own xs _ [] (has_kept l (long_kept s l opens) h) (own_book s l h opens ∙ opens_it)
      ∙ ap (λ (b : Book). arrived s b (own_of s xs)) (sym opens_it)
    where
      h : Has s.t l
      h = good_has s l good long

      opens_it : book_left s (book_from s.t l) opens ≡ opened R
      opens_it = ap (λ (o : Outcome (Answer (Unit {0})) Book). o.leaves) (open_call s good (book_from s.t l) (from_sized h))

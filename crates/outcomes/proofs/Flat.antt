-- The outcome as one list, its rows one after the other: calls on the list leave what calls on the rows do.
use Prim.Native.Nat.{ℕ, zero, suc, ◌+◌, ◌*◌, ◌<◌}
use mathlib.Core.Path.{◌≡◌, refl, sym, ap, ◌∙◌}
use mathlib.Core.List.{List, [], ◌∷◌, ◌++◌, append_assoc}
use native.Mathlib.Omega.{arith}
use native.Mathlib.Nat.{mul-suc}
use lib.IntN.{ℤ, pos}
use lib.ListN.{length, set, replicate, take, drop, length-append, get_or-append}
use lib.Seq.{drop_at, take-append-add, drop-append-add, get_or-append-add}
use borrow.Author.Tests.{eq-eqb}
use Rattle.ground.specs.Answer.{Answer, answer, Outcome, outcome, after, outcome_by}
use Rattle.ground.specs.Lists.{at}
use Rattle.ground.proofs.Lists.{length-table}
use Rattle.words.specs.Word.{E}
use Rattle.words.specs.Rule.{Rule}
use Rattle.settings.specs.declared.Rack.{Rack}
use Rattle.settings.specs.declared.Turn.{Turn}
use Rattle.vote.specs.Vote.{rule_of}
use Rattle.exchange.specs.Exchange.{Exchange}
use Rattle.ground.specs.Lists.{with_part}
use Rattle.outcomes.specs.Rows.{start, word_at, row_of, outcome_words, flat}
use Rattle.outcomes.specs.Asked.{row_for, row_asked, list_asked}
use Rattle.outcomes.specs.Run.{Call, turn_for, exchange_for, number_for, left_by, after_calls, list_after_calls, started_list}
use Rattle.outcomes.proofs.Asking.{row_verdict, right-long, sender_ten, start_done}
use Rattle.outcomes.proofs.Runs.{left_long}

-- ---- a list of equal parts, taken apart at the first

module _ {A : Type 0} (w : ℕ) (first rest new : List A) (long : length first ≡ w) where
  with_first : with_part w 0 (first ++ rest) new ≡ new ++ rest
  unfolding with_part
  with_first = let z : w * 0 ≡ 0 = omega arith in rw z (ap (λ (r : List A). new ++ r) (drop_at first rest w long))

  with_later : (t : ℕ) → with_part w (suc t) (first ++ rest) new ≡ first ++ with_part w t rest new
  unfolding with_part
  with_later t =
      let e : w * suc t ≡ length first + w * t = omega (arith, mul-suc w t) in
      rw (e, take-append-add first rest (w * t), drop-append-add first rest (w * t)) (append_assoc first (take (w * t) rest) (new ++ drop w (drop (w * t) rest)))

-- ---- rows of ten

abbrev pub Tens : List (List ℤ) → Type 0
Tens [] = Unit {0}
Tens (row ∷ rows) = (length row ≡ 10) × Tens rows

pub row_long : (R : Rule) (X : Exchange) → length (row_of R X) ≡ 10
unfolding row_of
row_long R X = length-table 10 0 _

tens_set : (rows : List (List ℤ)) (t : ℕ) (row : List ℤ) → Tens rows → length row ≡ 10 → Tens (set rows t row)
tens_set [] t row h e = tt
tens_set (r ∷ rows) zero row h e = (e, h.1)
tens_set (r ∷ rows) (suc t) row h e = (h.0, tens_set rows t row h.1 e)

-- ten rows of ten
pub record Square (rows : List (List ℤ)) : Type 0 where
  pub ten : length rows ≡ 10
  pub tens : Tens rows

pub square_start : Square start
unfolding start
square_start = record { ten = refl; tens = (refl, (refl, (refl, (refl, (refl, (refl, (refl, (refl, (refl, (refl, tt)))))))))) }

pub flat-long : (rows : List (List ℤ)) → Tens rows → length (flat rows) ≡ 10 * length rows
unfolding flat
flat-long [] h = refl
flat-long (row ∷ rows) h = length-append row (flat rows) ∙ omega (arith, h.0, flat-long rows h.1)

-- the word for sender t and card p is that at 10 t + p
pub flat_word : (rows : List (List ℤ)) → Tens rows → (t p : ℕ) → t < length rows → p < 10 → at (flat rows) (10 * t + p) ≡ word_at rows t p
unfolding flat
flat_word [] h t p i j = absurd (omega arith)
flat_word (row ∷ rows) h zero p i j = ap (at (row ++ flat rows)) (omega arith) ∙ get_or-append row (flat rows) (pos 0) p (omega (arith, h.0))
flat_word (row ∷ rows) h (suc t) p i j =
    let e : 10 * suc t + p ≡ length row + (10 * t + p) = omega (arith, h.0) in
    ap (at (row ++ flat rows)) e ∙ get_or-append-add row (flat rows) (10 * t + p) (pos 0) ∙ flat_word rows h.1 t p (omega arith) j

-- a row set is its part replaced
pub flat-set : (rows : List (List ℤ)) → Tens rows → (t : ℕ) (row : List ℤ) → t < length rows → with_part 10 t (flat rows) row ≡ flat (set rows t row)
unfolding flat
flat-set [] h t row i = absurd (omega arith)
flat-set (r ∷ rows) h zero row i = with_first 10 r (flat rows) row h.0
flat-set (r ∷ rows) h (suc t) row i = with_later 10 r (flat rows) row h.0 t ∙ ap (λ (l : List ℤ). r ++ l) (flat-set rows h.1 t row (omega arith))

pub flat_start : flat start ≡ replicate outcome_words E
unfolding flat start
flat_start = refl

-- ---- a call

module _ (turn : Turn) (x : ℤ) (statuses : List ℕ) (words : List ℤ) (rows : List (List ℤ)) (s : Square rows) where
  -- on the list it yields and leaves what it does on the rows
  pub list-asked : list_asked turn x statuses words (flat rows) ≡ outcome (answer (row_asked turn x statuses words rows).yields tt) (flat (row_asked turn x statuses words rows).leaves)
  unfolding list_asked row_asked outcome_by
  list-asked =
      let long : length (flat rows) ≡ outcome_words = flat-long rows s.tens ∙ omega (arith, s.ten) in
      ap (λ (k : ℕ). outcome_by k (flat rows) (with_part 10 turn.t (flat rows) (row_for turn x statuses words))) (right-long turn x statuses words (eq-eqb (length (flat rows)) outcome_words long))
      ∙ ap (outcome (answer (row_verdict turn x statuses words) tt)) (go (row_verdict turn x statuses words) refl)
    where
      go : (k : ℕ) → row_verdict turn x statuses words ≡ k → after k (flat rows) (with_part 10 turn.t (flat rows) (row_for turn x statuses words)) ≡ flat (after k rows (set rows turn.t (row_for turn x statuses words)))
      go zero e = unfold after in flat-set rows s.tens turn.t _ (omega (arith, s.ten, sender_ten turn x statuses words e))
      go (suc k) e = unfold after in refl

-- ---- a run

module _ (rack : Rack) (statuses : List ℕ) where
  left_square : (rows : List (List ℤ)) → Square rows → (c : Call) → Square (left_by rack statuses rows c)
  unfolding row_asked
  left_square rows s c = record { ten = left_long rack statuses rows c ∙ s.ten; tens = go (number_for rack statuses c) }
    where
      go : (k : ℕ) → Tens (after k rows (set rows c.sender (row_of (rule_of rack) (exchange_for rack statuses c))))
      go zero = unfold after in tens_set rows c.sender _ s.tens (row_long (rule_of rack) (exchange_for rack statuses c))
      go (suc k) = unfold after in s.tens

  pub after_square : (rows : List (List ℤ)) → Square rows → (cs : List Call) → Square (after_calls rack statuses rows cs)
  unfolding after_calls
  after_square rows s [] = s
  after_square rows s (c ∷ cs) = after_square (left_by rack statuses rows c) (left_square rows s c) cs

  pub list_after : (rows : List (List ℤ)) → Square rows → (cs : List Call) → list_after_calls rack statuses (flat rows) cs ≡ flat (after_calls rack statuses rows cs)
  unfolding list_after_calls after_calls
  list_after rows s [] = refl
  list_after rows s (c ∷ cs) =
      ap (λ (o : Outcome (Answer (Unit {0})) (List ℤ)). list_after_calls rack statuses o.leaves cs) (list-asked (turn_for rack c) c.value statuses c.words rows s)
      ∙ list_after (left_by rack statuses rows c) (left_square rows s c) cs

  -- from all E, in any list of 100 words
  module _ (list : List ℤ) (long : length list ≡ outcome_words) (cs : List Call) where
    pub started_after : started_list rack statuses list cs ≡ flat (after_calls rack statuses start cs)
    started_after =
        let left = ap (λ (o : Outcome (Answer (Unit {0})) (List ℤ)). o.leaves) (start_done list long refl) in
        ap (λ (l : List ℤ). list_after_calls rack statuses l cs) (sym left ∙ sym flat_start) ∙ list_after start square_start cs

    pub started_word : {t p : ℕ} → t < 10 → p < 10 → at (started_list rack statuses list cs) (10 * t + p) ≡ word_at (after_calls rack statuses start cs) t p
    started_word {t} {p} h g =
        let s = after_square start square_start cs in
        ap (λ (l : List ℤ). at l (10 * t + p)) started_after ∙ flat_word (after_calls rack statuses start cs) s.tens t p (omega (arith, s.ten)) g

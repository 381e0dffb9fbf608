-- A run of calls leaves in each row what the last of them that sets it put there.
use Prim.Native.Nat.{ℕ, zero, suc, ◌+◌, ◌<◌}
use mathlib.Core.Path.{◌≡◌, refl, sym, ap, ◌∙◌}
use mathlib.Core.Bool.{Bool, true, false, cond, ◌&&◌, and-eq-true_iff, true≢false}
use mathlib.Core.List.{List, [], ◌∷◌, ◌++◌}
use mathlib.Core.Option.{Option, none, some}
use native.Mathlib.Omega.{arith}
use native.Mathlib.Decide.{ℕ_discrete}
use lib.Dec.{T, eqb}
use lib.IntN.{ℤ, pos}
use lib.ListN.{length, get_or, set, replicate, length-set, length-replicate, get_or-replicate}
use lib.Seq.{get_or-set_same, get_or-set_other}
use borrow.Author.Tests.{eqb-true, eq-eqb, ne_eqb}
use Rattle.ground.specs.Answer.{after}
use Rattle.ground.specs.Lists.{at}
use Rattle.ground.proofs.Bools.{T_eq}
use Rattle.ground.proofs.Lists.{at_table}
use Rattle.ground.proofs.Verdicts.{no_verdicts}
use Rattle.words.specs.Word.{E, kind_of}
use Rattle.words.specs.declared.Kind.TheVariants.{Ordinary}
use Rattle.words.specs.Rule.{Rule}
use Rattle.settings.specs.Settings.{fits, turn_checks}
use Rattle.settings.specs.declared.Rack.{Rack}
use Rattle.settings.proofs.Good.{GoodTurn}
use Rattle.vote.specs.Vote.{rule_of}
use Rattle.exchange.specs.Exchange.{Exchange, answer_of}
use Rattle.exchange.specs.Asked.{inputs_long}
use Rattle.exchange.proofs.Asking.{turn-asked, values_asked}
use Rattle.outcomes.specs.Rows.{start, word_at, row_of}
use Rattle.outcomes.specs.Asked.{row_asked}
use Rattle.outcomes.specs.Run.{Call, turn_for, exchange_for, number_for, left_by, after_calls, sets, last_after, last_for, row_left, word_left}
use Rattle.outcomes.proofs.Asking.{sender_ten}

-- a card's word in a row
pub row_word : (R : Rule) (X : Exchange) (p : ℕ) → p < 10 → at (row_of R X) p ≡ cond (fits X.rack p) (answer_of R X p) E
unfolding row_of
row_word R X p h =
    let e : 0 + p ≡ p = omega arith in
    at_table 10 0 _ p (pos 0) h ∙ ap (λ (q : ℕ). cond (fits X.rack q) (answer_of R X q) E) e

module _ (rack : Rack) (statuses : List ℕ) where
  -- what a call that is not refused was given
  pub record Accepted (t : ℕ) (c : Call) : Type 0 where
    pub of_sender : c.sender ≡ t
    pub number : number_for rack statuses c ≡ 0
    pub turn : GoodTurn (turn_for rack c)
    pub ordinary : kind_of c.value ≡ Ordinary

  pub accepted : (t : ℕ) (c : Call) → sets rack statuses t c ≡ true → Accepted t c
  accepted t c e =
      let both = (and-eq-true_iff (eqb (number_for rack statuses c) 0) (eqb c.sender t)).0 e in
      let none = eqb-true (number_for rack statuses c) 0 both.0 in
      let long = inputs_long statuses c.words in
      record {
        of_sender = eqb-true c.sender t both.1;
        number = none;
        turn = (turn-asked (turn_for rack c) c.value statuses long none).0;
        ordinary = (values_asked rack c.value statuses long (no_verdicts (turn_checks (turn_for rack c)) _ tt none).1).2;
      }

  -- ---- one call

  pub left_long : (rows : List (List ℤ)) (c : Call) → length (left_by rack statuses rows c) ≡ length rows
  unfolding row_asked
  left_long rows c = go (number_for rack statuses c)
    where
      go : (v : ℕ) → length (after v rows (set rows c.sender (row_of (rule_of rack) (exchange_for rack statuses c)))) ≡ length rows
      go zero = unfold after in length-set rows c.sender _
      go (suc v) = unfold after in refl

  left_row : (rows : List (List ℤ)) → length rows ≡ 10 → (c : Call) (t : ℕ) → get_or (left_by rack statuses rows c) t [] ≡ cond (sets rack statuses t c) (row_of (rule_of rack) (exchange_for rack statuses c)) (get_or rows t [])
  unfolding row_asked
  left_row rows ten c t = go (number_for rack statuses c) refl (ℕ_discrete t c.sender)
    where
      go : (v : ℕ) → number_for rack statuses c ≡ v → Dec (t ≡ c.sender) → get_or (after v rows (set rows c.sender (row_of (rule_of rack) (exchange_for rack statuses c)))) t [] ≡ cond (eqb v 0 && eqb c.sender t) (row_of (rule_of rack) (exchange_for rack statuses c)) (get_or rows t [])
      go zero e (yes s) = unfold after in rw (s, eq-eqb c.sender c.sender refl) (get_or-set_same rows c.sender _ [] (omega (arith, ten, sender_ten (turn_for rack c) c.value statuses c.words e)))
      go zero e (no n) = unfold after in rw (ne_eqb c.sender t (λ q. n (sym q))) (get_or-set_other rows c.sender t _ [] n)
      go (suc v) e d = unfold after in rw (ne_eqb (suc v) 0 (λ q. omega arith))

  -- ---- a run

  pub after-long : (rows : List (List ℤ)) (cs : List Call) → length (after_calls rack statuses rows cs) ≡ length rows
  unfolding after_calls
  after-long rows [] = refl
  after-long rows (c ∷ cs) = after-long (left_by rack statuses rows c) cs ∙ left_long rows c

  left_after : (t : ℕ) (row : List ℤ) (cs : List Call) (rows : List (List ℤ)) (z : Option Call) → length rows ≡ 10 → get_or rows t [] ≡ row_left rack statuses z row → get_or (after_calls rack statuses rows cs) t [] ≡ row_left rack statuses (last_after rack statuses t cs z) row
  unfolding after_calls last_after
  left_after t row [] rows z ten e = e
  left_after t row (c ∷ cs) rows z ten e =
      left_after t row cs (left_by rack statuses rows c) _ (left_long rows c ∙ ten) (left_row rows ten c t ∙ go (sets rack statuses t c))
    where
      go : (b : Bool) → cond b (row_of (rule_of rack) (exchange_for rack statuses c)) (get_or rows t []) ≡ row_left rack statuses (cond b (some c) z) row
      go true = refl
      go false = e

  -- each row is that of its sender's last exchange, or as it was handed in
  pub row_after : (rows : List (List ℤ)) → length rows ≡ 10 → (cs : List Call) (t : ℕ) → get_or (after_calls rack statuses rows cs) t [] ≡ row_left rack statuses (last_for rack statuses t cs) (get_or rows t [])
  row_after rows ten cs t = left_after t (get_or rows t []) cs rows none ten refl

  -- ---- the last exchange

  -- no call of a run sets the row of sender t
  abbrev pub NoneSets : ℕ → List Call → Type 0
  NoneSets t [] = Unit {0}
  NoneSets t (c ∷ cs) = (sets rack statuses t c ≡ false) × NoneSets t cs

  pub last_none : (t : ℕ) (cs : List Call) (z : Option Call) → NoneSets t cs → last_after rack statuses t cs z ≡ z
  unfolding last_after
  last_none t [] z n = refl
  last_none t (c ∷ cs) z n = rw n.0 (last_none t cs z n.1)

  pub last_is : (t : ℕ) (before : List Call) (c : Call) (later : List Call) (z : Option Call) → sets rack statuses t c ≡ true → NoneSets t later → last_after rack statuses t (before ++ c ∷ later) z ≡ some c
  unfolding last_after
  last_is t [] c later z e n = ap (λ (b : Bool). last_after rack statuses t later (cond b (some c) z)) e ∙ last_none t later (some c) n
  last_is t (b ∷ before) c later z e n = last_is t before c later _ e n

  abbrev Known : ℕ → Option Call → Type 0
  Known t none = Unit {0}
  Known t (some c) = Accepted t c

  known : (t : ℕ) (cs : List Call) (z : Option Call) → Known t z → Known t (last_after rack statuses t cs z)
  unfolding last_after
  known t [] z k = k
  known t (c ∷ cs) z k = known t cs _ (go (sets rack statuses t c) refl)
    where
      go : (b : Bool) → sets rack statuses t c ≡ b → Known t (cond b (some c) z)
      go true e = accepted t c e
      go false e = k

  pub last_accepted : (t : ℕ) (cs : List Call) {c : Call} → last_for rack statuses t cs ≡ some c → Accepted t c
  last_accepted t cs e = rw e at (known t cs none tt)

  -- ---- from all E

  module _ (cs : List Call) {t p : ℕ} (h : t < 10) (g : p < 10) where
    -- the word for sender t and card p: that of the last exchange
    pub word_after : word_at (after_calls rack statuses start cs) t p ≡ word_left rack statuses (last_for rack statuses t cs) p
    unfolding start
    word_after =
        ap (λ (row : List ℤ). at row p) (row_after start (length-replicate 10 (replicate 10 E)) cs t ∙ ap (row_left rack statuses (last_for rack statuses t cs)) (get_or-replicate 10 t (replicate 10 E) [] h))
        ∙ go (last_for rack statuses t cs)
      where
        go : (z : Option Call) → at (row_left rack statuses z (replicate 10 E)) p ≡ word_left rack statuses z p
        go none = get_or-replicate 10 p E (pos 0) g
        go (some c) = row_word (rule_of rack) (exchange_for rack statuses c) p g

    -- none was accepted for t
    pub unset_word : last_for rack statuses t cs ≡ none → word_at (after_calls rack statuses start cs) t p ≡ E
    unset_word e = word_after ∙ ap (λ (z : Option Call). word_left rack statuses z p) e

    -- the card's answer in the last that was
    pub set_word : {c : Call} → last_for rack statuses t cs ≡ some c → T (fits rack p) → word_at (after_calls rack statuses start cs) t p ≡ answer_of (rule_of rack) (exchange_for rack statuses c) p
    set_word e f = word_after ∙ ap (λ (z : Option Call). word_left rack statuses z p) e ∙ rw (T_eq (fits rack p) f)

    -- the card is n or more
    pub absent_card : fits rack p ≡ false → word_at (after_calls rack statuses start cs) t p ≡ E
    absent_card f = word_after ∙ go (last_for rack statuses t cs)
      where
        go : (z : Option Call) → word_left rack statuses z p ≡ E
        go none = refl
        go (some c) = rw f

    -- the sender is
    pub absent_sender : fits rack t ≡ false → word_at (after_calls rack statuses start cs) t p ≡ E
    absent_sender f = word_after ∙ go (last_for rack statuses t cs) refl
      where
        go : (z : Option Call) → last_for rack statuses t cs ≡ z → word_left rack statuses z p ≡ E
        go none e = refl
        go (some c) e =
            let a = last_accepted t cs e in
            absurd (true≢false (sym (T_eq (fits rack t) (rw a.of_sender at a.turn.sender)) ∙ f))

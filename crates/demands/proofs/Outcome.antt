-- Every card is sender in turn: the outcome. First what each function's contract says of a call, then what stands in the outcome after a run of exchanges, and that a card's own books hold its column.
use Prim.Native.Nat.{ℕ, ◌+◌, ◌*◌, ◌≤◌, ◌<◌}
use mathlib.Core.Path.{◌≡◌, refl, sym, ap, ◌∙◌}
use mathlib.Core.Bool.{false, not}
use mathlib.Core.List.{List}
use mathlib.Core.Option.{Option, none, some}
use lib.Dec.{T}
use lib.IntN.{ℤ}
use lib.ListN.{length}
use Rattle.ground.specs.Checks.{verdict}
use Rattle.ground.specs.Answer.{value, outcome, refusal_of, of_result}
use Rattle.ground.specs.Fixes.{Allows}
use Rattle.ground.specs.Lists.{at}
use Rattle.ground.proofs.Bools.{T_eq}
use Rattle.ground.proofs.Verdicts.{none-verdict, no_verdicts, rest_decides}
use Rattle.words.specs.Word.{E}
use Rattle.settings.specs.Settings.{cards, fits, turn_checks, settings_checks}
use Rattle.settings.specs.declared.Rack.{Rack}
use Rattle.paths.specs.Slots.{live}
use Rattle.vote.specs.Vote.{rule_of}
use Rattle.book.specs.Asked.{held_asked}
use Rattle.entering.specs.Run.{left_at}
use Rattle.arrivals.specs.Run.{entries_of}
use Rattle.exchange.specs.declared.Status.TheVariants as Status
use Rattle.exchange.specs.Exchange.{statuses_of, dealt}
use Rattle.bound.specs.Bound.{arbitraries, symmetrics, manifests}
use Rattle.agreement.proofs.Demand2.{GoodCard, Demand2, demand_2}
use Rattle.books.specs.Books.{books_words, book_from}
use Rattle.books.specs.Run.{Mixed, open_called, own_of}
use Rattle.books.proofs.Parts.{from_sized, good_has}
use Rattle.books.proofs.Runs.{mixed_run}
use Rattle.outcomes.specs.Rows.{start, word_at, outcome_words}
use Rattle.outcomes.specs.Asked.{row_asked, start_asked, list_asked}
use Rattle.outcomes.specs.Run.{Call, turn_for, exchange_for, after_calls, last_for, started_list}
use Rattle.outcomes.proofs.Runs.{Accepted, last_accepted, unset_word, set_word, absent_card, absent_sender}
use Rattle.outcomes.proofs.Flat.{started_word}
use Rattle.omh.specs.Numbers.{turn, numbered}
use Rattle.demands.proofs.Cards.{card_of, holds-dealt}
use Rattle.outcomes.proofs.start.Kinds as starts
use Rattle.outcomes.proofs.start.Reads as starts_says
use Rattle.outcomes.proofs.set_row.Kinds as set_row
use Rattle.outcomes.proofs.set_row.Reads as set_row_says
use Rattle.outcomes.proofs.start_list.Kinds as start_list
use Rattle.outcomes.proofs.start_list.Reads as start_list_says
use Rattle.outcomes.proofs.set_in_list.Kinds as set_in_list
use Rattle.outcomes.proofs.set_in_list.Reads as set_in_list_says
use Rattle.omh.proofs.omh_outcome_start.Kinds as c_start
use Rattle.omh.proofs.omh_outcome_start.Reads as c_start_says
use Rattle.omh.proofs.omh_outcome_set.Kinds as c_set
use Rattle.omh.proofs.omh_outcome_set.Reads as c_set_says

-- ---- what the contracts say of a call

pub starts-all-E : Allows 0 starts.ps starts.r starts_says.Post (λ κs a x e. x ≡ start)
starts-all-E κs a x e p = p

-- the number of the refusal beside it, and the outcome handed back
pub set_row_leaves : Allows 2 set_row.ps set_row.r set_row_says.Post (λ κs a x e. outcome (refusal_of x.1) x.0 ≡ row_asked a.0 a.1.0 a.1.1.0.now a.1.1.1.0.now a.1.1.1.1.0)
set_row_leaves κs a x e p = p

pub start_list_leaves : Allows 1 start_list.ps start_list.r start_list_says.Post (λ κs a x e. outcome (of_result x) e.0.now ≡ start_asked a.0.now)
start_list_leaves κs a x e p = p

pub set_in_list_leaves : Allows 3 set_in_list.ps set_in_list.r set_in_list_says.Post (λ κs a x e. outcome (of_result x) e.1.1.1.1.0.now ≡ list_asked a.0 a.1.0 a.1.1.0.now a.1.1.1.0.now a.1.1.1.1.0.now)
set_in_list_leaves κs a x e p = p

-- and so what C gets
pub c_start-leaves : Allows 1 c_start.ps c_start.r c_start_says.Post (λ κs a x e. outcome x e.0.now ≡ numbered (start_asked a.0.now))
c_start-leaves κs a x e p = p

pub c_set-leaves : Allows 3 c_set.ps c_set.r c_set_says.Post (λ κs a x e. outcome x e.1.1.1.1.1.1.0.now ≡ numbered (list_asked (turn a.0 a.1.0 a.1.1.0) a.1.1.1.0 a.1.1.1.1.0.now a.1.1.1.1.1.0.now a.1.1.1.1.1.1.0.now))
c_set-leaves κs a x e p = p

-- ---- what stands in the outcome

-- n, m and statuses, kept; cs are calls in their order, senders in any order and repeated, refused calls among them
module _ (rack : Rack) (statuses : List ℕ) (cs : List Call) where
  -- n > 2a + 2s + c + m
  abbrev Enough : Type 0
  Enough = 2 * arbitraries rack (statuses_of statuses) + 2 * symmetrics rack (statuses_of statuses) + manifests rack (statuses_of statuses) + rack.m < cards rack

  -- the word in the row of sender t and the column of card p, after those calls from all E
  abbrev told : ℕ → ℕ → ℤ
  told t p = word_at (after_calls rack statuses start cs) t p

  -- card p is of the rack, and good
  pub record Good (p : ℕ) : Type 0 where
    pub ten : p < 10
    pub card : T (fits rack p)
    pub is_good : statuses_of statuses p ≡ Status.Good

  pub record Outcome : Type 0 where
    -- Within the bound the columns of two good cards are equal, in every row.
    pub columns : Enough → arbitraries rack (statuses_of statuses) ≤ rack.m → (t p q : ℕ) → t < 10 → Good p → Good q → told t p ≡ told t q
    -- Where n > 2a + 2s + c + m, a good sender's value, that of its last exchange, stands in each good column of its row.
    pub sender_good : Enough → (t : ℕ) → t < 10 → statuses_of statuses t ≡ Status.Good → (c : Call) → last_for rack statuses t cs ≡ some c → (p : ℕ) → Good p → told t p ≡ c.value
    -- E stands where the sender is n or more, where the card is, and in a row that no exchange has set.
    pub no_sender : (t p : ℕ) → t < 10 → p < 10 → fits rack t ≡ false → told t p ≡ E
    pub no_card : (t p : ℕ) → t < 10 → p < 10 → fits rack p ≡ false → told t p ≡ E
    pub not_set : (t p : ℕ) → t < 10 → p < 10 → last_for rack statuses t cs ≡ none → told t p ≡ E
    -- The list of 100 words has the same words, row after row.
    pub in_list : (list : List ℤ) → length list ≡ outcome_words → (t p : ℕ) → t < 10 → p < 10 → at (started_list rack statuses list cs) (10 * t + p) ≡ told t p
    -- A card's own books hold its column: after `open` for t and any calls for all senders, in any order, by which t's accepted words leave on each live path the word that t's last exchange deals to the card there, the held answer of t's part is the outcome's word in row t.
    pub own_column : (t : ℕ) (c : Call) → t < 10 → last_for rack statuses t cs ≡ some c → (p : ℕ) → p < 10 → T (fits rack p) → let s = card_of (turn_for rack c) p in (l : List ℤ) → length l ≡ books_words → (xs : List (Mixed s)) → ((k : ℕ) → T (live s k) → left_at s k (entries_of s (own_of s xs)) E ≡ dealt (rule_of rack) (exchange_for rack statuses c) k p) → held_asked (book_from t (open_called s l xs)) ≡ value (told t p)

  -- ---- the laws that it rests on

  demand : (t : ℕ) {c : Call} → Accepted rack statuses t c → Demand2 (exchange_for rack statuses c)
  demand t {c} a = demand_2 (exchange_for rack statuses c) (record { ten = a.turn.rack.few; three = a.turn.rack.deep; sends = a.turn.sender })

  good_card : (c : Call) {p : ℕ} → Good p → GoodCard (exchange_for rack statuses c) p
  good_card c g = record { card = g.card; is_good = g.is_good }

  equal : Enough → arbitraries rack (statuses_of statuses) ≤ rack.m → (t p q : ℕ) → t < 10 → Good p → Good q → (z : Option Call) → last_for rack statuses t cs ≡ z → told t p ≡ told t q
  equal e f t p q h i j none l = unset_word rack statuses cs h i.ten l ∙ sym (unset_word rack statuses cs h j.ten l)
  equal e f t p q h i j (some c) l =
      let d = demand t (last_accepted rack statuses t cs l) in
      set_word rack statuses cs h i.ten l i.card ∙ d.agree (d.bound_says.1 (e, f)) p q (good_card c i) (good_card c j) ∙ sym (set_word rack statuses cs h j.ten l j.card)

  -- the settings of a card of the rack for an exchange that is not refused
  checked : (t : ℕ) {c : Call} → Accepted rack statuses t c → (p : ℕ) → T (fits rack p) → verdict (settings_checks (card_of (turn_for rack c) p)) ≡ 0
  checked t {c} a p f =
      rest_decides (turn_checks (turn_for rack c)) _ tt (no_verdicts (turn_checks (turn_for rack c)) _ tt a.number).0
      ∙ none-verdict _ (ap not (T_eq (fits rack p) f), tt)

  pub outcome-holds : Outcome
  outcome-holds = record {
    columns = λ e f t p q h i j. equal e f t p q h i j (last_for rack statuses t cs) refl;
    sender_good = λ e t h s c l p i.
        let a = last_accepted rack statuses t cs l in
        let d = demand t a in
        set_word rack statuses cs h i.ten l i.card ∙ d.sender_good (d.enough_says.1 e) (rw a.of_sender s) a.ordinary p (good_card c i);
    no_sender = λ t p h g. absent_sender rack statuses cs h g;
    no_card = λ t p h g. absent_card rack statuses cs h g;
    not_set = λ t p h g. unset_word rack statuses cs h g;
    in_list = λ list long t p h g. started_word rack statuses list long cs h g;
    own_column = λ t c h l p g f list long xs dealt-there.
        let a = last_accepted rack statuses t cs l in
        let s = card_of (turn_for rack c) p in
        let fine = checked t a p f in
        ap (λ (u : ℕ). held_asked (book_from u (open_called s list xs))) (sym a.of_sender)
        ∙ ap held_asked (mixed_run s fine list long xs)
        ∙ holds-dealt (exchange_for rack statuses c) p fine (book_from s.t list) (from_sized (good_has s list fine long)) (own_of s xs) dealt-there
        ∙ ap value (sym (set_word rack statuses cs h g l f));
  }

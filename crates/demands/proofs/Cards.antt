-- Demand 2, the laws: what the answers of good cards are where the calls for them are not refused.
use Prim.Native.Nat.{ℕ, ◌+◌, ◌*◌, ◌≤◌, ◌<◌}
use mathlib.Core.Path.{◌≡◌, refl, sym, ap, ◌∙◌}
use mathlib.Core.Bool.{Bool, true, not, cond}
use mathlib.Core.List.{List, [], ◌∷◌}
use mathlib.Core.Logic.{◌↔◌}
use native.Mathlib.Omega.{arith}
use lib.Dec.{T, eqb}
use lib.IntN.{ℤ, pos}
use lib.ListN.{length, get_or}
use borrow.Author.Tests.{eq-eqb}
use Rattle.ground.specs.Refusal as refusal
use Rattle.ground.specs.Checks.{Check, check, verdict, NoneOf}
use Rattle.ground.specs.Answer.{value, after, outcome_by}
use Rattle.ground.specs.Lists.{at}
use Rattle.ground.proofs.Answers.{answer-given, value-verdict}
use Rattle.ground.proofs.Bools.{T_eq}
use Rattle.ground.proofs.Lists.{at_table}
use Rattle.ground.proofs.Verdicts.{none-verdict, no_verdicts, rest_decides}
use Rattle.words.specs.Word.{E, kind_of, read_at}
use Rattle.words.specs.declared.Kind.TheVariants.{Ordinary}
use Rattle.settings.specs.Settings.{slots, fits, settings_checks}
use Rattle.settings.specs.declared.Turn.{Turn}
use Rattle.settings.specs.declared.Settings.{Settings}
use Rattle.settings.proofs.Good.{Good, settings_good, fits_ten}
use Rattle.paths.specs.Slots.{live}
use Rattle.paths.proofs.Live.{live-slot, live_zero}
use Rattle.vote.specs.Asked.{vote_asked}
use Rattle.vote.specs.Vote.{rule_of}
use Rattle.book.specs.Book.{Book, held, Sized}
use Rattle.book.specs.Asked.{held_asked}
use Rattle.entering.specs.Run.{left_at, words_left}
use Rattle.arrivals.specs.Run.{Arrival, entries_of, open_arrived}
use Rattle.arrivals.proofs.Runs.{held_after_arrivals}
use Rattle.exchange.specs.declared.Status.TheVariants as Status
use Rattle.exchange.specs.Exchange.{status_of, statuses_of, Exchange, exchange, settings_for, dealt, answer_of}
use Rattle.exchange.specs.Asked.{inputs_long}
use Rattle.exchange.proofs.Asking.{values_asked}
use Rattle.exchange.proofs.Dealing.{answer_from}
use Rattle.bench.specs.Asked.{answers_of, answer_checks, answer_for_asked, answers_asked}
use Rattle.dealing.specs.Asked.{fill_asked}
use Rattle.dealing.proofs.Filling.{filled_held}
use Rattle.bound.specs.Bound.{bound_asked}
use Rattle.bound.proofs.Says.{bounded_says}
use Rattle.agreement.proofs.Demand2.{n, m, a, s, c, GoodCard, Demand2, demand_2}

-- the settings of card p
abbrev pub card_of : Turn → ℕ → Settings
card_of turn p = record { rack = turn.rack; t = turn.t; p = p }

-- a book, opened, after a run whose accepted words leave, on each live path, the word dealt there to the card
module _ (X : Exchange) (p : ℕ) where
  abbrev mine : Settings
  mine = settings_for X p

  word-left : (xs : List Arrival) (k : ℕ) → T (live mine k) → at (words_left mine (entries_of mine xs)) k ≡ left_at mine k (entries_of mine xs) E
  unfolding words_left
  word-left xs k l =
      let e : 0 + k ≡ k = omega arith in
      at_table 1111 0 _ k (pos 0) (live-slot mine k l) ∙ ap (λ (j : ℕ). left_at mine j (entries_of mine xs) E) e

  pub holds-dealt : verdict (settings_checks mine) ≡ 0 → (b : Book) → Sized b → (xs : List Arrival) → ((k : ℕ) → T (live mine k) → left_at mine k (entries_of mine xs) E ≡ dealt (rule_of X.rack) X k p) → held_asked (open_arrived mine b xs) ≡ value (answer_of (rule_of X.rack) X p)
  holds-dealt fine b z xs h =
      held_after_arrivals mine fine b z xs ∙ ap value (answer_from (rule_of X.rack) X p (words_left mine (entries_of mine xs)) (λ k l. word-left xs k l ∙ h k l))

module _ (turn : Turn) (x : ℤ) (statuses : List ℕ) (words : List ℤ) where
  abbrev X : Exchange
  X = exchange turn x statuses words

  abbrev own : ℕ → Settings
  own p = card_of turn p

  -- card p is good, and `answer_for` tells w of it
  pub record Tells (p : ℕ) (w : ℤ) : Type 0 where
    pub is_good : get_or statuses p 0 ≡ 0
    pub tells : answer_for_asked (own p) x statuses words ≡ value w

  module _ {p : ℕ} {w : ℤ} (t : Tells p w) where
    none : verdict (answer_checks (own p) x statuses words) ≡ 0
    unfolding answer_for_asked
    none = (value-verdict _ _ t.tells).0

    answers : answer_of (rule_of turn.rack) X p ≡ w
    unfolding answer_for_asked
    answers = (value-verdict _ _ t.tells).1

    checked : verdict (settings_checks (own p)) ≡ 0
    checked = (no_verdicts (settings_checks (own p)) _ tt none).0

    settled : Good (own p)
    settled = settings_good (own p) checked

    ordinary : kind_of x ≡ Ordinary
    ordinary = (values_asked turn.rack x statuses (inputs_long statuses words) (no_verdicts (settings_checks (own p)) _ tt none).1).2

    card : GoodCard X p
    unfolding status_of
    card = record { card = settled.own; is_good = ap status_of t.is_good }

    demand : Demand2 X
    demand = demand_2 X (record { ten = settled.turn.rack.few; three = settled.turn.rack.deep; sends = settled.turn.sender })

    pub tells_value : 2 * a X + 2 * s X + c X + m X < n X → statuses_of statuses turn.t ≡ Status.Good → w ≡ x
    tells_value e q = sym answers ∙ demand.sender_good (demand.enough_says.1 e) q ordinary p card

    pub tells_read : 2 * a X + 2 * s X + c X + m X < n X → statuses_of statuses turn.t ≡ Status.Symmetric → w ≡ read_at 0 (at words 0)
    tells_read e q = sym answers ∙ demand.sender_symmetric (demand.enough_says.1 e) q p card

    pub tells_missing : 2 * a X + 2 * s X + c X + m X < n X → statuses_of statuses turn.t ≡ Status.Manifest → w ≡ E
    tells_missing e q = sym answers ∙ demand.sender_manifest (demand.enough_says.1 e) q p card

    -- ---- the other calls for answers

    pub all_tell : (list : List ℤ) → (answers_asked turn x statuses words list).yields ≡ value tt → at (answers_asked turn x statuses words list).leaves p ≡ w
    unfolding answers_asked outcome_by after answers_of
    all_tell list d =
        let e : 0 + p ≡ p = omega arith in
        rw (value-verdict tt _ d).0
        (at_table 10 0 _ p (pos 0) (fits_ten turn.rack settled.turn.rack.few p settled.own)
        ∙ ap (λ (q : ℕ). cond (fits turn.rack q) (answer_of (rule_of turn.rack) X q) (at list q)) e
        ∙ rw (T_eq (fits turn.rack p) settled.own) answers)

    pub filled_tells : (b : Book) → (fill_asked (own p) x statuses words b).yields ≡ value tt → held (fill_asked (own p) x statuses words b).leaves ≡ w
    unfolding fill_asked outcome_by after
    filled_tells b d = rw (value-verdict tt _ d).0 (filled_held (rule_of turn.rack) X p b ∙ answers)

    -- ---- the card's own words, and its own book

    -- the checks of a vote at slot 0 that come after those of the settings
    abbrev rest : List ℤ → List Check
    rest ws = check refusal.long (not (eqb (length ws) slots)) ∷ check refusal.path (not (live (own p) 0)) ∷ []

    -- the plain vote over words that are, on each live path, the word dealt there
    pub votes-answer : (ws : List ℤ) → length ws ≡ slots → ((k : ℕ) → T (live (own p) k) → at ws k ≡ dealt (rule_of turn.rack) X k p) → vote_asked (own p) ws 0 ≡ value w
    unfolding vote_asked
    votes-answer ws long h =
        let passes : NoneOf (rest ws) = (ap not (eq-eqb (length ws) slots long), (ap not (T_eq (live (own p) 0) (live_zero (own p))), tt)) in
        sym (answer-given (sym (rest_decides (settings_checks (own p)) (rest ws) tt checked ∙ none-verdict (rest ws) passes)) refl (sym (answer_from (rule_of turn.rack) X p ws h ∙ answers)))

    -- the held answer after a run whose accepted words leave, on each live path, the word dealt there
    pub holds-answer : (b : Book) → Sized b → (xs : List Arrival) → ((k : ℕ) → T (live (own p) k) → left_at (own p) k (entries_of (own p) xs) E ≡ dealt (rule_of turn.rack) X k p) → held_asked (open_arrived (own p) b xs) ≡ value w
    holds-answer b z xs h = holds-dealt X p checked b z xs h ∙ ap value answers

  -- any two good cards
  pub tell_same : 2 * a X + 2 * s X + c X + m X < n X → a X ≤ m X → {p q : ℕ} {w v : ℤ} → Tells p w → Tells q v → w ≡ v
  tell_same e f {p} {q} t u = sym (answers t) ∙ (demand t).agree ((demand t).bound_says.1 (e, f)) p q (card t) (card u) ∙ answers u

  -- what the bound test says
  pub bound_is : (b : Bool) → bound_asked turn.rack statuses ≡ value b → (b ≡ true) ↔ ((2 * a X + 2 * s X + c X + m X < n X) × (a X ≤ m X))
  unfolding bound_asked
  bound_is b e =
      let says = bounded_says turn.rack (statuses_of statuses) in
      let is = (value-verdict _ _ e).1 in
      (λ t. says.0 (is ∙ t), λ h. sym is ∙ says.1 h)

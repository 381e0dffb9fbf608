-- A book filled: what a call that is not refused leaves, and that it holds its card's answer.
use Prim.Native.Nat.{ℕ, ◌+◌, ◌≤◌, ◌<◌}
use mathlib.Core.Path.{◌≡◌, refl, sym, ap, ap₂, ◌∙◌}
use mathlib.Core.Bool.{Bool, true, cond, not, ◌&&◌, and-eq-true_iff}
use mathlib.Core.List.{List}
use native.Mathlib.Omega.{arith}
use lib.IntN.{ℤ, pos}
use lib.ListN.{length, get_or}
use Rattle.ground.specs.Checks.{verdict}
use Rattle.ground.specs.Lists.{at, table}
use Rattle.ground.proofs.Answers.{outcome_done}
use Rattle.ground.proofs.Bools.{cond_yes}
use Rattle.ground.proofs.Lists.{length-table, at_table}
use Rattle.ground.proofs.Verdicts.{no_verdicts}
use Rattle.words.specs.Rule.{Rule}
use Rattle.settings.specs.Settings.{slots, turn_of, settings_checks}
use Rattle.settings.specs.declared.Settings.{Settings}
use Rattle.settings.proofs.Good.{Good}
use Rattle.paths.specs.Slots.{live, may_relay, rounds_left}
use Rattle.paths.specs.Walk.{put_in}
use Rattle.paths.proofs.Live.{live_zero, live-slot}
use Rattle.paths.proofs.Members.{first-members}
use Rattle.paths.proofs.Walk.{put_is}
use Rattle.vote.specs.Vote.{rule_of}
use Rattle.book.specs.Book.{Book, book_of, sized, held, Sized}
use Rattle.book.proofs.Asking.{sized_both, not_refused}
use Rattle.refilling.specs.Refilled.{refilled, refill_asked}
use Rattle.refilling.proofs.Refilled.{refilled_agrees}
use Rattle.exchange.specs.Exchange.{Exchange, exchange, settings_for, dealt, answer_of}
use Rattle.exchange.specs.Asked.{inputs_long}
use Rattle.exchange.proofs.Dealing.{sends_first, answer_from}
use Rattle.dealing.specs.Dealt.{dealt_over, filled_for}
use Rattle.dealing.specs.DealOrder.{dealt_to, DealtFrom}
use Rattle.dealing.specs.Asked.{fill_checks, fill_asked}
use Rattle.exchange.proofs.Asking.{card-asked}

pub length-dealt : (R : Rule) (X : Exchange) (p : ℕ) (before : List ℤ) → length (dealt_over R X p before) ≡ slots
unfolding dealt_over
length-dealt R X p before = length-table slots 0 _

-- dealt from slot 0 on, with all cards that may relay and all rounds, the words are dealt at every live slot
pub dealt-all : (R : Rule) (s : Settings) (x : ℤ) (statuses : List ℕ) (words before : List ℤ) {members members-after : List Bool} {left : ℕ} {word : ℤ} {after : List ℤ} → s.rack.m ≤ 3 → length before ≡ slots → members ≡ table 10 0 (may_relay s) → left ≡ rounds_left s 0 → word ≡ x → DealtFrom R statuses words s.p members (record { left = left; d = 0; k = 0 }) (record { status = get_or statuses s.t 0; word = word }) before after members-after → after ≡ dealt_over R (exchange (turn_of s) x statuses words) s.p before
unfolding dealt_over
dealt-all R s x statuses words before few long e f g h =
    let X = exchange (turn_of s) x statuses words in
    h.words (turn_of s) x (rw g (sends_first R X))
    ∙ ap₂ (λ (l : List Bool) (r : ℕ). put_in (dealt_to R X s.p) l r 0 0 before) (e ∙ first-members s) f
    ∙ put_is s _ (λ k. dealt R X k s.p) before few long (λ o r d k members h. refl) (λ e. refl)

-- ---- a call that is not refused

module _ (s : Settings) (x : ℤ) (statuses : List ℕ) (words : List ℤ) (b : Book) (e : verdict (fill_checks s x statuses words b) ≡ 0) where
  long : (inputs_long statuses words ≡ true) × (sized b ≡ true)
  long = (and-eq-true_iff (inputs_long statuses words) (sized b)).0 (card-asked s x statuses _ e).1

  pub fill-asked : Good s × (inputs_long statuses words ≡ true) × Sized b
  fill-asked = ((card-asked s x statuses (inputs_long statuses words && sized b) e).0, long.0, sized_both b (ap not long.1))

  -- dealt, then refilled
  pub filling : {dealt-words : List ℤ} → dealt-words ≡ dealt_over (rule_of s.rack) (exchange (turn_of s) x statuses words) s.p b.words → refill_asked s (book_of dealt-words b.votes) ≡ fill_asked s x statuses words b
  unfolding fill_asked filled_for
  filling {dealt-words} f =
      let whole : Sized (book_of dealt-words b.votes) = record { words_long = ap length f ∙ length-dealt (rule_of s.rack) (exchange (turn_of s) x statuses words) s.p b.words; votes_long = fill-asked.2.votes_long } in
      let settings = (no_verdicts (settings_checks s) _ tt e).0 in
      sym (outcome_done refl (not_refused s (book_of dealt-words b.votes) settings whole) _ refl)
      ∙ outcome_done refl e _ (ap (λ (ws : List ℤ). refilled (rule_of s.rack) s (book_of ws b.votes)) f)

-- ---- what it holds

-- at a live slot the word dealt, whatever stood there; elsewhere what stood there
pub filled_word : (R : Rule) (X : Exchange) (p : ℕ) (b : Book) (k : ℕ) → k < slots → at (filled_for R X p b).words k ≡ cond (live (settings_for X p) k) (dealt R X k p) (at b.words k)
unfolding filled_for dealt_over
filled_word R X p b k h = let e : 0 + k ≡ k = omega arith in at_table slots 0 _ k (pos 0) h ∙ ap (λ (j : ℕ). cond (live (settings_for X p) j) (dealt R X j p) (at b.words j)) e

-- a book filled for a card holds that card's answer, whatever it held before
pub filled_held : (R : Rule) (X : Exchange) (p : ℕ) (b : Book) → held (filled_for R X p b) ≡ answer_of R X p
filled_held R X p b =
    unfold filled_for in refilled_agrees R (settings_for X p) _ b.votes 0 (live_zero (settings_for X p))
    ∙ answer_from R X p _ (λ k t. filled_word R X p b k (live-slot (settings_for X p) k t) ∙ cond_yes (live (settings_for X p) k) _ _ t)

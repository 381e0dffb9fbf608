-- Laws of the dealt words: what a card of each status sends, a slot from the one above, what is sent on a longer path, and what a card's vote goes by.
use Prim.Native.Nat.{ℕ, zero, suc, ◌+◌, ◌≤◌, ◌<◌}
use mathlib.Core.Path.{◌≡◌, refl, sym, ap, ◌∙◌}
use mathlib.Core.Bool.{Bool, true, cond, ◌&&◌}
use mathlib.Core.List.{List}
use native.Mathlib.Omega.{arith}
use native.Mathlib.Decide.{ℕ_discrete}
use borrow.Author.Tests.{eq-eqb, ne_eqb}
use lib.Dec.{T, eqb}
use lib.IntN.{ℤ, pos}
use lib.ListN.{length, length-set, get_or, set}
use Rattle.ground.specs.Lists.{at, table}
use Rattle.ground.proofs.Lists.{length-table, at_table}
use Rattle.words.specs.Word.{E}
use Rattle.words.specs.Rule.{Rule}
use Rattle.settings.specs.Settings.{slots}
use Rattle.settings.specs.declared.Turn.{Turn}
use Rattle.settings.specs.declared.Settings.{Settings}
use Rattle.paths.specs.Slots.{below, above, last_relay, level, may_relay, live, rounds_left}
use Rattle.paths.specs.declared.Place.{Place}
use Rattle.paths.proofs.Levels.{level_pos, level_small, level-above, level-below, above-below, last_relay-below}
use Rattle.paths.proofs.Live.{live-slot, live_zero}
use Rattle.paths.proofs.Handed.{left_few}
use Rattle.vote.specs.Vote.{vote}
use Rattle.vote.proofs.Votes.{vote-live}
use Rattle.exchange.specs.declared.Status.{Status}
use Rattle.exchange.specs.declared.Sent.{Sent}
use Rattle.exchange.specs.Exchange.{Exchange, exchange, status_of, settings_for, sent, dealt_at, dealt, received, answer_of}
use Rattle.exchange.specs.Sending.{sent_to, Sends, Deals, by, DealsFrom}

-- ---- by the status byte

module _ (s : ℕ) (word own first : ℤ) where
  pub sent_good : s ≡ 0 → word ≡ sent (status_of s) word own first
  unfolding status_of sent
  sent_good e = rw e

  pub sent_arbitrary : s ≡ 1 → own ≡ sent (status_of s) word own first
  unfolding status_of sent
  sent_arbitrary e = rw e

  pub sent_symmetric : s ≡ 2 → first ≡ sent (status_of s) word own first
  unfolding status_of sent
  sent_symmetric e = rw e

pub sent_manifest : (s : ℕ) (word own first : ℤ) → (s ≡ 0 → ⊥) → (s ≡ 1 → ⊥) → (s ≡ 2 → ⊥) → E ≡ sent (status_of s) word own first
unfolding status_of sent
sent_manifest zero word own first a b c = absurd (a refl)
sent_manifest (suc zero) word own first a b c = absurd (b refl)
sent_manifest (suc (suc zero)) word own first a b c = absurd (c refl)
sent_manifest (suc (suc (suc s))) word own first a b c = refl

-- ---- slot by slot

module _ (R : Rule) (X : Exchange) (k p : ℕ) {word r : ℤ} where
  -- at slot 0 the sender sends its value
  pub dealt-first : k ≡ 0 → word ≡ X.value → r ≡ sent (X.status X.sender) word (X.tabled k p) (X.tabled k 0) → r ≡ dealt R X k p
  unfolding dealt_at level
  dealt-first e w h = h ∙ rw (w, e)

  -- at any other the last relay sends on what it received one slot up
  pub dealt-next : 0 < k → k < 1111 → word ≡ R.wrap (R.read (level (above k)) (dealt R X (above k) (last_relay k))) → r ≡ sent (X.status (last_relay k)) word (X.tabled k p) (X.tabled k 0) → r ≡ dealt R X k p
  unfolding dealt_at
  dealt-next a b w h =
      let (d, e) = level_pos k b a in
      let f : level (above k) ≡ d = level-above k d b e in
      h ∙ rw (w, e, f)

-- one relay longer, by the relay q
pub dealt-below : (R : Rule) (X : Exchange) (k q : ℕ) → k < 111 → q < 10 → (p : ℕ) → dealt R X (below k q) p ≡ sent (X.status q) (R.wrap (R.read (level k) (dealt R X k q))) (X.tabled (below k q) p) (X.tabled (below k q) 0)
dealt-below R X k q h g p = sym (dealt-next R X (below k q) p (omega arith) (omega arith) refl (rw (above-below k q g, last_relay-below k q g)))

module _ (R : Rule) (X : Exchange) where
  -- on the path at slot 0 the sender sends,
  pub sends_first : Sends R X 0 (X.status X.sender) X.value
  unfolding dealt_at level
  sends_first q = refl

  -- and on a longer one its last relay
  pub sends_below : (d k q : ℕ) (status : Status) (word : ℤ) {relayed : ℤ} → k < 111 → level k ≡ d → q < 10 → relayed ≡ R.wrap (R.read d (sent status word (X.tabled k q) (X.tabled k 0))) → Sends R X k status word → Sends R X (below k q) (X.status q) relayed
  sends_below d k q status word h l g e s p = rw (e, ← l, s q) (sym (dealt-below R X k q h g p))

-- all but an arbitrary card send one word to all
pub sent-all : (status : ℕ) (word own other first : ℤ) → (status ≡ 1 → ⊥) → sent (status_of status) word own first ≡ sent (status_of status) word other first
unfolding status_of sent
sent-all zero word own other first n = refl
sent-all (suc zero) word own other first n = absurd (n refl)
sent-all (suc (suc zero)) word own other first n = refl
sent-all (suc (suc (suc k))) word own other first n = refl

-- only a good card's word is looked at
pub only_good : (status : ℕ) (word other own first : ℤ) → (status ≡ 0 → word ≡ other) → sent (status_of status) word own first ≡ sent (status_of status) other own first
unfolding status_of sent
only_good zero word other own first e = e refl
only_good (suc zero) word other own first e = refl
only_good (suc (suc zero)) word other own first e = refl
only_good (suc (suc (suc k))) word other own first e = refl

-- what a good relay sends on of what it received, told what it would be of another card's word
pub on_good : (R : Rule) (d status by : ℕ) (word own other first told : ℤ) → told ≡ R.wrap (R.read d (sent (status_of status) word other first)) → by ≡ 0 → cond (eqb status 1 && eqb by 0) (R.wrap (R.read d (sent (status_of status) word own first))) told ≡ R.wrap (R.read d (sent (status_of status) word own first))
on_good R d status by word own other first told e z = rw z (go (ℕ_discrete status 1))
  where
    go : Dec (status ≡ 1) → cond (eqb status 1 && true) (R.wrap (R.read d (sent (status_of status) word own first))) told ≡ R.wrap (R.read d (sent (status_of status) word own first))
    go (yes s) = rw (eq-eqb status 1 s)
    go (no n) = rw (ne_eqb status 1 n) (e ∙ ap (λ (w : ℤ). R.wrap (R.read d w)) (sent-all status word other own first n))

-- ---- from slot 0, with all cards that may relay and all rounds

pub deals_first : (s : Settings) {statuses : List ℕ} {words : List ℤ} {members : List Bool} {left : ℕ} → Deals s.t statuses words → s.rack.m ≤ 3 → s.p < 10 → members ≡ table 10 0 (may_relay s) → left ≡ rounds_left s 0 → DealsFrom statuses words s.p members (record { left = left; d = 0; k = 0 })
unfolding level
deals_first s given few card e f =
    record {
      statuses_long = given.statuses_long;
      table_long = given.table_long;
      card = card;
      cards = ap length e ∙ length-table 10 0 _;
      slot = omega arith;
      here = refl;
      deep = omega (arith, f, left_few s 0, few);
    }

-- ---- from a place, where a round is left

module _ {statuses : List ℕ} {words : List ℤ} {p : ℕ} {cards : List Bool} {at : Place} (pre : DealsFrom statuses words p cards at) (more : 0 < at.left) where
  -- the slot has room for a longer path
  small : at.k < 111
  small = level_small at.k pre.slot (omega (arith, pre.here, pre.deep))

  -- what the longer path is asked
  pub deals_below : {q : ℕ} → q < 10 → {members : List Bool} (v : Bool) → members ≡ cards → DealsFrom statuses words p (set members q v) (by at q)
  deals_below {q} h {members} v same =
      record {
        statuses_long = pre.statuses_long;
        table_long = pre.table_long;
        card = pre.card;
        cards = length-set members q v ∙ ap length same ∙ pre.cards;
        slot = omega (arith, small, h);
        here = omega (arith, level-below at.k q small h, pre.here);
        deep = omega (arith, pre.deep);
      }

  -- what is sent on it: a good relay sends on what it received, `told` what it would be of another card's word
  pub sends_longer : (R : Rule) (sent : Sent) (other : ℕ) {q : ℕ} → q < 10 → {received told word : ℤ} → received ≡ sent_to sent.status sent.word words at.k q → told ≡ R.wrap (R.read at.d (sent_to sent.status sent.word words at.k other)) → word ≡ cond (eqb sent.status 1 && eqb (get_or statuses q 0) 0) (R.wrap (R.read at.d received)) told →
      (turn : Turn) (x : ℤ) → Sends R (exchange turn x statuses words) at.k (status_of sent.status) sent.word → Sends R (exchange turn x statuses words) (below at.k q) (status_of (get_or statuses q 0)) word
  sends_longer R sent other {q} h g e w turn x s p =
      let by = get_or statuses q 0 in
      only_good by _ _ _ _ (λ z. rw g at w ∙ on_good R at.d sent.status by sent.word _ _ _ _ e z)
      ∙ sends_below R (exchange turn x statuses words) at.d at.k q _ sent.word small pre.here h refl s p

-- ---- what a card received

module _ (R : Rule) (X : Exchange) (p : ℕ) where
  -- the word at a slot of all that p receives
  pub at-received : (k : ℕ) → k < slots → at (received R X p) k ≡ dealt R X k p
  unfolding received
  at-received k h = let e : 0 + k ≡ k = omega arith in at_table slots 0 _ k (pos 0) h ∙ ap (λ (j : ℕ). dealt R X j p) e

  -- from a list that holds the words dealt at p's live slots comes p's answer
  pub answer_from : (words : List ℤ) → ((k : ℕ) → T (live (settings_for X p) k) → at words k ≡ dealt R X k p) → vote R (settings_for X p) words 0 ≡ answer_of R X p
  unfolding answer_of
  answer_from words h =
      vote-live R (settings_for X p) words (received R X p)
      (λ k t. h k t ∙ sym (at-received k (live-slot (settings_for X p) k t))) 0 (live_zero (settings_for X p))

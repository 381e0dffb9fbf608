-- The vote worked out from the exchange itself is the vote over what the card receives.
use Prim.Native.Nat.{ℕ, ◌+◌, ◌-◌, ◌≤◌, ◌<◌}
use mathlib.Core.Path.{◌≡◌, refl, sym, ap, ◌∙◌}
use mathlib.Core.Bool.{Bool, true, false, cond, ◌&&◌}
use mathlib.Core.List.{List, [], ◌∷◌, ◌++◌}
use native.Mathlib.Omega.{arith}
use lib.Dec.{eqb}
use lib.IntN.{ℤ}
use lib.ListN.{length, get_or, set, take}
use Rattle.ground.specs.Lists.{table}
use Rattle.words.specs.Majority.{kept}
use Rattle.words.specs.Counted.{majority_of}
use Rattle.words.specs.Rule.{Rule}
use Rattle.settings.specs.Settings.{turn_of}
use Rattle.settings.specs.declared.Turn.{Turn}
use Rattle.settings.specs.declared.Settings.{Settings}
use Rattle.paths.specs.Slots.{below, level, may_relay, rounds_left}
use Rattle.paths.specs.Walk.{may}
use Rattle.paths.specs.declared.Place.{Place}
use Rattle.paths.proofs.Handed.{put_back}
use Rattle.paths.proofs.Live.{live_zero}
use Rattle.paths.proofs.Members.{first-members}
use Rattle.vote.specs.Members.{member_vote}
use Rattle.vote.specs.Reports.{most_reports}
use Rattle.vote.proofs.Gather.{Gathered, gather_none, gather_more, gather_same, gather_decides, vote-last, vote_more}
use Rattle.vote.proofs.Handed.{path-vote}
use Rattle.exchange.specs.Exchange.{exchange, status_of, received, answer_of}
use Rattle.exchange.specs.Sending.{sent_to, Sends, by, DealsFrom}
use Rattle.exchange.specs.declared.Sent.{Sent}
use Rattle.exchange.proofs.Dealing.{sends_first, sends_longer, at-received}
use Rattle.bench.specs.Dealing.{VotedFrom}

-- the own report and those of the longer paths by the cards before q, in any exchange of these inputs in which this is sent at the place
pub record VotedBelow (R : Rule) (statuses : List ℕ) (words : List ℤ) (p : ℕ) (cards : List Bool) (at : Place) (sent : Sent) (own : ℤ) (q : ℕ) (reports : List ℤ) (members : List Bool) : Type 0 where
  pub votes : (turn : Turn) (x : ℤ) → Sends R (exchange turn x statuses words) at.k (status_of sent.status) sent.word → Gathered R (may cards) (λ q. member_vote R (received R (exchange turn x statuses words) p) (set cards q false) (at.left - 1) (at.d + 1) (below at.k q)) own q reports
  pub same : members ≡ cards

module _ {R : Rule} {statuses : List ℕ} {words : List ℤ} {p : ℕ} {cards : List Bool} {at : Place} {sent : Sent} where
  module _ (pre : DealsFrom statuses words p cards at) {own : ℤ} (value : own ≡ R.read at.d (sent_to sent.status sent.word words at.k p)) where
    -- no round is left
    pub voted-last : at.left ≡ 0 → VotedFrom R statuses words p cards at sent own cards
    voted-last z = record { voted = λ turn x s. value ∙ ap (R.read at.d) (s p ∙ sym (at-received R (exchange turn x statuses words) p at.k pre.slot)) ∙ sym (vote-last R _ _ at.left at.d at.k z); members = refl }

    -- of all ten cards
    pub voted_all : 0 < at.left → {q : ℕ} {reports : List ℤ} {members : List Bool} → VotedBelow R statuses words p cards at sent own q reports members → q ≤ 10 → 10 ≤ q → {v : ℤ} → v ≡ R.unwrap (majority_of R.struck R.none (length reports) reports) → VotedFrom R statuses words p cards at sent v members
    voted_all more h upto all f =
        record {
          voted = λ turn x s. gather_decides (h.votes turn x s) upto all (value ∙ ap (R.read at.d) (s p ∙ sym (at-received R (exchange turn x statuses words) p at.k pre.slot))) f ∙ sym (vote_more R _ cards at.left at.d at.k (λ z. omega (arith, more, z)));
          members = h.same;
        }

    -- one card more
    pub below_more : 0 < at.left → {q : ℕ} {reports : List ℤ} {members : List Bool} → VotedBelow R statuses words p cards at sent own q reports members → q < 10 → may members q ≡ true →
        {received told word : ℤ} → received ≡ sent_to sent.status sent.word words at.k q → told ≡ R.wrap own → word ≡ cond (eqb sent.status 1 && eqb (get_or statuses q 0) 0) (R.wrap (R.read at.d received)) told →
        {vote vote' : ℤ} {held : List Bool} → VotedFrom R statuses words p (set members q false) (by at q) (record { status = get_or statuses q 0; word = word }) vote held → vote' ≡ vote →
        {reports' : List ℤ} {members' : List Bool} → reports' ≡ take most_reports (reports ++ kept R.struck (vote' ∷ [])) → members' ≡ set held q true → VotedBelow R statuses words p cards at sent own (q + 1) reports' members'
    below_more more {q} {members = members} h b t g e w one v f n =
        record {
          votes = λ turn x s.
              gather_more (h.votes turn x s) b (rw (← h.same) t)
              (v
              ∙ one.voted turn x (sends_longer pre more R sent p b g (e ∙ ap R.wrap value) w turn x s)
              ∙ ap (λ (l : List Bool). member_vote R (received R (exchange turn x statuses words) p) (set l q false) (at.left - 1) (at.d + 1) (below at.k q)) h.same)
              f;
          same = n ∙ put_back members _ q t one.members ∙ h.same;
        }

  -- the own report alone
  pub below-first : {own : ℤ} {reports : List ℤ} → reports ≡ kept R.struck (R.wrap own ∷ []) → VotedBelow R statuses words p cards at sent own 0 reports cards
  below-first e = record { votes = λ turn x s. gather_none R _ _ _ e; same = refl }

  -- past a card that is no member
  pub below-same : {own : ℤ} {q : ℕ} {reports reports' : List ℤ} {members members' : List Bool} → VotedBelow R statuses words p cards at sent own q reports members → may members q ≡ false → reports' ≡ reports → members' ≡ members → VotedBelow R statuses words p cards at sent own (q + 1) reports' members'
  below-same h t f n = record { votes = λ turn x s. gather_same (h.votes turn x s) (rw (← h.same) t) f; same = n ∙ h.same }

-- from slot 0, with all cards that may relay and all rounds
pub dealt_answer : (R : Rule) (s : Settings) (x : ℤ) (statuses : List ℕ) (words : List ℤ) {members held : List Bool} {left : ℕ} {word v : ℤ} → s.rack.m ≤ 3 → members ≡ table 10 0 (may_relay s) → left ≡ rounds_left s 0 → word ≡ x → VotedFrom R statuses words s.p members (record { left = left; d = 0; k = 0 }) (record { status = get_or statuses s.t 0; word = word }) v held → v ≡ answer_of R (exchange (turn_of s) x statuses words) s.p
unfolding answer_of level
dealt_answer R s x statuses words few e f g h =
    h.voted (turn_of s) x (rw g (sends_first R (exchange (turn_of s) x statuses words)))
    ∙ path-vote R s _ 0 few (live_zero s) (e ∙ first-members s) refl f

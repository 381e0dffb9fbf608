-- Laws of dealing as the code does it: a word in its place after those of the longer paths, and the loop over the members.
use Prim.Native.Nat.{ℕ, ◌+◌, ◌-◌, ◌≤◌, ◌<◌}
use mathlib.Core.Path.{◌≡◌, refl, ap₂, ◌∙◌}
use mathlib.Core.Bool.{Bool, true, false, cond, ◌&&◌}
use mathlib.Core.List.{List}
use native.Mathlib.Omega.{arith}
use lib.Dec.{eqb}
use lib.IntN.{ℤ}
use lib.ListN.{get_or, set}
use Rattle.words.specs.Rule.{Rule}
use Rattle.paths.specs.Slots.{below}
use Rattle.paths.specs.Walk.{may, through, put_in}
use Rattle.paths.specs.declared.Place.{Place}
use Rattle.paths.proofs.Handed.{put_back}
use Rattle.paths.proofs.Walk.{put_last, put_more, through_yes, through_no}
use Rattle.exchange.specs.Exchange.{exchange}
use Rattle.exchange.specs.Sending.{sent_to, by, DealsFrom}
use Rattle.exchange.specs.declared.Sent.{Sent}
use Rattle.exchange.proofs.Dealing.{sends_longer}
use Rattle.dealing.specs.DealOrder.{dealt_to, DealtFrom, DealtBelow}

module _ {R : Rule} {statuses : List ℕ} {table : List ℤ} {p : ℕ} {cards : List Bool} {at : Place} {sent : Sent} {before : List ℤ} where
  -- ---- a word in its place, after those of the longer paths

  module _ {v : ℤ} (e : v ≡ sent_to sent.status sent.word table at.k p) {words : List ℤ} {members : List Bool} where
    pub deal_last : at.left ≤ 0 → words ≡ before → members ≡ cards → DealtFrom R statuses table p cards at sent before (set words at.k v) members
    deal_last z f g = record {
      words = λ turn x s. rw f (put_last (dealt_to R (exchange turn x statuses table) p) cards at.left at.d at.k before (omega (arith, z)) (e ∙ s p));
      members = g;
    }

    pub deal_more : 0 < at.left → {after : List ℤ} {held : List Bool} → DealtBelow R statuses table p cards at sent before 10 after held → words ≡ after → members ≡ held → DealtFrom R statuses table p cards at sent before (set words at.k v) members
    deal_more n b f g = record {
      words = λ turn x s. put_more (dealt_to R (exchange turn x statuses table) p) cards at.left at.d at.k before (λ z. omega (arith, n, z)) (e ∙ s p) (f ∙ b.words turn x s);
      members = g ∙ b.members;
    }

  -- ---- the loop over the members begins, has one member more, and goes past a card that is none

  pub below-first : DealtBelow R statuses table p cards at sent before 0 before cards
  unfolding through
  below-first = record { words = λ turn x s. refl; members = refl }

  pub below_more : DealsFrom statuses table p cards at → 0 < at.left → {q : ℕ} {words : List ℤ} {members : List Bool} → DealtBelow R statuses table p cards at sent before q words members → q < 10 → may members q ≡ true →
      {received told word : ℤ} → received ≡ sent_to sent.status sent.word table at.k q → told ≡ R.wrap (R.read at.d (sent_to sent.status sent.word table at.k 0)) → word ≡ cond (eqb sent.status 1 && eqb (get_or statuses q 0) 0) (R.wrap (R.read at.d received)) told →
      {after : List ℤ} {held : List Bool} → DealtFrom R statuses table p (set members q false) (by at q) (record { status = get_or statuses q 0; word = word }) words after held →
      {words' : List ℤ} {members' : List Bool} → words' ≡ after → members' ≡ set held q true → DealtBelow R statuses table p cards at sent before (q + 1) words' members'
  below_more pre more {q} {members = members} b h t g e w one f n =
      record {
        words = λ turn x s.
            through_yes (may cards) _ before q (rw (← b.members) t)
            (f
            ∙ one.words turn x (sends_longer pre more R sent 0 h g e w turn x s)
            ∙ ap₂ (λ (l : List Bool) (ws : List ℤ). put_in (dealt_to R (exchange turn x statuses table) p) (set l q false) (at.left - 1) (at.d + 1) (below at.k q) ws) b.members (b.words turn x s));
        members = n ∙ put_back members _ q t one.members ∙ b.members;
      }

  pub below-same : {q : ℕ} {words words' : List ℤ} {members members' : List Bool} → DealtBelow R statuses table p cards at sent before q words members → may members q ≡ false → words' ≡ words → members' ≡ members → DealtBelow R statuses table p cards at sent before (q + 1) words' members'
  below-same {q} b t f n = record {
    words = λ turn x s. through_no (may cards) _ before q (rw (← b.members) t) (f ∙ b.words turn x s);
    members = n ∙ b.members;
  }

-- Laws of refilling as the code does it: a vote's two cases, and the loop over the members.
use Prim.Native.Nat.{ℕ, ◌+◌, ◌-◌, ◌≤◌, ◌<◌}
use mathlib.Core.Path.{◌≡◌, refl, sym, ap, ◌∙◌}
use mathlib.Core.Bool.{Bool, true, false}
use mathlib.Core.List.{List, [], ◌∷◌, ◌++◌}
use lib.IntN.{ℤ}
use lib.ListN.{length, set, take}
use Rattle.ground.specs.Lists.{at}
use Rattle.words.specs.Majority.{kept}
use Rattle.words.specs.Rule.{Rule}
use Rattle.words.specs.Counted.{majority_of}
use Rattle.paths.specs.declared.Place.{Place}
use Rattle.paths.specs.Slots.{below}
use Rattle.paths.specs.Walk.{may, through, put_below}
use Rattle.paths.proofs.Walk.{put_last, put_more, through_yes, through_no, through-all}
use Rattle.vote.specs.Members.{member_vote}
use Rattle.vote.specs.Reports.{most_reports}
use Rattle.vote.proofs.Gather.{Gathered, gather_none, gather_more, gather_same, gather_decides, vote-last, vote_more}
use Rattle.book.specs.Book.{Book, book_of}
use Rattle.refilling.specs.RefillOrder.{Refilling, RefillingBelow}

-- ---- a vote's two cases

module _ (R : Rule) (words votes : List ℤ) (cards : List Bool) (here : Place) where
  pub refill_reading : {now : List ℤ} {v : ℤ} → here.left ≡ 0 → now ≡ votes → v ≡ R.read here.d (at words here.k) → Refilling R (book_of words votes) cards here v (book_of words (set now here.k v))
  refill_reading {v = v} e p g =
      let vote = g ∙ sym (vote-last R words cards here.left here.d here.k e) in
      rw p (record { vote = vote; book = ap (book_of words) (put_last (member_vote R words) cards here.left here.d here.k votes e vote) })

  pub refill_decided : {now after : List ℤ} {own told v : ℤ} → (here.left ≡ 0 → ⊥) → now ≡ after → own ≡ R.read here.d (at words here.k) → RefillingBelow R (book_of words votes) cards here own told (book_of words after) → v ≡ told → Refilling R (book_of words votes) cards here v (book_of words (set now here.k v))
  refill_decided {v = v} n p g f e =
      let vote = e ∙ rw g at f.vote ∙ sym (vote_more R words cards here.left here.d here.k n) in
      rw p (record { vote = vote; book = ap (book_of words) (put_more (member_vote R words) cards here.left here.d here.k votes n vote (ap (λ (b : Book). b.votes) f.book)) })

-- ---- the loop over the members

-- the longer path by card q
abbrev pub next : Place → ℕ → Place
next here q = record { left = here.left - 1; d = here.d + 1; k = below here.k q }

-- the own report and those of the cards before q, and their votes in their places
pub record Placing (R : Rule) (words before : List ℤ) (cards : List Bool) (here : Place) (own : ℤ) (q : ℕ) (votes reports : List ℤ) : Type 0 where
  pub reported : Gathered R (may cards) (λ q. member_vote R words (set cards q false) (here.left - 1) (here.d + 1) (below here.k q)) own q reports
  pub placed : votes ≡ put_below (member_vote R words) cards (here.left - 1) here.d here.k q before

pub place_first : (R : Rule) (words votes : List ℤ) (cards : List Bool) (here : Place) (own : ℤ) {reports : List ℤ} → reports ≡ kept R.struck (R.wrap own ∷ []) → Placing R words votes cards here own 0 votes reports
unfolding through
place_first R words votes cards here own e = record { reported = gather_none R _ _ own e; placed = refl }

module _ {R : Rule} {words before : List ℤ} {cards : List Bool} {here : Place} {own : ℤ} {q : ℕ} {votes reports : List ℤ} (p : Placing R words before cards here own q votes reports) where
  module _ (h : q < 10) {members : List Bool} (same : members ≡ cards) {votes' reports' : List ℤ} where
    -- one card more, and one that is no member
    pub place_more : may members q ≡ true → {told v : ℤ} {after : List ℤ} → votes' ≡ after → Refilling R (book_of words votes) (set members q false) (next here q) told (book_of words after) → v ≡ told → reports' ≡ take most_reports (reports ++ kept R.struck (v ∷ [])) → Placing R words before cards here own (q + 1) votes' reports'
    place_more t g f e a =
        let one = rw (same, p.placed) at f in
        let member = rw same at t in
        rw g (record {
          reported = gather_more p.reported h member (e ∙ one.vote) a;
          placed = ap (λ (b : Book). b.votes) one.book ∙ through_yes (may cards) _ before q member refl;
        })

    pub place_same : may members q ≡ false → votes' ≡ votes → reports' ≡ reports → Placing R words before cards here own (q + 1) votes' reports'
    place_same t g a =
        let other = rw same at t in
        rw g (record {
          reported = gather_same p.reported other a;
          placed = p.placed ∙ through_no (may cards) _ before q other refl;
        })

  -- what all ten decide
  pub place_done : q ≤ 10 → 10 ≤ q → {reading v : ℤ} → own ≡ reading → v ≡ R.unwrap (majority_of R.struck R.none (length reports) reports) → RefillingBelow R (book_of words before) cards here reading v (book_of words votes)
  place_done upto all same e = record {
    vote = gather_decides p.reported upto all same e;
    book = ap (book_of words) (p.placed ∙ through-all _ _ before q upto all refl);
  }

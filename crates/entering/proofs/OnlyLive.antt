-- Words and votes at slots that are not live change nothing in an entering.
use Prim.Native.Nat.{ℕ, suc, ◌<◌}
use mathlib.Core.Path.{◌≡◌, sym, ap, ◌∙◌}
use mathlib.Core.List.{List, [], ◌∷◌}
use native.Mathlib.Omega.{arith}
use lib.Dec.{T, eqb}
use lib.IntN.{ℤ}
use lib.ListN.{length, set, length-set}
use Rattle.ground.specs.Answer.{outcome_by}
use Rattle.ground.specs.Lists.{at}
use Rattle.ground.proofs.Bools.{cond_same}
use Rattle.words.specs.Rule.{Rule}
use Rattle.settings.specs.Settings.{slots}
use Rattle.settings.specs.declared.Settings.{Settings}
use Rattle.paths.specs.Slots.{below, level, way, live}
use Rattle.paths.proofs.Live.{live-slot}
use Rattle.vote.proofs.Votes.{from_same}
use Rattle.book.specs.Book.{Book, Sized}
use Rattle.entering.specs.Entered.{holds, stored, remade, remade_along, entered}
use Rattle.entering.specs.Asked.{enter_asked}
use Rattle.entering.proofs.Along.{at_set, Falls, way_falls}

-- two lists hold the same at every live slot
abbrev pub SameLive : Settings → List ℤ → List ℤ → Type 0
SameLive s l m = (k : ℕ) → T (live s k) → at l k ≡ at m k

-- two books hold the same words and the same votes at live slots
pub record Alike (s : Settings) (b c : Book) : Type 0 where
  pub words_same : SameLive s b.words c.words
  pub votes_same : SameLive s b.votes c.votes

-- equal words or votes put into both
set_same : (s : Settings) (l m : List ℤ) (k : ℕ) (v u : ℤ) → length l ≡ slots → length m ≡ slots → k < slots → v ≡ u → SameLive s l m → SameLive s (set l k v) (set m k u)
set_same s l m k v u y z h e same j t =
    at_set l k j v (omega arith) ∙ cond_same (eqb k j) _ _ _ _ (λ _. e) (λ _. same j t) ∙ sym (at_set m k j u (omega arith))

-- the same word stored in both
stored_same : (s : Settings) (l m : List ℤ) (k : ℕ) (w : ℤ) → length l ≡ slots → length m ≡ slots → T (live s k) → SameLive s l m → SameLive s (stored l k w) (stored m k w)
unfolding stored
stored_same s l m k w y z t same = set_same s l m k _ _ y z (live-slot s k t) (ap (λ (v : ℤ). holds v w) (same k t)) same

-- votes re-made in both at the same slots
along_same : (R : Rule) (s : Settings) (ws us : List ℤ) → SameLive s ws us → (n : ℕ) (ks : List ℕ) (vs xs : List ℤ) → Falls s n ks → length vs ≡ slots → length xs ≡ slots → SameLive s vs xs → SameLive s (remade_along R s ws ks vs) (remade_along R s us ks xs)
unfolding remade_along remade
along_same R s ws us same n [] vs xs f y z h = h
along_same R s ws us same n (k ∷ ks) vs xs f y z h =
    along_same R s ws us same k ks _ _ f.2 (length-set vs k _ ∙ y) (length-set xs k _ ∙ z)
    (set_same s vs xs k _ _ y z (live-slot s k f.1)
    (from_same R s ws us _ _ k (same k f.1) (λ n q a b t. ap (R.read (level (below k q))) (h (below k q) t)))
    h)

-- the same entering into both
pub entered_alike : (R : Rule) (s : Settings) (b c : Book) → Alike s b c → Sized b → Sized c → (k : ℕ) (w : ℤ) → T (live s k) → Alike s (entered R s b k w) (entered R s c k w)
unfolding entered
entered_alike R s b c same y z k w t =
    let words = stored_same s b.words c.words k w y.words_long z.words_long t same.words_same in
    record {
      words_same = words;
      votes_same = along_same R s _ _ words (suc k) (way k) b.votes c.votes (way_falls s k t) y.votes_long z.votes_long same.votes_same;
    }

-- what an entering yields, done or refused, is the same for any lists of the same lengths
pub entering_yields : (s : Settings) (b c : Book) → length b.words ≡ length c.words → length b.votes ≡ length c.votes → (k : ℕ) (w : ℤ) → (enter_asked s b k w).yields ≡ (enter_asked s c k w).yields
unfolding outcome_by
entering_yields s b c words votes k w = rw (words, votes)

-- Laws of an entering: what it alters, and that every live held vote stays the vote from the words.
use Prim.Native.Nat.{ℕ, suc}
use mathlib.Core.Path.{◌≡◌, sym, ap, ◌∙◌}
use mathlib.Core.Logic.{◌≢◌}
use mathlib.Core.List.{List, Memᴰ}
use native.Mathlib.Decide.{ℕ_discrete}
use lib.Dec.{T}
use lib.IntN.{ℤ, pos}
use lib.ListN.{set, length-set}
use lib.Seq.{get_or-set_other, set-get_or}
use Rattle.ground.specs.Lists.{at}
use Rattle.words.specs.Rule.{Rule}
use Rattle.words.proofs.Lawful.{Lawful}
use Rattle.settings.specs.declared.Settings.{Settings}
use Rattle.paths.specs.Slots.{way, live}
use Rattle.paths.proofs.Live.{live-slot}
use Rattle.vote.proofs.Votes.{vote_local}
use Rattle.book.specs.Book.{Book, Sized}
use Rattle.entering.specs.Entered.{contradicted, holds, stored, entered}
use Rattle.entering.specs.Run.{Agrees}
use Rattle.entering.proofs.Holding.{stays}
use Rattle.entering.proofs.Along.{way_falls, length_along, along_other, along_right}

module _ (R : Rule) (s : Settings) (b : Book) (k : ℕ) (w : ℤ) where
  -- it alters one stored word at most
  pub entered_one_word : (j : ℕ) → j ≢ k → at (entered R s b k w).words j ≡ at b.words j
  unfolding entered stored
  entered_one_word j n = get_or-set_other b.words k j _ (pos 0) n

  -- a contradicted slot stays so
  pub entered_stays : (j : ℕ) → at b.words j ≡ contradicted → at (entered R s b k w).words j ≡ contradicted
  unfolding entered stored
  entered_stays j e = go (ℕ_discrete j k)
    where
      go : Dec (j ≡ k) → at (set b.words k (holds (at b.words k) w)) j ≡ contradicted
      go (yes q) =
          let here : at b.words k ≡ contradicted = ap (at b.words) (sym q) ∙ e in
          ap (λ (l : List ℤ). at l j) (ap (set b.words k) (ap (λ (v : ℤ). holds v w) here ∙ stays w ∙ sym here) ∙ set-get_or b.words k (pos 0)) ∙ e
      go (no n) = get_or-set_other b.words k j _ (pos 0) n ∙ e

  -- and no held vote but those on the way from its slot up to slot 0
  pub entered_on_the_way : (j : ℕ) → (Memᴰ j (way k) → ⊥) → at (entered R s b k w).votes j ≡ at b.votes j
  unfolding entered
  entered_on_the_way j off = along_other R s _ (way k) b.votes j off

  -- the lists keep their length
  pub entered-sized : Sized b → Sized (entered R s b k w)
  unfolding entered stored
  entered-sized z = record { words_long = length-set b.words k _ ∙ z.words_long; votes_long = length_along R s _ (way k) b.votes ∙ z.votes_long }

  -- every live held vote stays the vote from the words
  pub entered_agrees : Lawful R → T (live s k) → Sized b → Agrees R s b → Agrees R s (entered R s b k w)
  unfolding entered stored
  entered_agrees L t z h =
      along_right R s _ L (suc k) (way k) b.votes (way_falls s k t) z.votes_long
      (λ j u off. h j u ∙ sym (vote_local R s b.words k _ (live-slot s k t) j off))

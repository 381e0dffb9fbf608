-- Laws of a run of enterings from a book just opened: the words it leaves, and that each live held vote is the vote from them.
use Prim.Native.Nat.{ℕ, ◌<◌}
use mathlib.Core.Path.{◌≡◌, refl, sym, ap, ◌∙◌}
use mathlib.Core.Bool.{Bool, true, false, cond, ◌&&◌}
use mathlib.Core.List.{List, [], ◌∷◌}
use native.Mathlib.Omega.{arith}
use lib.Dec.{T, eqb, eqb→eq}
use lib.IntN.{ℤ, pos}
use lib.ListN.{get_or-replicate}
use Rattle.ground.specs.Lists.{at}
use Rattle.ground.proofs.Bools.{cond-case, cond_same}
use Rattle.ground.proofs.Lists.{is_table}
use Rattle.words.specs.Word.{E}
use Rattle.words.specs.Rule.{Rule}
use Rattle.words.proofs.Lawful.{Lawful}
use Rattle.settings.specs.Settings.{slots}
use Rattle.settings.specs.declared.Settings.{Settings}
use Rattle.paths.specs.Slots.{live}
use Rattle.paths.proofs.Live.{live-slot}
use Rattle.vote.specs.Vote.{vote}
use Rattle.vote.proofs.Votes.{vote-none}
use Rattle.book.specs.Book.{Book, Sized, opened}
use Rattle.book.proofs.Asking.{opened-sized}
use Rattle.entering.specs.Entered.{holds, stored, entered}
use Rattle.entering.specs.Run.{step, run, is_accepted, left_at, words_left, Agrees}
use Rattle.entering.specs.declared.Entry.{Entry}
use Rattle.entering.proofs.Along.{at_set}
use Rattle.entering.proofs.Entering.{entered-sized, entered_agrees}

-- ---- a book just opened

-- every word is missing
pub opened-word : (R : Rule) (k : ℕ) → k < slots → at (opened R).words k ≡ E
unfolding opened
opened-word R k h = get_or-replicate slots k E (pos 0) h

-- every vote is the word for none
opened-vote : (R : Rule) (k : ℕ) → k < slots → at (opened R).votes k ≡ R.none
unfolding opened
opened-vote R k h = get_or-replicate slots k R.none (pos 0) h

module _ (R : Rule) (s : Settings) where
  -- ---- what an entering keeps a run keeps

  run_keeps : (P : Book → Type 0) → ((b : Book) (e : Entry) → P b → P (step R s b e)) → (b : Book) (es : List Entry) → P b → P (run R s b es)
  unfolding run
  run_keeps P f b [] p = p
  run_keeps P f b (e ∷ es) p = run_keeps P f (step R s b e) es (f b e p)

  -- the lists keep their length, the entering refused or not
  pub step-sized : (b : Book) (e : Entry) → Sized b → Sized (step R s b e)
  unfolding step
  step-sized b e z = cond-case Sized (live s e.slot) _ _ (λ t. entered-sized R s b e.slot e.word z) (λ n. z)

  pub run-sized : (b : Book) (es : List Entry) → Sized b → Sized (run R s b es)
  run-sized = run_keeps Sized step-sized

  -- ---- the words after a run

  -- an accepted word is held at its slot as `holds` says, and no other word changes
  step-word : (b : Book) (e : Entry) (k : ℕ) → Sized b → at (step R s b e).words k ≡ cond (is_accepted s k e) (holds (at b.words k) e.word) (at b.words k)
  unfolding step entered stored
  step-word b e k z = go (live s e.slot) (λ t. live-slot s e.slot t)
    where
      go : (l : Bool) → (T l → e.slot < slots) → at (cond l (entered R s b e.slot e.word) b).words k ≡ cond (l && eqb e.slot k) (holds (at b.words k) e.word) (at b.words k)
      go true h =
          at_set b.words e.slot k _ (omega (arith, h tt, z.words_long))
          ∙ cond_same (eqb e.slot k) _ _ _ _ (λ t. ap (λ (j : ℕ). holds (at b.words j) e.word) (eqb→eq e.slot k t)) (λ n. refl)
      go false h = refl

  -- after a run a slot holds what the accepted words leave there
  run-word : (es : List Entry) (b : Book) (k : ℕ) → Sized b → at (run R s b es).words k ≡ left_at s k es (at b.words k)
  unfolding run left_at
  run-word [] b k z = refl
  run-word (e ∷ es) b k z = run-word es (step R s b e) k (step-sized b e z) ∙ ap (left_at s k es) (step-word b e k z)

  -- after a run from a book just opened the words are those that its accepted words leave
  pub run-words : (es : List Entry) → (run R s (opened R) es).words ≡ words_left s es
  unfolding words_left
  run-words es =
      is_table slots _ (pos 0) _ (run-sized (opened R) es (opened-sized R)).words_long
      (λ k h. run-word es (opened R) k (opened-sized R) ∙ ap (left_at s k es) (opened-word R k h))

  -- ---- the votes after a run

  module _ (L : Lawful R) where
    -- in a book just opened every live held vote is the vote from the words
    opened_agrees : Agrees R s (opened R)
    opened_agrees k t =
        opened-vote R k (live-slot s k t) ∙ sym (vote-none R s L (opened R).words (λ j u. opened-word R j (live-slot s j u)) k t)

    -- and after an entering they still are, refused or not
    step_agrees : (b : Book) (e : Entry) → Sized b → Agrees R s b → Agrees R s (step R s b e)
    unfolding step
    step_agrees b e z h = cond-case (Agrees R s) (live s e.slot) _ _ (λ t. entered_agrees R s b e.slot e.word L t z h) (λ n. h)

    -- after a run from a book just opened each live held vote is the vote worked out afresh from the words left
    pub run-votes : (es : List Entry) (k : ℕ) → T (live s k) → at (run R s (opened R) es).votes k ≡ vote R s (words_left s es) k
    run-votes es k t =
        (run_keeps (λ b. Sized b × Agrees R s b) (λ b e p. (step-sized b e p.0, step_agrees b e p.0 p.1)) (opened R) es (opened-sized R, opened_agrees)).1 k t
        ∙ ap (λ (l : List ℤ). vote R s l k) (run-words es)

-- Demand 3, whole: from a book just opened, its settings kept, any run of enterings, refused ones among them.
use Prim.Native.Nat.{ℕ}
use mathlib.Core.Path.{◌≡◌, refl}
use mathlib.Core.Logic.{◌≢◌}
use mathlib.Core.List.{List, Memᴰ}
use lib.Dec.{T}
use Rattle.ground.specs.Lists.{at}
use Rattle.ground.proofs.Bools.{cond-case}
use Rattle.words.specs.Rule.{Rule}
use Rattle.words.proofs.Lawful.{Lawful}
use Rattle.settings.specs.declared.Settings.{Settings}
use Rattle.paths.specs.Slots.{way, live}
use Rattle.paths.proofs.Live.{live_zero}
use Rattle.vote.specs.Vote.{vote}
use Rattle.book.specs.Book.{Book, opened, held}
use Rattle.entering.specs.Run.{step, run, words_left}
use Rattle.entering.specs.declared.Entry.{Entry}
use Rattle.entering.proofs.Entering.{entered_one_word, entered_on_the_way}
use Rattle.entering.proofs.FromOpening.{run-votes}

pub record Demand3 (R : Rule) (s : Settings) : Type 0 where
  -- the held answer is the answer worked out afresh from the words that the run leaves
  pub held : (es : List Entry) → held (run R s (opened R) es) ≡ vote R s (words_left s es) 0
  -- and so is every live held vote
  pub held_votes : (es : List Entry) (k : ℕ) → T (live s k) → at (run R s (opened R) es).votes k ≡ vote R s (words_left s es) k
  -- an entering, into any book, alters at most the word at its slot
  pub one_word : (b : Book) (e : Entry) (j : ℕ) → j ≢ e.slot → at (step R s b e).words j ≡ at b.words j
  -- and no held vote but those on the way from that slot up to slot 0
  pub on_the_way : (b : Book) (e : Entry) (j : ℕ) → (Memᴰ j (way e.slot) → ⊥) → at (step R s b e).votes j ≡ at b.votes j

-- for any lawful rule
pub demand_3 : (R : Rule) (s : Settings) → Lawful R → Demand3 R s
unfolding step
demand_3 R s L = record {
  held = λ es. run-votes R s L es 0 (live_zero s);
  held_votes = run-votes R s L;
  one_word = λ b e j n. cond-case (λ (c : Book). at c.words j ≡ at b.words j) (live s e.slot) _ _ (λ t. entered_one_word R s b e.slot e.word j n) (λ t. refl);
  on_the_way = λ b e j off. cond-case (λ (c : Book). at c.votes j ≡ at b.votes j) (live s e.slot) _ _ (λ t. entered_on_the_way R s b e.slot e.word j off) (λ t. refl);
}

-- Words at slots that are not live change no vote, no answer and no refusal, as the functions are asked.
use Prim.Native.Nat.{ℕ, zero, suc}
use mathlib.Core.Path.{◌≡◌, refl, ap, ◌∙◌}
use mathlib.Core.List.{List}
use lib.Dec.{T}
use lib.IntN.{ℤ}
use lib.ListN.{length}
use Rattle.ground.specs.Checks.{verdict}
use Rattle.ground.specs.Answer.{value, answer}
use Rattle.ground.specs.Lists.{at}
use Rattle.settings.specs.declared.Settings.{Settings}
use Rattle.paths.specs.Slots.{live}
use Rattle.paths.proofs.Live.{live_zero}
use Rattle.vote.specs.Asked.{words_checks, vote_checks, vote_asked, answer_asked}
use Rattle.vote.proofs.Asking.{vote-asked}
use Rattle.vote.proofs.Votes.{vote-live}
use Rattle.vote.specs.Vote.{rule_of}

-- two answers by one verdict are the same where their values are, if there is no refusal
same_answer : {A : Type 0} (v : ℕ) (a b : A) → (v ≡ 0 → a ≡ b) → answer v a ≡ answer v b
unfolding answer
same_answer zero a b h = ap value (h refl)
same_answer (suc v) a b h = refl

module _ (s : Settings) (ws us : List ℤ) (long : length ws ≡ length us) (same : (k : ℕ) → T (live s k) → at ws k ≡ at us k) where
  pub vote-asked-live : (k : ℕ) → vote_asked s ws k ≡ vote_asked s us k
  unfolding vote_asked
  vote-asked-live k =
      same_answer (verdict (vote_checks s ws k)) _ _ (λ e. vote-live (rule_of s.rack) s ws us same k (vote-asked s ws k e).2)
      ∙ rw long

  pub answer-asked-live : answer_asked s ws ≡ answer_asked s us
  unfolding answer_asked
  answer-asked-live =
      same_answer (verdict (words_checks s ws)) _ _ (λ e. vote-live (rule_of s.rack) s ws us same 0 (live_zero s))
      ∙ rw long

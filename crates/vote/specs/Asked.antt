-- Document 01, 'The vote', as it is asked of the functions.
use Rattle.std.specs.Prelude.{ℕ, not, List, [], ◌∷◌, ◌++◌, eqb, ℤ, length}
use Rattle.ground.specs.Refusal as refusal
use Rattle.ground.specs.Checks.{Check, check, verdict}
use Rattle.ground.specs.Answer.{Answer, answer}
use Rattle.settings.specs.Settings.{slots, settings_checks}
use Rattle.settings.specs.declared.Settings.{Settings}
use Rattle.paths.specs.Slots.{live}
use Rattle.vote.specs.Vote.{rule_of, vote}

-- settings, then the list's length
abbrev pub words_checks : Settings → List ℤ → List Check
words_checks s words = settings_checks s ++ check refusal.long (not (eqb (length words) slots)) ∷ []

-- and then the slot
abbrev pub vote_checks : Settings → List ℤ → ℕ → List Check
vote_checks s words k = words_checks s words ++ check refusal.path (not (live s k)) ∷ []

-- the vote at a slot
unfoldable pub vote_asked : Settings → List ℤ → ℕ → Answer ℤ
vote_asked s words k = answer (verdict (vote_checks s words k)) (vote (rule_of s.rack) s words k)

-- the answer, the vote at slot 0
unfoldable pub answer_asked : Settings → List ℤ → Answer ℤ
answer_asked s words = answer (verdict (words_checks s words)) (vote (rule_of s.rack) s words 0)

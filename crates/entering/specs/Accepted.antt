-- Document 02, Q-2: what the words accepted on a path leave there, said at once over all of them.
use Rattle.std.specs.Prelude.{ℕ, Bool, true, false, cond, ◌&&◌, List, [], ◌∷◌, ℤ}
use Rattle.words.specs.Word.{E}
use Rattle.words.specs.Majority.{same}
use Rattle.settings.specs.declared.Settings.{Settings}
use Rattle.entering.specs.Entered.{contradicted}
use Rattle.entering.specs.Run.{is_accepted}
use Rattle.entering.specs.declared.Entry.{Entry}

-- the words of a run that are accepted for the path at k, in their order
unfoldable pub accepted_at : Settings → ℕ → List Entry → List ℤ
accepted_at s k [] = []
accepted_at s k (e ∷ es) = cond (is_accepted s k e) (e.word ∷ accepted_at s k es) (accepted_at s k es)

-- the leading E left out
unfoldable pub after_e : List ℤ → List ℤ
after_e [] = []
after_e (w ∷ ws) = cond (same w E) (after_e ws) (w ∷ ws)

unfoldable pub all_are : ℤ → List ℤ → Bool
all_are w [] = true
all_are w (x ∷ xs) = same w x && all_are w xs

-- none: E; all the same: that word; else contradicted
unfoldable pub agreed : List ℤ → ℤ
agreed [] = E
agreed (w ∷ ws) = cond (all_are w ws) w contradicted

unfoldable pub leaves : List ℤ → ℤ
leaves ws = agreed (after_e ws)

-- the word w once or more often, and no other
unfoldable pub repeats : ℤ → List ℤ → Bool
repeats w [] = false
repeats w (x ∷ xs) = all_are w (x ∷ xs)

-- What no verdict on a call tells.
use Prim.Native.Nat.{ℕ}
use mathlib.Core.Path.{◌≡◌}
use mathlib.Core.List.{List}
use lib.Dec.{T}
use lib.IntN.{ℤ}
use lib.ListN.{length}
use borrow.Author.Tests.{not-false, eqb-true}
use Rattle.ground.specs.Checks.{verdict}
use Rattle.ground.proofs.Bools.{holds}
use Rattle.ground.proofs.Verdicts.{no_verdict, no_verdicts}
use Rattle.settings.specs.Settings.{slots, settings_checks}
use Rattle.settings.specs.declared.Settings.{Settings}
use Rattle.settings.proofs.Good.{Good, settings_good}
use Rattle.paths.specs.Slots.{live}
use Rattle.vote.specs.Asked.{words_checks, vote_checks}

pub words-asked : (s : Settings) (ws : List ℤ) → verdict (words_checks s ws) ≡ 0 → Good s × (length ws ≡ slots)
words-asked s ws e =
    let both = no_verdicts (settings_checks s) _ tt e in
    (settings_good s both.0, eqb-true (length ws) slots (not-false _ (no_verdict _ tt both.1).0))

pub vote-asked : (s : Settings) (ws : List ℤ) (k : ℕ) → verdict (vote_checks s ws k) ≡ 0 → Good s × (length ws ≡ slots) × T (live s k)
vote-asked s ws k e =
    let both = no_verdicts (words_checks s ws) _ tt e in
    let words = words-asked s ws both.0 in
    (words.0, words.1, holds (live s k) (no_verdict _ tt both.1).0)

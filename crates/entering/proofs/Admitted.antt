-- What an entering that is not refused is given, and what it leaves of a book.
use Prim.Native.Nat.{ℕ}
use mathlib.Core.Path.{◌≡◌, ap, ap₂, ◌∙◌}
use mathlib.Core.List.{List}
use lib.IntN.{ℤ}
use lib.ListN.{length, length-set}
use Rattle.settings.specs.declared.Settings.{Settings}
use Rattle.paths.specs.Slots.{way}
use Rattle.vote.specs.Vote.{rule_of}
use Rattle.book.specs.Book.{book_of}
use Rattle.entering.specs.Entered.{stored, remade_along, entered}

module _ (s : Settings) (k : ℕ) (w : ℤ) where
  pub length-stored : (l : List ℤ) → length (stored l k w) ≡ length l
  unfolding stored
  length-stored l = length-set l k _

  -- the word stored, and the votes re-made on the way up
  pub entered_both : (ws vs : List ℤ) {ws' after : List ℤ} → ws' ≡ stored ws k w → after ≡ remade_along (rule_of s.rack) s ws' (way k) vs → book_of ws' after ≡ entered (rule_of s.rack) s (book_of ws vs) k w
  unfolding entered
  entered_both ws vs e up = ap₂ book_of e (up ∙ ap (λ (l : List ℤ). remade_along (rule_of s.rack) s l (way k) vs) e)

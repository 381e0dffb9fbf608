-- Document 01, 'Words': the hybrid majority of a list, over which words are struck and the word for none.
use Rattle.std.specs.Prelude.{ℕ, suc, ◌*◌, Bool, false, cond, List, [], ◌∷◌, eqb, ltb, ℤ, pos, negsuc, length}

-- whether two words are the same
unfoldable pub same : ℤ → ℤ → Bool
same (pos a) (pos b) = eqb a b
same (pos a) (negsuc b) = false
same (negsuc a) (pos b) = false
same (negsuc a) (negsuc b) = eqb a b

-- what is left of a list when the struck words are taken out
unfoldable pub kept : (ℤ → Bool) → List ℤ → List ℤ
kept struck [] = []
kept struck (x ∷ xs) = cond (struck x) (kept struck xs) (x ∷ kept struck xs)

-- how often v occurs in a list
unfoldable pub occurs : ℤ → List ℤ → ℕ
occurs v [] = 0
occurs v (x ∷ xs) = cond (same x v) (suc (occurs v xs)) (occurs v xs)

-- v occurs more often than half of the list's length
unfoldable pub over_half : List ℤ → ℤ → Bool
over_half l v = ltb (length l) (2 * occurs v l)

-- the first word of a list that passes the test, else the word for none
unfoldable pub first : (ℤ → Bool) → ℤ → List ℤ → ℤ
first passes none [] = none
first passes none (x ∷ xs) = cond (passes x) x (first passes none xs)

-- the word that occurs more often than half of what is left, else the word for none
unfoldable pub majority : (ℤ → Bool) → ℤ → List ℤ → ℤ
majority struck none l = first (over_half (kept struck l)) none (kept struck l)

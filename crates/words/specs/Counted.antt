-- The majority as the code searches for it, told how many words are left. Told rightly it is the majority (`proofs/Search.antt`).
use Rattle.std.specs.Prelude.{ℕ, ◌*◌, Bool, List, ltb, ℤ}
use Rattle.words.specs.Majority.{kept, occurs, first}

-- v occurs more often than half of n in what is left
unfoldable pub enough : (ℤ → Bool) → ℕ → List ℤ → ℤ → Bool
enough struck n l v = ltb n (2 * occurs v (kept struck l))

-- the first word that does, else the word for none
unfoldable pub majority_of : (ℤ → Bool) → ℤ → ℕ → List ℤ → ℤ
majority_of struck none n l = first (enough struck n l) none (kept struck l)

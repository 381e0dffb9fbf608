-- Document 01, 'The book': entering a word, over any rule; document 02, Q-2: two different words on one path.
use Rattle.std.specs.Prelude.{ℕ, cond, List, [], ◌∷◌, ℤ, pos, set}
use Rattle.ground.specs.Lists.{at}
use Rattle.words.specs.Word.{E}
use Rattle.words.specs.Majority.{same}
use Rattle.words.specs.Rule.{Rule}
use Rattle.settings.specs.declared.Settings.{Settings}
use Rattle.paths.specs.Slots.{level, way}
use Rattle.vote.specs.Vote.{vote_from}
use Rattle.book.specs.Book.{Book}

-- what stands where two different words came
abbrev pub contradicted : ℤ
contradicted = pos 1000000009

-- what a slot holds after a word: holding E it takes any word; the same word again leaves it; a different word contradicts. Words are compared unread.
unfoldable pub holds : ℤ → ℤ → ℤ
holds old new = cond (same old E) new (cond (same old new) old contradicted)

unfoldable pub stored : List ℤ → ℕ → ℤ → List ℤ
stored words k word = set words k (holds (at words k) word)

-- the vote at slot k, from the stored words and the other held votes, each read at its level
unfoldable pub remade : Rule → Settings → List ℤ → List ℤ → ℕ → ℤ
remade R s words votes k = vote_from R s words (λ j. R.read (level j) (at votes j)) k

-- the held votes with those at some slots re-made, one after the other
unfoldable pub remade_along : Rule → Settings → List ℤ → List ℕ → List ℤ → List ℤ
remade_along R s words [] votes = votes
remade_along R s words (k ∷ ks) votes = remade_along R s words ks (set votes k (remade R s words votes k))

-- entering a word at slot k: stored, then the votes re-made on the way up, k first and slot 0 last
unfoldable pub entered : Rule → Settings → Book → ℕ → ℤ → Book
entered R s b k word =
    record { words = stored b.words k word; votes = remade_along R s (stored b.words k word) (way k) b.votes }

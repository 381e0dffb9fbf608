-- Demand 3: a run of enterings, what its accepted words leave on each path, and what a book keeps.
use Rattle.std.specs.Prelude.{ℕ, ◌≡◌, Bool, cond, ◌&&◌, List, [], ◌∷◌, T, eqb, ℤ}
use Rattle.ground.specs.Lists.{at, table}
use Rattle.words.specs.Word.{E}
use Rattle.words.specs.Rule.{Rule}
use Rattle.settings.specs.Settings.{slots}
use Rattle.settings.specs.declared.Settings.{Settings}
use Rattle.paths.specs.Slots.{live}
use Rattle.vote.specs.Vote.{vote}
use Rattle.book.specs.Book.{Book}
use Rattle.entering.specs.declared.Entry.{Entry}
use Rattle.entering.specs.Entered.{holds, entered}

-- a refused entering changes nothing
unfoldable pub step : Rule → Settings → Book → Entry → Book
step R s b e = cond (live s e.slot) (entered R s b e.slot e.word) b

-- enterings, the first of the list first
unfoldable pub run : Rule → Settings → Book → List Entry → Book
run R s b [] = b
run R s b (e ∷ es) = run R s (step R s b e) es

-- the entry is accepted, and for the path at k
abbrev pub is_accepted : Settings → ℕ → Entry → Bool
is_accepted s k e = live s e.slot && eqb e.slot k

-- what a run's accepted words leave at slot k, which held w
unfoldable pub left_at : Settings → ℕ → List Entry → ℤ → ℤ
left_at s k [] w = w
left_at s k (e ∷ es) w = left_at s k es (cond (is_accepted s k e) (holds w e.word) w)

-- what a run's accepted words leave on each path, a path with none counting as missing
unfoldable pub words_left : Settings → List Entry → List ℤ
words_left s es = table slots 0 (λ k. left_at s k es E)

-- every live held vote is the vote from the words
abbrev pub Agrees : Rule → Settings → Book → Type 0
Agrees R s b = (k : ℕ) → T (live s k) → at b.votes k ≡ vote R s b.words k

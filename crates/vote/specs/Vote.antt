-- Document 01, 'The vote', over any rule.
use Rattle.std.specs.Prelude.{ℕ, zero, suc, ◌-◌, Bool, cond, ◌||◌, List, ◌∷◌, eqb, ℤ}
use Rattle.ground.specs.Lists.{at, over}
use Rattle.words.specs.Rule.{Rule, omh, majority_by}
use Rattle.settings.specs.Settings.{most_cards}
use Rattle.settings.specs.declared.Rack.{Rack}
use Rattle.settings.specs.declared.Settings.{Settings}
use Rattle.paths.specs.Slots.{below, level, live}

-- the rule by which a rack's cards vote
abbrev pub rule_of : Rack → Rule
rule_of rack = omh

-- f at every live path one relay longer than the path at k
abbrev pub longer : Settings → (ℕ → ℤ) → ℕ → List ℤ
longer s f k = over (λ q. live s (below k q)) (λ q. f (below k q)) most_cards 0

-- p is t, or the path's level is m
abbrev pub last : Settings → ℕ → Bool
last s k = eqb s.p s.t || eqb (level k) s.rack.m

-- the word at slot k, read at its level
abbrev pub reading : Rule → List ℤ → ℕ → ℤ
reading R words k = R.read (level k) (at words k)

-- the majority of the own report, which is the wrapped reading, and the votes of the longer paths; then unwrapped
abbrev pub decided : Rule → ℤ → List ℤ → ℤ
decided R own votes = R.unwrap (majority_by R (R.wrap own ∷ votes))

-- the vote at slot k, given the votes at other slots: the reading itself, or decided from it and the votes of the longer paths
unfoldable pub vote_from : Rule → Settings → List ℤ → (ℕ → ℤ) → ℕ → ℤ
vote_from R s words votes k = cond (last s k) (reading R words k) (decided R (reading R words k) (longer s votes k))

-- the vote at slot k, with r rounds left
unfoldable pub vote_in : Rule → Settings → List ℤ → ℕ → ℕ → ℤ
vote_in R s words zero k = vote_from R s words (λ j. R.none) k
vote_in R s words (suc r) k = vote_from R s words (vote_in R s words r) k

-- the vote at slot k
unfoldable pub vote : Rule → Settings → List ℤ → ℕ → ℤ
vote R s words k = vote_in R s words (s.rack.m - level k) k

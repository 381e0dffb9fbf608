-- Document 01, 'The exchange on the bench': whether the bound holds, and as it is asked of the function.
use Rattle.std.specs.Prelude.{ℕ, ◌+◌, ◌*◌, Bool, true, false, not, ◌&&◌, List, [], ◌∷◌, ◌++◌, eqb, ltb, leb, length}
use denote.Enum.Bare.{sameb}
use Rattle.ground.specs.Refusal as refusal
use Rattle.ground.specs.Checks.{Check, check, verdict}
use Rattle.ground.specs.Answer.{Answer, answer}
use Rattle.ground.specs.Lists.{count}
use Rattle.settings.specs.Settings.{most_cards, cards, fits, rack_checks}
use Rattle.settings.specs.declared.Rack.{Rack}
use Rattle.exchange.specs.contracts.Status.{the_type}
use Rattle.exchange.specs.declared.Status.{Status}
use Rattle.exchange.specs.declared.Status.TheVariants.{Good, Arbitrary, Symmetric, Manifest}
use Rattle.exchange.specs.Exchange.{statuses_of}
use Rattle.exchange.specs.Asked.{statuses_bad}

abbrev pub is_arbitrary : Status → Bool
is_arbitrary Good = false
is_arbitrary Arbitrary = true
is_arbitrary Symmetric = false
is_arbitrary Manifest = false

abbrev pub is_symmetric : Status → Bool
is_symmetric Good = false
is_symmetric Arbitrary = false
is_symmetric Symmetric = true
is_symmetric Manifest = false

abbrev pub is_manifest : Status → Bool
is_manifest Good = false
is_manifest Arbitrary = false
is_manifest Symmetric = false
is_manifest Manifest = true

-- a status is this one
abbrev pub is : Status → Status → Bool
is kind status = sameb the_type status kind

-- how many cards of the rack have a status of this kind
abbrev pub those : Rack → (ℕ → Status) → (Status → Bool) → ℕ
those rack status is = count (λ q. fits rack q && is (status q)) most_cards 0

-- a, s and c, counted over the cards of the rack
abbrev pub arbitraries : Rack → (ℕ → Status) → ℕ
arbitraries rack status = those rack status is_arbitrary

abbrev pub symmetrics : Rack → (ℕ → Status) → ℕ
symmetrics rack status = those rack status is_symmetric

abbrev pub manifests : Rack → (ℕ → Status) → ℕ
manifests rack status = those rack status is_manifest

-- n > 2a + 2s + c + m
unfoldable pub enough : Rack → (ℕ → Status) → Bool
enough rack status = ltb (2 * arbitraries rack status + 2 * symmetrics rack status + manifests rack status + rack.m) (cards rack)

-- and a is at most m
unfoldable pub bounded : Rack → (ℕ → Status) → Bool
bounded rack status = enough rack status && leb (arbitraries rack status) rack.m

-- ---- as it is asked

-- 1, 2, 5, 7
abbrev pub bound_checks : Rack → List ℕ → List Check
bound_checks rack statuses =
    rack_checks rack ++ check refusal.long (not (eqb (length statuses) most_cards)) ∷ check refusal.status (statuses_bad rack statuses) ∷ []

unfoldable pub bound_asked : Rack → List ℕ → Answer Bool
bound_asked rack statuses = answer (verdict (bound_checks rack statuses)) (bounded rack (statuses_of statuses))

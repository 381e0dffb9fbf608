-- Going over the live paths as the code does it: which cards may still relay is handed down, and no slot is tested.
use Rattle.std.specs.Prelude.{ℕ, zero, suc, ◌+◌, Bool, true, false, cond, ◌&&◌, List, [], ◌∷◌, ℤ, get_or, set}
use Rattle.ground.specs.Answer.{Outcome, outcome}
use Rattle.ground.specs.Lists.{all}
use Rattle.paths.specs.Slots.{below, different}

-- card q may relay
abbrev pub may : List Bool → ℕ → Bool
may members q = get_or members q false

-- relays that are all members, and all different
abbrev pub among : List Bool → List ℕ → Bool
among members qs = all (may members) qs && different qs

-- relays taken out of the members one after the other, up to one that is not there; whether they all were
unfoldable pub take_out : List Bool → List ℕ → Outcome Bool (List Bool)
take_out members [] = outcome true members
take_out members (q ∷ qs) = cond (may members q) (take_out (set members q false) qs) (outcome false members)

-- the slots that leave room for r relays more
abbrev pub room : ℕ → ℕ
room zero = 1111
room (suc zero) = 111
room (suc (suc zero)) = 11
room (suc (suc (suc r))) = 1

-- what f makes of a list for each of the first c cards that passes, one after the other
unfoldable pub through : (ℕ → Bool) → (ℕ → List ℤ → List ℤ) → ℕ → List ℤ → List ℤ
through passes f zero l = l
through passes f (suc c) l = cond (passes c) (f c (through passes f c l)) (through passes f c l)

-- a list with f's words put in at slot k of level d, and before it at the longer paths, with r rounds left
unfoldable pub put_in : (List Bool → ℕ → ℕ → ℕ → ℤ) → List Bool → ℕ → ℕ → ℕ → List ℤ → List ℤ
put_in f members zero d k l = set l k (f members zero d k)
put_in f members (suc r) d k l =
    set (through (may members) (λ q. put_in f (set members q false) r (d + 1) (below k q)) 10 l) k (f members (suc r) d k)

-- the same at the longer paths by the first c cards, with r rounds left for each
abbrev pub put_below : (List Bool → ℕ → ℕ → ℕ → ℤ) → List Bool → ℕ → ℕ → ℕ → ℕ → List ℤ → List ℤ
put_below f members r d k c l = through (may members) (λ q. put_in f (set members q false) r (d + 1) (below k q)) c l

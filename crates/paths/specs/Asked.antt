-- Document 01, 'Settings and paths', as it is asked of the functions.
use Rattle.std.specs.Prelude.{ℕ, zero, suc, Bool, false, not, cond, ◌&&◌, ◌||◌, List, [], ◌∷◌, eqb, ltb, leb}
use Rattle.ground.specs.Refusal as refusal
use Rattle.ground.specs.Checks.{Check, check, verdict}
use Rattle.ground.specs.Answer.{Answer, answer, Outcome, outcome}
use Rattle.ground.specs.Lists.{all}
use Rattle.settings.specs.Settings.{most_cards, most_rounds, slots, settings_checks}
use Rattle.settings.specs.declared.Settings.{Settings}
use Rattle.paths.specs.Slots.{slot_of, above, level, relays, live}
use Rattle.paths.specs.Walk.{take_out}

-- the relays that a path of this level uses, the last first; the others are not looked at
unfoldable pub used : ℕ → ℕ → ℕ → ℕ → List ℕ
used zero q1 q2 q3 = []
used (suc zero) q1 q2 q3 = q1 ∷ []
used (suc (suc zero)) q1 q2 q3 = q2 ∷ q1 ∷ []
used (suc (suc (suc d))) q1 q2 q3 = q3 ∷ q2 ∷ q1 ∷ []

-- the slot of a path: a level over 3 and a used relay over 9 are refused
abbrev pub path_checks : ℕ → ℕ → ℕ → ℕ → List Check
path_checks d q1 q2 q3 =
    check refusal.path (ltb most_rounds d) ∷ check refusal.path (not (all (λ q. ltb q most_cards) (used d q1 q2 q3))) ∷ []

unfoldable pub slot_asked : ℕ → ℕ → ℕ → ℕ → Answer ℕ
slot_asked d q1 q2 q3 = answer (verdict (path_checks d q1 q2 q3)) (slot_of (used d q1 q2 q3))

-- the slot above: 0 and a number over 1,110 are refused
abbrev pub above_checks : ℕ → List Check
above_checks k = check refusal.path (eqb k 0 || leb slots k) ∷ []

unfoldable pub above_asked : ℕ → Answer ℕ
above_asked k = answer (verdict (above_checks k)) (above k)

-- whether a slot is live for p
unfoldable pub live_asked : Settings → ℕ → Answer Bool
live_asked s k = answer (verdict (settings_checks s)) (live s k)

-- the path at k is looked at relay by relay: slot 0, or where p is not t a slot, its level at most m
unfoldable pub opens : Settings → ℕ → Bool
opens s k = eqb k 0 || (not (eqb s.p s.t) && (ltb k slots && leb (level k) s.rack.m))

-- whether the path at k is live, given the cards that may relay; where it is, those that may lengthen it are left (`proofs/Members.antt`)
unfoldable pub live_in : Settings → List Bool → ℕ → Outcome Bool (List Bool)
live_in s members k = cond (opens s k) (take_out members (relays k)) (outcome false members)

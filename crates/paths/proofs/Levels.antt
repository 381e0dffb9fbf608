-- Laws of the numbering: levels, the slot below and above, and that slot and relays undo each other.
use mathlib.Core.Path.{◌≡◌, refl, sym, ◌∙◌, ap, ap₂}
use Prim.Native.Nat.{ℕ, zero, suc, ◌+◌, ◌*◌, ◌≤◌, ◌<◌}
use mathlib.Core.Bool.{Bool, true, false}
use mathlib.Core.List.{List, [], ◌∷◌}
use native.Mathlib.Omega.{arith}
use lib.Dec.{ltb, ltb→lt, lt→ltb, nltb→le}
use lib.ListN.{length}
use Rattle.paths.specs.Slots.{below, slot_of, above, last_relay, level, relays_by, relays, way_by, way}
use Rattle.ground.proofs.Bools.{cond_yes, cond_no, le→nltb}

-- ---- levels
pub level_0 : (k : ℕ) → k < 1 → level k ≡ 0
unfolding level
level_0 k h = cond_yes (ltb k 1) _ _ (lt→ltb k 1 h)

pub level_1 : (k : ℕ) → 1 ≤ k → k < 11 → level k ≡ 1
unfolding level
level_1 k g h = cond_no (ltb k 1) _ _ (le→nltb k 1 g) ∙ cond_yes (ltb k 11) _ _ (lt→ltb k 11 h)

pub level_2 : (k : ℕ) → 11 ≤ k → k < 111 → level k ≡ 2
unfolding level
level_2 k g h = cond_no (ltb k 1) _ _ (le→nltb k 1 (omega arith)) ∙ (cond_no (ltb k 11) _ _ (le→nltb k 11 g) ∙ cond_yes (ltb k 111) _ _ (lt→ltb k 111 h))

pub level_3 : (k : ℕ) → 111 ≤ k → k < 1111 → level k ≡ 3
unfolding level
level_3 k g h = cond_no (ltb k 1) _ _ (le→nltb k 1 (omega arith)) ∙ (cond_no (ltb k 11) _ _ (le→nltb k 11 (omega arith)) ∙ (cond_no (ltb k 111) _ _ (le→nltb k 111 g) ∙ cond_yes (ltb k 1111) _ _ (lt→ltb k 1111 h)))

-- a number that is no slot
pub level_4 : (k : ℕ) → 1111 ≤ k → level k ≡ 4
unfolding level
level_4 k g =
    cond_no (ltb k 1) _ _ (le→nltb k 1 (omega arith))
    ∙ (cond_no (ltb k 11) _ _ (le→nltb k 11 (omega arith))
    ∙ (cond_no (ltb k 111) _ _ (le→nltb k 111 (omega arith)) ∙ cond_no (ltb k 1111) _ _ (le→nltb k 1111 g)))

-- what holds of each level in its range holds of the level of every slot
pub by_level : (P : ℕ → Type 0) (k : ℕ) → k < 1111 → (k < 1 → P 0) → (1 ≤ k → k < 11 → P 1) → (11 ≤ k → k < 111 → P 2) → (111 ≤ k → k < 1111 → P 3) → P (level k)
by_level P k h p0 p1 p2 p3 = go0 (ltb k 1) refl
  where
    go2 : 11 ≤ k → (b : Bool) → ltb k 111 ≡ b → P (level k)
    go2 g true e = let l : k < 111 = ltb→lt k 111 (rw e tt) in rw (level_2 k g l) (p2 g l)
    go2 g false e = let l : 111 ≤ k = nltb→le k 111 (rw e tt) in rw (level_3 k l h) (p3 l h)

    go1 : 1 ≤ k → (b : Bool) → ltb k 11 ≡ b → P (level k)
    go1 g true e = let l : k < 11 = ltb→lt k 11 (rw e tt) in rw (level_1 k g l) (p1 g l)
    go1 g false e = go2 (nltb→le k 11 (rw e tt)) (ltb k 111) refl

    go0 : (b : Bool) → ltb k 1 ≡ b → P (level k)
    go0 true e = let l : k < 1 = ltb→lt k 1 (rw e tt) in rw (level_0 k l) (p0 l)
    go0 false e = go1 (nltb→le k 1 (rw e tt)) (ltb k 11) refl

-- one relay more is one level more
pub level-below : (k q : ℕ) → k < 111 → q < 10 → level (below k q) ≡ suc (level k)
level-below k q h g = by_level (λ d. level (below k q) ≡ suc d) k (omega arith)
    (λ a. level_1 (below k q) (omega arith) (omega arith))
    (λ a b. level_2 (below k q) (omega arith) (omega arith))
    (λ a b. level_3 (below k q) (omega arith) (omega arith))
    (λ a b. absurd (omega arith))

-- a slot at a level under 3 is below 111
pub level_small : (k : ℕ) → k < 1111 → level k < 3 → k < 111
level_small k h = by_level (λ d. d < 3 → k < 111) k h (λ a l. omega arith) (λ a b l. omega arith) (λ a b l. b) (λ a b l. absurd (omega arith))

-- level 0 is slot 0
pub level_zero : (k : ℕ) → k < 1111 → level k ≡ 0 → k ≡ 0
level_zero k h = by_level (λ d. d ≡ 0 → k ≡ 0) k h (λ a e. omega arith) (λ a b e. absurd (omega arith)) (λ a b e. absurd (omega arith)) (λ a b e. absurd (omega arith))

-- and the slot above is one level less
pub level-above : (k d : ℕ) → k < 1111 → level k ≡ suc d → level (above k) ≡ d
level-above k d h = by_level (λ e. e ≡ suc d → level (above k) ≡ d) k h
    (λ a e. absurd (omega arith))
    (λ a b e. level_0 (above k) (omega arith) ∙ omega arith)
    (λ a b e. level_1 (above k) (omega arith) (omega arith) ∙ omega arith)
    (λ a b e. level_2 (above k) (omega arith) (omega arith) ∙ omega arith)

pub above-below : (k q : ℕ) → q < 10 → above (below k q) ≡ k
above-below k q h = omega arith

pub last_relay-below : (k q : ℕ) → q < 10 → last_relay (below k q) ≡ q
last_relay-below k q h = omega arith

pub below-above : (k : ℕ) → 0 < k → below (above k) (last_relay k) ≡ k
below-above k h = omega arith

-- one level more than 0 is a slot over 0, and the other way round
pub level_pos : (k : ℕ) → k < 1111 → 0 < k → (d : ℕ) × (level k ≡ suc d)
level_pos k h p = go (level k) refl
  where
    go : (d : ℕ) → level k ≡ d → (e : ℕ) × (level k ≡ suc e)
    go zero e = let z : k ≡ 0 = level_zero k h e in absurd (omega arith)
    go (suc d) e = (d, e)

pub pos_level : (k d : ℕ) → level k ≡ suc d → 0 < k
pos_level zero d e = absurd (let z : level 0 ≡ 0 = level_0 0 (omega arith) in omega arith)
pos_level (suc k) d e = omega arith

-- ---- paths

pub relays_cons : (k : ℕ) → k < 1111 → 0 < k → relays k ≡ last_relay k ∷ relays (above k)
unfolding relays_by
relays_cons k h p =
    let (d, e) = level_pos k h p in
    let f : level (above k) ≡ d = level-above k d h e in
    rw (e, f)

pub relays-below : (k q : ℕ) → k < 111 → q < 10 → relays (below k q) ≡ q ∷ relays k
relays-below k q h g =
    relays_cons (below k q) (omega arith) (omega arith)
    ∙ ap₂ (λ (r : ℕ) (j : ℕ). r ∷ relays j) (last_relay-below k q g) (above-below k q g)

pub way_cons : (k : ℕ) → k < 1111 → 0 < k → way k ≡ k ∷ way (above k)
unfolding way_by
way_cons k h p =
    let (d, e) = level_pos k h p in
    let f : level (above k) ≡ d = level-above k d h e in
    rw (e, f)

-- document 01's four formulas
pub slot_formulas : (q1 q2 q3 : ℕ) → (slot_of [] ≡ 0) × (slot_of (q1 ∷ []) ≡ 1 + q1) × (slot_of (q2 ∷ q1 ∷ []) ≡ 11 + 10 * q1 + q2) × (slot_of (q3 ∷ q2 ∷ q1 ∷ []) ≡ 111 + 100 * q1 + 10 * q2 + q3)
unfolding slot_of
slot_formulas q1 q2 q3 = (refl, omega arith, omega arith, omega arith)

-- the slot of the relays of a slot is that slot
pub slot-relays : (k : ℕ) → k < 1111 → slot_of (relays k) ≡ k
unfolding slot_of relays_by
slot-relays k h = go (level k) k h refl
  where
    go : (d k : ℕ) → k < 1111 → level k ≡ d → slot_of (relays_by d k) ≡ k
    go zero k h e = sym (level_zero k h e)
    go (suc d) k h e =
        let p : 0 < k = pos_level k d e in
        ap (λ (j : ℕ). below j (last_relay k)) (go d (above k) (omega arith) (level-above k d h e)) ∙ below-above k p

-- every relay is one of the ten cards
unfoldable pub Digits : List ℕ → Type 0
Digits [] = Unit {0}
Digits (q ∷ path) = (q < 10) × Digits path

-- the slots of the paths of each length
first_slot : ℕ → ℕ
first_slot zero = 0
first_slot (suc d) = 10 * first_slot d + 1

slot_range : (path : List ℕ) → Digits path → (first_slot (length path) ≤ slot_of path) × (slot_of path < first_slot (suc (length path)))
unfolding Digits slot_of first_slot
slot_range [] d = (omega arith, omega arith)
slot_range (q ∷ path) d = let ih = slot_range path d.1 in let l : q < 10 = d.0 in (omega arith, omega arith)

first_mono : (a b : ℕ) → a ≤ b → first_slot a ≤ first_slot b
unfolding first_slot
first_mono zero b h = omega arith
first_mono (suc a) zero h = absurd (omega arith)
first_mono (suc a) (suc b) h = let ih = first_mono a b (omega arith) in omega arith

-- a path's slot is below 1,111
pub slot_small : (path : List ℕ) → Digits path → length path ≤ 3 → slot_of path < 1111
unfolding first_slot
slot_small path d h = omega (arith, (slot_range path d).1, first_mono (suc (length path)) 4 (omega arith))

-- longer paths have larger slots
pub slot-longer : (path more : List ℕ) → Digits path → Digits more → length path < length more → slot_of path < slot_of more
slot-longer path more d e h = omega (arith, (slot_range path d).1, (slot_range more e).0, first_mono (suc (length path)) (length more) h)

-- the slot above a path is that of the path less its last relay
pub above-slot : (q : ℕ) (path : List ℕ) → q < 10 → above (slot_of (q ∷ path)) ≡ slot_of path
unfolding slot_of
above-slot q path h = above-below (slot_of path) q h

-- the relays of a path's slot are the path
pub relays-slot : (path : List ℕ) → Digits path → length path ≤ 3 → relays (slot_of path) ≡ path
unfolding Digits slot_of relays_by level first_slot
relays-slot [] d h = refl
relays-slot (q ∷ path) d h =
    relays-below (slot_of path) q (small path d.1 (omega arith)) d.0 ∙ ap (λ (l : List ℕ). q ∷ l) (relays-slot path d.1 (omega arith))
  where
    small : (path : List ℕ) → Digits path → length path ≤ 2 → slot_of path < 111
    small path e g = omega (arith, (slot_range path e).1, first_mono (suc (length path)) 3 (omega arith))

-- Laws of the cards that may relay: the sender and the own card taken out of those that fit, and a path's relays, the last relay first.
use Prim.Native.Nat.{ℕ, zero, suc, ◌≤◌, ◌<◌}
use mathlib.Core.Path.{◌≡◌, refl, sym, ap, ap₂, ◌∙◌}
use mathlib.Core.Bool.{Bool, true, false, cond, not, ◌&&◌, and-true, and-false}
use mathlib.Core.List.{List, [], ◌∷◌}
use native.Mathlib.Omega.{arith}
use native.Mathlib.Decide.{ℕ_discrete}
use lib.Dec.{T, eqb, ltb, leb}
use lib.ListN.{length, set, length-set}
use lib.Seq.{get_or-set_same, get_or-set_other}
use borrow.Author.Tests.{eq-eqb, ne_eqb, lt-ltb, le-ltb, le-leb, lt-leb}
use Rattle.ground.specs.Answer.{Outcome, outcome}
use Rattle.ground.specs.Lists.{table, all}
use Rattle.ground.proofs.Bools.{T_eq}
use Rattle.ground.proofs.Lists.{length-table, at_table, is_table}
use Rattle.settings.specs.Settings.{fits}
use Rattle.settings.specs.declared.Settings.{Settings}
use Rattle.paths.specs.Slots.{above, last_relay, level, relays_by, relays, none_of, different, may_relay, live, lengthens, members_of}
use Rattle.paths.specs.Asked.{opens, live_in}
use Rattle.paths.specs.Walk.{may, among, take_out}
use Rattle.paths.proofs.Levels.{relays_cons}
use Rattle.paths.proofs.Live.{live_zero}

-- ---- one card

never : {A : Type 0} → false ≡ true → A
never e = let z : ◌≡◌ {A = ℕ} 0 1 = cc in absurd (omega arith)

join : (a b c : Bool) → ((a && b) && c) ≡ (a && (b && c))
join true b c = refl
join false b c = refl

-- a card that is taken out is none of them, and the others are as before
barred : (l : List Bool) (q i : ℕ) → i < length l → may (set l q false) i ≡ (may l i && not (eqb i q))
barred l q i h = go (ℕ_discrete i q)
  where
    go : Dec (i ≡ q) → may (set l q false) i ≡ (may l i && not (eqb i q))
    go (yes e) = rw (eq-eqb i q e) (ap (λ (j : ℕ). may (set l j false) i) (sym e) ∙ get_or-set_same l i false false h ∙ sym (and-false (may l i)))
    go (no n) = rw (ne_eqb i q n) (get_or-set_other l q i false false n ∙ sym (and-true (may l i)))

-- the cards that fit, less the sender and the own card, may relay
pub may-table : (s : Settings) {l : List Bool} → l ≡ table 10 0 (fits s.rack) → set (set l s.t false) s.p false ≡ table 10 0 (may_relay s)
unfolding may_relay
may-table s {l} same =
    let e : length l ≡ 10 = ap length same ∙ length-table 10 0 (fits s.rack) in
    is_table 10 _ false _ (length-set (set l s.t false) s.p false ∙ length-set l s.t false ∙ e)
    (λ i g. barred (set l s.t false) s.p i (omega (arith, length-set l s.t false))
    ∙ ap (λ (b : Bool). b && not (eqb i s.p)) (barred l s.t i (omega arith))
    ∙ ap (λ (b : Bool). (b && not (eqb i s.t)) && not (eqb i s.p)) (ap (λ (l : List Bool). may l i) same ∙ at_table 10 0 (fits s.rack) i false g ∙ ap (fits s.rack) (omega arith))
    ∙ join (fits s.rack i) (not (eqb i s.t)) (not (eqb i s.p)))

-- ---- whether q is a relay of the path at k, relay by relay

pub none_zero : (q k : ℕ) → k ≤ 0 → none_of q (relays k) ≡ true
unfolding none_of all relays_by level
none_zero q k h = let e : k ≡ 0 = omega arith in rw e

module _ (q k : ℕ) (h : k < 1111) (p : 0 < k) where
  pub none-step : none_of q (relays k) ≡ (not (eqb q (last_relay k)) && none_of q (relays (above k)))
  unfolding none_of all
  none-step = rw (relays_cons k h p)

  pub none-next : (q ≡ last_relay k → ⊥) → none_of q (relays (above k)) ≡ none_of q (relays k)
  none-next n = sym (none-step ∙ rw (ne_eqb q (last_relay k) n))

-- ---- a path's relays

-- a card that is taken out is no member, and the others are as before
may_out : (l : List Bool) (q r : ℕ) → q < length l → may (set l q false) r ≡ (may l r && not (eqb q r))
may_out l q r h = go (ℕ_discrete q r)
  where
    go : Dec (q ≡ r) → may (set l q false) r ≡ (may l r && not (eqb q r))
    go (yes e) = rw (eq-eqb q r e) (ap (may (set l q false)) (sym e) ∙ get_or-set_same l q false false h ∙ sym (and-false (may l r)))
    go (no n) = rw (ne_eqb q r n) (get_or-set_other l q r false false (λ e. n (sym e)) ∙ sym (and-true (may l r)))

all_out : (l : List Bool) (q : ℕ) (qs : List ℕ) → q < length l → all (may (set l q false)) qs ≡ (all (may l) qs && none_of q qs)
unfolding all none_of
all_out l q [] h = refl
all_out l q (r ∷ rs) h = ap₂ (λ (a : Bool) (b : Bool). a && b) (may_out l q r h) (all_out l q rs h) ∙ swap (may l r) (not (eqb q r)) (all (may l) rs) _
  where
    swap : (a b c d : Bool) → ((a && b) && (c && d)) ≡ ((a && c) && (b && d))
    swap true true c d = refl
    swap true false true d = refl
    swap true false false d = refl
    swap false b c d = refl

module _ (l : List Bool) (q : ℕ) (qs : List ℕ) where
  found_one : may l q ≡ true → take_out l (q ∷ qs) ≡ take_out (set l q false) qs
  unfolding take_out
  found_one t = rw t

  found_none : may l q ≡ false → take_out l (q ∷ qs) ≡ outcome false l
  unfolding take_out
  found_none t = rw t

  taken_one : q < length l → (take_out (set l q false) qs).yields ≡ among (set l q false) qs → (b : Bool) → may l q ≡ b → (take_out l (q ∷ qs)).yields ≡ among l (q ∷ qs)
  unfolding all different
  taken_one h rest true t =
      rw (found_one t, t)
      (rest ∙ ap (λ (b : Bool). b && different qs) (all_out l q qs h) ∙ join (all (may l) qs) (none_of q qs) (different qs))
  taken_one h rest false t = rw (found_none t, t)

  others_one : (i : ℕ) → i < length l → ((take_out (set l q false) qs).yields ≡ true → may (take_out (set l q false) qs).leaves i ≡ (may (set l q false) i && none_of i qs)) → (take_out l (q ∷ qs)).yields ≡ true → (b : Bool) → may l q ≡ b → may (take_out l (q ∷ qs)).leaves i ≡ (may l i && none_of i (q ∷ qs))
  unfolding none_of all
  others_one i h rest y true t =
      rw (found_one t)
      (rest (rw (found_one t) at y)
      ∙ ap (λ (b : Bool). b && none_of i qs) (barred l q i h)
      ∙ join (may l i) (not (eqb i q)) (none_of i qs))
  others_one i h rest y false t = never (rw (found_none t) at y)

  long_one : length (take_out (set l q false) qs).leaves ≡ length l → (b : Bool) → may l q ≡ b → length (take_out l (q ∷ qs)).leaves ≡ length l
  long_one rest true t = rw (found_one t) rest
  long_one rest false t = rw (found_none t)

-- relays are all taken out where they are all members and all different
taken : (l : List Bool) → length l ≡ 10 → (d k : ℕ) → (take_out l (relays_by d k)).yields ≡ among l (relays_by d k)
unfolding take_out relays_by all different
taken l e zero k = refl
taken l e (suc d) k = taken_one l (last_relay k) (relays_by d (above k)) (omega arith) (taken (set l (last_relay k) false) (length-set l (last_relay k) false ∙ e) d (above k)) (may l (last_relay k)) refl

-- and then the others are left
others : (l : List Bool) → length l ≡ 10 → (d k : ℕ) → (take_out l (relays_by d k)).yields ≡ true → (i : ℕ) → i < 10 → may (take_out l (relays_by d k)).leaves i ≡ (may l i && none_of i (relays_by d k))
unfolding take_out relays_by none_of all
others l e zero k y i h = sym (and-true (may l i))
others l e (suc d) k y i h = others_one l (last_relay k) (relays_by d (above k)) i (omega arith) (λ z. others (set l (last_relay k) false) (length-set l (last_relay k) false ∙ e) d (above k) z i h) y (may l (last_relay k)) refl

long : (l : List Bool) (qs : List ℕ) → length (take_out l qs).leaves ≡ length l
unfolding take_out
long l [] = refl
long l (q ∷ qs) = long_one l q qs (long (set l q false) qs ∙ length-set l q false) (may l q) refl

-- ---- the walk so far has come to k

pub record Taking (members₀ : List Bool) (slot : ℕ) (members : List Bool) (k : ℕ) : Type 0 where
  pub inside : k < 1111
  pub same : take_out members (relays k) ≡ take_out members₀ (relays slot)

module _ {members₀ : List Bool} {slot : ℕ} {members : List Bool} {k : ℕ} (c : Taking members₀ slot members k) where
  pub take_more : 0 < k → may members (last_relay k) ≡ true → Taking members₀ slot (set members (last_relay k) false) (above k)
  take_more p t = record {
    inside = omega (arith, c.inside);
    same = sym (ap (take_out members) (relays_cons k c.inside p) ∙ found_one members (last_relay k) (relays (above k)) t) ∙ c.same;
  }

  pub take_gone : 0 < k → may members (last_relay k) ≡ false → outcome false members ≡ take_out members₀ (relays slot)
  take_gone p t = sym (ap (take_out members) (relays_cons k c.inside p) ∙ found_none members (last_relay k) (relays (above k)) t) ∙ c.same

  pub take_done : k ≤ 0 → outcome true members ≡ take_out members₀ (relays slot)
  take_done h = let e : k ≡ 0 = omega arith in sym (ap (λ (j : ℕ). take_out members (relays j)) e ∙ none_out) ∙ c.same
    where
      none_out : take_out members (relays 0) ≡ outcome true members
      none_out = unfold take_out relays_by level in refl

-- ---- from the cards that may relay

module _ (s : Settings) where
  first-may : (q : ℕ) → q < 10 → may (table 10 0 (may_relay s)) q ≡ may_relay s q
  first-may q h = at_table 10 0 (may_relay s) q false h ∙ ap (may_relay s) (omega arith)

  all_same : (f g : ℕ → Bool) → ((q : ℕ) → q < 10 → f q ≡ g q) → (d k : ℕ) → all f (relays_by d k) ≡ all g (relays_by d k)
  unfolding all relays_by
  all_same f g h zero k = refl
  all_same f g h (suc d) k = ap₂ (λ (a : Bool) (b : Bool). a && b) (h (last_relay k) (omega arith)) (all_same f g h d (above k))

  -- the relays of a live path are all found
  pub first-among : (k : ℕ) → among (table 10 0 (may_relay s)) (relays k) ≡ (all (may_relay s) (relays k) && different (relays k))
  first-among k = ap (λ (b : Bool). b && different (relays k)) (all_same (may (table 10 0 (may_relay s))) (may_relay s) first-may (level k) k)

  -- those that may relay are the members of slot 0
  pub first-members : table 10 0 (may_relay s) ≡ members_of s 0
  unfolding lengthens
  first-members = is_table 10 _ false _ (length-table 10 0 (may_relay s)) (λ q h. first-may q h ∙ sym (and-true (may_relay s q)) ∙ ap (λ (b : Bool). may_relay s q && b) (sym (none_zero q 0 (omega arith))))

-- ---- whether a path is live, test by test

module _ (s : Settings) (members : List Bool) (k : ℕ) where
  pub in_zero : k ≡ 0 → outcome true members ≡ live_in s members k
  unfolding live_in opens take_out relays_by level
  in_zero e = rw e

  module _ (n : k ≡ 0 → ⊥) where
    pub in_own : s.p ≡ s.t → outcome false members ≡ live_in s members k
    unfolding live_in opens
    in_own e = rw (ne_eqb k 0 n, eq-eqb s.p s.t e)

    pub in_none : (s.p ≡ s.t → ⊥) → 1111 ≤ k → outcome false members ≡ live_in s members k
    unfolding live_in opens
    in_none o h = rw (ne_eqb k 0 n, ne_eqb s.p s.t o, le-ltb k 1111 h)

    module _ (o : s.p ≡ s.t → ⊥) (h : k < 1111) where
      pub in_deep : s.rack.m < level k → outcome false members ≡ live_in s members k
      unfolding live_in opens
      in_deep d = rw (ne_eqb k 0 n, ne_eqb s.p s.t o, lt-ltb k 1111 h, lt-leb (level k) s.rack.m d)

      pub in_slot : level k ≤ s.rack.m → take_out members (relays k) ≡ live_in s members k
      unfolding live_in opens
      in_slot d = rw (ne_eqb k 0 n, ne_eqb s.p s.t o, lt-ltb k 1111 h, le-leb (level k) s.rack.m d)

-- ---- from the cards that may relay: it is `live`, and what is left are the members of the path

module _ (s : Settings) (k : ℕ) where
  abbrev given : List Bool
  given = table 10 0 (may_relay s)

  given-yields : (b : Bool) → (cond b (take_out given (relays k)) (outcome false given)).yields ≡ cond b (all (may_relay s) (relays k) && different (relays k)) false
  given-yields true = taken given (length-table 10 0 (may_relay s)) (level k) k ∙ first-among s k
  given-yields false = refl

  apart : (o l e a d : Bool) → cond (o && (l && e)) (a && d) false ≡ (l && (e && (a && (d && o))))
  apart true true true a d = ap (λ (b : Bool). a && b) (sym (and-true d))
  apart true true false a d = refl
  apart true false e a d = refl
  apart false true true true d = sym (and-false d)
  apart false true true false d = refl
  apart false true false a d = refl
  apart false false e a d = refl

  given_tells : Dec (k ≡ 0) → (live_in s given k).yields ≡ live s k
  given_tells (yes e) = ap (λ (o : Outcome Bool (List Bool)). o.yields) (sym (in_zero s given k e)) ∙ sym (ap (live s) e ∙ T_eq (live s 0) (live_zero s))
  given_tells (no n) = unfold live_in opens live in (given-yields (opens s k) ∙ rw (ne_eqb k 0 n) (apart (not (eqb s.p s.t)) (ltb k 1111) (leb (level k) s.rack.m) (all (may_relay s) (relays k)) (different (relays k))))

  given-members : (b : Bool) → (cond b (take_out given (relays k)) (outcome false given)).yields ≡ true → (cond b (take_out given (relays k)) (outcome false given)).leaves ≡ members_of s k
  unfolding lengthens
  given-members true y =
      is_table 10 _ false _ (long given (relays k) ∙ length-table 10 0 (may_relay s))
      (λ q g. others given (length-table 10 0 (may_relay s)) (level k) k y q g ∙ ap (λ (b : Bool). b && none_of q (relays k)) (first-may s q g))
  given-members false y = never y

  module _ {members left : List Bool} {found : Bool} (m : members ≡ table 10 0 (may_relay s)) (h : outcome found left ≡ live_in s members k) where
    pub in_tells : found ≡ live s k
    in_tells = ap (λ (o : Outcome Bool (List Bool)). o.yields) h ∙ ap (λ (l : List Bool). (live_in s l k).yields) m ∙ given_tells (ℕ_discrete k 0)

    pub in_members : T (live s k) → left ≡ members_of s k
    in_members t =
        ap (λ (o : Outcome Bool (List Bool)). o.leaves) h ∙ ap (λ (l : List Bool). (live_in s l k).leaves) m
        ∙ unfold live_in in (given-members (opens s k) (given_tells (ℕ_discrete k 0) ∙ T_eq (live s k) t))

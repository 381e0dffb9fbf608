-- A frame that is not refused is its word entered at its path's slot, and one that is has the number of the first check that applies; when 12, 13 and 15 are given.
use Prim.Native.Nat.{ℕ, zero, suc, ◌≤◌}
use mathlib.Core.Path.{◌≡◌, refl, sym, ap, ◌∙◌, subst}
use mathlib.Core.Bool.{Bool, true, false, not, ◌&&◌}
use mathlib.Core.List.{List, [], ◌∷◌, ◌++◌}
use native.Mathlib.Omega.{arith}
use lib.Dec.{T, eqb, ltb, leb, leb→le}
use borrow.Author.Tests.{le-leb, lt-ltb, not-false}
use Rattle.std.specs.Prelude.{Result, Ok, Err}
use Rattle.ground.specs.Refusal as refusal
use Rattle.ground.specs.Checks.{Check, check, verdict, next}
use Rattle.ground.specs.Answer.{Answer, value, refused, answer, Outcome, outcome, outcome_by, refusal_of, of_result}
use Rattle.ground.specs.declared.refusal.Refusal.{Refusal}
use Rattle.ground.specs.Lists.{all}
use Rattle.ground.proofs.Bools.{and_left, and_right}
use Rattle.ground.proofs.Verdicts.{proper, no_verdict, no_verdicts, verdict-append, joined, rest_decides, first_decides, still_refused}
use Rattle.ground.proofs.Answers.{outcome-refused, value-verdict, refused-verdict, numbered, refused_outcome}
use Rattle.settings.specs.declared.Settings.{Settings}
use Rattle.paths.specs.Slots.{live}
use Rattle.paths.specs.Asked.{used, path_checks, slot_asked}
use Rattle.paths.proofs.Asking.{slot_good}
use Rattle.vote.specs.Vote.{rule_of}
use Rattle.book.specs.Book.{Book}
use Rattle.book.specs.Asked.{book_checks}
use Rattle.entering.specs.Entered.{entered}
use Rattle.entering.specs.declared.Entry.{Entry}
use Rattle.entering.specs.Asked.{enter_asked}
use Rattle.ages.specs.Ages.{age_of, class_of}
use Rattle.ages.specs.declared.Age.TheVariants.{Current, Old, Ahead}
use Rattle.frames.specs.Frame.{frame_of, relay_formed, well_formed}
use Rattle.frames.specs.Asked.{read_checks}
use Rattle.frames.specs.declared.Frame.{Frame}
use Rattle.arrivals.specs.Entry.{frame_slot, timely_checks, frame_checks, frame_entry, entry_checks, entry_asked, arrival_asked, frame_asked}

-- ---- a well formed frame has a slot

-- a used relay of a well formed frame is one of the ten cards
relay_used : (d k q : ℕ) → k ≤ d → T (relay_formed d k q) → ltb q 10 ≡ true
unfolding relay_formed
relay_used d k q h t = lt-ltb q 10 (omega (arith, leb→le q 9 (rw (le-leb k d h) at t)))

relays_small : (d q1 q2 q3 : ℕ) → T (relay_formed d 1 q1) → T (relay_formed d 2 q2) → T (relay_formed d 3 q3) → all (λ q. ltb q 10) (used d q1 q2 q3) ≡ true
unfolding used all
relays_small zero q1 q2 q3 a b c = refl
relays_small (suc zero) q1 q2 q3 a b c = rw (relay_used 1 1 q1 (omega arith) a)
relays_small (suc (suc zero)) q1 q2 q3 a b c = rw (relay_used 2 2 q2 (omega arith) b, relay_used 2 1 q1 (omega arith) a)
relays_small (suc (suc (suc d))) q1 q2 q3 a b c =
    rw (relay_used (suc (suc (suc d))) 3 q3 (omega arith) c, relay_used (suc (suc (suc d))) 2 q2 (omega arith) b, relay_used (suc (suc (suc d))) 1 q1 (omega arith) a)

-- the last four of six tests
last_four : (a b c d e f : Bool) → T (a && b && c && d && e && f) → T c × T d × T e × T f
last_four a b c d e f t =
    let five = and_left (a && b && c && d && e) f t in
    let four = and_left (a && b && c && d) e five in
    (and_right (a && b) c (and_left (a && b && c) d four), and_right (a && b && c) d four, and_right (a && b && c && d) e five, and_right (a && b && c && d && e) f t)

module _ (f : Frame) (w : well_formed f ≡ true) where
  slot_formed : slot_asked f.level f.q1 f.q2 f.q3 ≡ value (frame_slot f)
  unfolding well_formed
  slot_formed =
      let t = last_four (leb f.sender 9) (leb f.receiver 9) (leb f.level 3) (relay_formed f.level 1 f.q1) (relay_formed f.level 2 f.q2) (relay_formed f.level 3 f.q3) (subst T (sym w) tt) in
      slot_good f.level f.q1 f.q2 f.q3 (leb→le f.level 3 t.0) (relays_small f.level f.q1 f.q2 f.q3 t.1 t.2 t.3)

  -- so its record has a path
  path_formed : verdict (path_checks f.level f.q1 f.q2 f.q3) ≡ 0
  unfolding slot_asked
  path_formed = (value-verdict _ _ slot_formed).0

-- ---- old, ahead, another book's

module _ (s : Settings) (current : ℕ) (f : Frame) where
  pub by_old : class_of (age_of current f.exchange) ≡ Old → 12 ≡ verdict (timely_checks s current f)
  unfolding verdict
  by_old e = rw e

  pub by_ahead : class_of (age_of current f.exchange) ≡ Ahead → 13 ≡ verdict (timely_checks s current f)
  unfolding verdict
  by_ahead e = rw e

  pub by_foreign : class_of (age_of current f.exchange) ≡ Current → (eqb f.sender s.t && eqb f.receiver s.p) ≡ false → 15 ≡ verdict (timely_checks s current f)
  unfolding verdict
  by_foreign e h = rw (e, h)

  pub timely : class_of (age_of current f.exchange) ≡ Current → (eqb f.sender s.t && eqb f.receiver s.p) ≡ true → 0 ≡ verdict (timely_checks s current f)
  unfolding verdict
  timely e h = rw (e, h)

-- ---- the verdict on a frame by itself

module _ (s : Settings) (current : ℕ) (bytes : List ℕ) (reads : verdict (read_checks bytes) ≡ 0) where
  -- bytes that read are a well formed record
  formed : well_formed (frame_of bytes) ≡ true
  formed = not-false _ (no_verdict (read_checks bytes) tt reads).1.1.1.0

  -- and whether it carries an entry decides
  by_entry : verdict (entry_checks s current (frame_of bytes)) ≡ verdict (frame_checks s current bytes)
  by_entry =
      first_decides (timely_checks s current (frame_of bytes)) _ tt (path_formed (frame_of bytes) formed)
      ∙ sym (rest_decides (read_checks bytes) (timely_checks s current (frame_of bytes)) tt reads)

  pub entry_arrives : entry_asked s current (frame_of bytes) ≡ arrival_asked s current bytes
  unfolding entry_asked arrival_asked
  entry_arrives = ap (λ (v : ℕ). answer v (frame_entry (frame_of bytes))) by_entry

-- ---- other checks come before the frame's, and the slot's last: whatever memory is lent, and whatever an entry makes of it

module _ (cs : List Check) (p : T (proper cs)) (s : Settings) (current : ℕ) (bytes : List ℕ) {L : Type 0} (before : L) (made : Entry → L) where
  -- the slot's, after those of the frame, and of an entry
  abbrev slot_after : ℕ → List Check
  slot_after k = check refusal.path (not (live s k)) ∷ []

  abbrev framed : Outcome (Answer (Unit {0})) L
  framed = outcome_by (verdict (cs ++ (frame_checks s current bytes ++ slot_after (frame_slot (frame_of bytes))))) before (made (frame_entry (frame_of bytes)))

  abbrev entry : Entry → Outcome (Answer (Unit {0})) L
  entry e = outcome_by (verdict (cs ++ slot_after e.slot)) before (made e)

  -- a frame that is not refused by itself is its entry entered
  pub frame_is : verdict (frame_checks s current bytes) ≡ 0 → framed ≡ entry (frame_entry (frame_of bytes))
  frame_is none =
      let slot = slot_after (frame_slot (frame_of bytes)) in
      ap (λ (v : ℕ). outcome_by v before (made (frame_entry (frame_of bytes))))
      (verdict-append cs _ p ∙ ap (next (verdict cs)) (rest_decides (frame_checks s current bytes) slot tt none) ∙ sym (verdict-append cs slot p))

  -- so is the entry that arrives
  pub arrival_enters : {e : Entry} {o : Outcome (Answer (Unit {0})) L} → value e ≡ arrival_asked s current bytes → o ≡ entry e → o ≡ framed
  unfolding arrival_asked
  arrival_enters a h =
      let v = value-verdict (frame_entry (frame_of bytes)) (verdict (frame_checks s current bytes)) (sym a) in
      h ∙ ap entry (sym v.1) ∙ sym (frame_is v.0)

  -- where none does, the others' refusal is first, and then the frame's
  pub arrival_refused : {no k : ℕ} (x : Result (Unit {0}) Refusal) → refused k ≡ arrival_asked s current bytes → refusal_of x ≡ next no k → no ≡ verdict cs → outcome (of_result x) before ≡ framed
  unfolding arrival_asked
  arrival_refused x a e f =
      let v = refused-verdict (frame_entry (frame_of bytes)) (verdict (frame_checks s current bytes)) (sym a) in
      let slot = slot_after (frame_slot (frame_of bytes)) in
      refused_outcome x
      (joined cs _ p e f (still_refused (frame_checks s current bytes) slot tt (sym v.0) (λ z. v.1 (v.0 ∙ z))))
      (λ z. v.1 (no_verdicts (frame_checks s current bytes) slot tt (no_verdicts cs _ p z).1).0)
      before _

-- ---- so in a book

-- what an entry makes of it
abbrev pub book_made : Settings → Book → Entry → Book
book_made s b e = entered (rule_of s.rack) s b e.slot e.word

pub frame-enters : (s : Settings) (b : Book) (current : ℕ) (bytes : List ℕ) → verdict (frame_checks s current bytes) ≡ 0 → frame_asked s b current bytes ≡ enter_asked s b (frame_slot (frame_of bytes)) (frame_of bytes).word
unfolding frame_asked
frame-enters s b current bytes = frame_is (book_checks s b) tt s current bytes b (book_made s b)

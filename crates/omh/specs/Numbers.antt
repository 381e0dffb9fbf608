-- What C sees: each answer as a number, 0 or document 01's refusal number, and a value in lent memory.
use Rattle.std.specs.Prelude.{ℕ, Bool, cond, List, [], ◌∷◌, ℤ, pos}
use Rattle.ground.specs.Answer.{Answer, value, refused, Outcome, outcome}
use Rattle.settings.specs.declared.Rack.{Rack}
use Rattle.settings.specs.declared.Turn.{Turn}
use Rattle.frames.specs.declared.Frame.{Frame}

-- ---- numbers in

abbrev pub rack : ℕ → ℕ → Rack
rack n m = record { n = n; m = m }

abbrev pub turn : ℕ → ℕ → ℕ → Turn
turn n m t = record { rack = rack n m; t = t }

abbrev pub frame_with : ℕ → ℕ → ℕ → ℕ → ℕ → ℕ → ℕ → ℤ → Frame
frame_with exchange sender level q1 q2 q3 receiver word = record {
  exchange = exchange;
  sender = sender;
  level = level;
  q1 = q1;
  q2 = q2;
  q3 = q3;
  receiver = receiver;
  word = word;
}

-- ---- numbers out

abbrev pub number_of : {A : Type 0} → Answer A → ℕ
number_of (value a) = 0
number_of (refused k) = k

-- a call that leaves something, its answer as a number
abbrev pub numbered : {A L : Type 0} → Outcome (Answer A) L → Outcome ℕ L
numbered o = outcome (number_of o.yields) o.leaves

-- an answer's number, and its value in the form in which it is lent; a refusal changes nothing
abbrev pub placed_as : {A B : Type 0} → (A → B) → Answer A → B → Outcome ℕ B
placed_as form (value a) before = outcome 0 (form a)
placed_as form (refused k) before = outcome k before

abbrev pub placed : {A : Type 0} → Answer A → A → Outcome ℕ A
placed = placed_as (λ a. a)

-- 1 for yes, 0 for no
abbrev pub bit : Bool → ℤ
bit b = cond b (pos 1) (pos 0)

-- a frame's fields as words, in the order in which they lie in it
abbrev pub fields_of : Frame → List ℤ
fields_of f =
    pos f.exchange ∷ pos f.sender ∷ pos f.level ∷ pos f.q1 ∷ pos f.q2 ∷ pos f.q3 ∷ pos f.receiver ∷ f.word ∷ []

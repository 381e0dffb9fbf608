-- Document 01, 'Frames', as it is asked of the functions.
use Rattle.std.specs.Prelude.{ℕ, not, List, [], ◌∷◌, eqb, length}
use Rattle.ground.specs.Refusal as refusal
use Rattle.ground.specs.Checks.{Check, check, verdict}
use Rattle.ground.specs.Answer.{Answer, answer, Outcome, outcome_by}
use Rattle.ground.specs.Bytes.{starts, be16}
use Rattle.frames.specs.Frame.{mark, version, frame_of, bytes_of, well_formed}
use Rattle.frames.specs.declared.Frame.{Frame}

-- not 17 bytes, wrong mark, version not 1, not well formed
abbrev pub read_checks : List ℕ → List Check
read_checks bytes =
    check refusal.size (not (eqb (length bytes) 17))
    ∷ check refusal.mark (not (starts bytes mark))
    ∷ check refusal.version (not (eqb (be16 bytes 3) version))
    ∷ check refusal.form (not (well_formed (frame_of bytes)))
    ∷ []

-- a buffer that is not 17 bytes, not well formed
abbrev pub write_checks : Frame → List ℕ → List Check
write_checks f buffer =
    check refusal.long (not (eqb (length buffer) 17))
    ∷ check refusal.form (not (well_formed f))
    ∷ []

unfoldable pub read_asked : List ℕ → Answer Frame
read_asked bytes = answer (verdict (read_checks bytes)) (frame_of bytes)

unfoldable pub write_asked : Frame → List ℕ → Outcome (Answer (Unit {0})) (List ℕ)
write_asked f buffer = outcome_by (verdict (write_checks f buffer)) buffer (bytes_of f)

-- Document 01, 'Frames': the seventeen bytes, the record that they carry, and when it is well formed.
use Rattle.std.specs.Prelude.{ℕ, ◌<◌, Bool, cond, ◌&&◌, List, [], ◌∷◌, ◌++◌, eqb, leb}
use Rattle.std.specs.Int.{w32}
use Rattle.std.proofs.Common.{SFits}
use Rattle.ground.specs.Bytes.{byte, be16, be32, bytes16, bytes32, bits32, signed32}
use Rattle.frames.specs.declared.Frame.{Frame}

-- the letters OMH
abbrev pub mark : List ℕ
mark = 79 ∷ 77 ∷ 72 ∷ []

abbrev pub version : ℕ
version = 1

-- the fields of bytes: 5-6 exchange number; 7 sender; 8 level; 9-11 relays; 12 receiver; 13-16 the word in two's complement
unfoldable pub frame_of : List ℕ → Frame
frame_of l = record {
  exchange = be16 l 5;
  sender = byte l 7;
  level = byte l 8;
  q1 = byte l 9;
  q2 = byte l 10;
  q3 = byte l 11;
  receiver = byte l 12;
  word = signed32 (be32 l 13);
}

-- the bytes of a record: 0-2 the letters OMH; 3-4 version, 1; then the fields
unfoldable pub bytes_of : Frame → List ℕ
bytes_of f =
    mark
    ++ bytes16 version
    ++ bytes16 f.exchange
    ++ f.sender ∷ f.level ∷ f.q1 ∷ f.q2 ∷ f.q3 ∷ f.receiver ∷ []
    ++ bytes32 (bits32 f.word)

-- the relay at place k, from 1: used where the level has it
unfoldable pub relay_formed : ℕ → ℕ → ℕ → Bool
relay_formed level k q = cond (leb k level) (leb q 9) (eqb q 255)

-- the sender and receiver are at most 9, the level at most 3, the used relays at most 9 and the unused ones 255
unfoldable pub well_formed : Frame → Bool
well_formed f =
    leb f.sender 9
    && leb f.receiver 9
    && leb f.level 3
    && relay_formed f.level 1 f.q1
    && relay_formed f.level 2 f.q2
    && relay_formed f.level 3 f.q3

-- the ranges of the fields' types
pub record InRange (f : Frame) : Type 0 where
  pub exchange : f.exchange < 65536
  pub sender : f.sender < 256
  pub level : f.level < 256
  pub q1 : f.q1 < 256
  pub q2 : f.q2 < 256
  pub q3 : f.q3 < 256
  pub receiver : f.receiver < 256
  pub word : SFits w32 f.word

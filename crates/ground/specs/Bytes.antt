-- Document 01, 'Frames' and 'Listing program': marks, numbers big-endian, words in two's complement.
use Rattle.std.specs.Prelude.{ℕ, suc, ◌+◌, ◌-◌, ◌*◌, ◌/◌, ◌%◌, ◌<◌, Bool, cond, ◌&&◌, List, [], ◌∷◌, ◌++◌, eqb, ltb, leb, ℤ, pos, negsuc, ◌-ℤ◌, length, get_or}

-- the byte at place k; 0 past the end
abbrev pub byte : List ℕ → ℕ → ℕ
byte l k = get_or l k 0

-- every element is a byte
pub record AllBytes (l : List ℕ) : Type 0 where
  pub at : (k : ℕ) → byte l k < 256

-- a list begins with the three bytes of a mark
unfoldable pub starts : List ℕ → List ℕ → Bool
starts l mark =
    leb 3 (length l)
    && eqb (byte l 0) (byte mark 0)
    && eqb (byte l 1) (byte mark 1)
    && eqb (byte l 2) (byte mark 2)

-- the number in two and in four bytes from place k on, the highest byte first
unfoldable pub be16 : List ℕ → ℕ → ℕ
be16 l k = 256 * byte l k + byte l (k + 1)

unfoldable pub be32 : List ℕ → ℕ → ℕ
be32 l k = 65536 * be16 l k + be16 l (k + 2)

-- a number as two and as four bytes
unfoldable pub bytes16 : ℕ → List ℕ
bytes16 v = v / 256 ∷ v % 256 ∷ []

unfoldable pub bytes32 : ℕ → List ℕ
bytes32 v = bytes16 (v / 65536) ++ bytes16 (v % 65536)

-- two's complement: a word below 0, which is -(n + 1), is carried as itself and 4,294,967,296
unfoldable pub bits32 : ℤ → ℕ
bits32 (pos n) = n
bits32 (negsuc n) = 4294967296 - suc n

unfoldable pub signed32 : ℕ → ℤ
signed32 v = cond (ltb v 2147483648) (pos v) (pos v -ℤ pos 4294967296)

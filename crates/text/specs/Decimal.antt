-- The decimal text of a number, as ASCII bytes.
use Rattle.std.specs.Prelude.{ℕ, zero, suc, ◌+◌, ◌/◌, ◌%◌, cond, List, [], ◌∷◌, ◌++◌, ltb, ℤ, pos, negsuc}

-- the digits of n, where k of them are enough: those of n / 10, unless n is below 10, and then the last; 48 is the digit 0
unfoldable pub digits_of : ℕ → ℕ → List ℕ
digits_of zero n = []
digits_of (suc k) n = cond (ltb n 10) [] (digits_of k (n / 10)) ++ ((48 + n % 10) ∷ [])

-- the digits of a number's size, after a minus sign, 45, for a negative one; ten digits are enough for every 32-bit word
unfoldable pub decimal_of : ℤ → List ℕ
decimal_of (pos n) = digits_of 10 n
decimal_of (negsuc n) = 45 ∷ digits_of 10 (suc n)

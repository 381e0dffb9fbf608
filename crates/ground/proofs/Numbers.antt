-- Laws of numbers and marks as bytes.
use Prim.Native.Nat.{ℕ, ◌+◌, ◌-◌, ◌*◌, ◌/◌, ◌%◌, ◌^◌, ◌≤◌, ◌<◌}
use mathlib.Core.Path.{◌≡◌, refl, ap, ◌∙◌}
use mathlib.Core.List.{List, [], ◌∷◌}
use mathlib.Core.Bool.{true, and-eq-true_iff}
use native.Mathlib.Omega.{arith}
use lib.Dec.{eqb, leb}
use lib.ListN.{length, take, drop, length-drop, get_or-eq_default}
use lib.Seq.{take_all, get_or-drop}
use borrow.Author.Tests.{eqb-true}
use Rattle.ground.specs.Bytes.{byte, AllBytes, starts, be16, be32, bytes16, bytes32}

-- a number's bytes are its number
pub join16 : (v : ℕ) → 256 * (v / 256) + v % 256 ≡ v
join16 v = omega arith

pub join32 : (v : ℕ) → 65536 * (256 * (v / 65536 / 256) + v / 65536 % 256) + (256 * (v % 65536 / 256) + v % 65536 % 256) ≡ v
join32 v = omega arith

module _ (l : List ℕ) (k : ℕ) where
  -- past the end of a list
  module _ (h : length l ≤ k) where
    past : (j : ℕ) → k ≤ j → byte l j ≡ 0
    past j g = get_or-eq_default l 0 (omega arith)

    pub be16_past : 0 ≡ be16 l k
    unfolding be16
    be16_past = omega (arith, past)

    pub be32_past : 0 ≡ be32 l k
    unfolding be32 be16
    be32_past = omega (arith, past)

  -- the rest of the list from place k on, as a part of a slice has it
  abbrev rest : List ℕ
  rest = take (length l - k) (drop k l)

  at_rest : (i j : ℕ) → k + i ≡ j → byte rest i ≡ byte l j
  at_rest i j e = ap (λ (r : List ℕ). byte r i) (take_all (length l - k) (drop k l) (omega (arith, length-drop k l))) ∙ get_or-drop k l i 0 ∙ ap (byte l) e

  pub be32-rest : (a b : ℕ) → a ≡ be16 rest 0 → b ≡ be16 rest 2 → 65536 * a + b ≡ be32 l k
  unfolding be32 be16
  be32-rest a b p q = omega (arith, at_rest 0 k (omega arith), at_rest 1 (k + 1) refl, at_rest 2 (k + 2) refl, at_rest 3 (k + 2 + 1) (omega arith))

-- the number in bytes has these bytes
module _ (l : List ℕ) (b : AllBytes l) (k : ℕ) where
  pub bytes-be16 : bytes16 (be16 l k) ≡ byte l k ∷ byte l (k + 1) ∷ []
  unfolding be16 bytes16
  bytes-be16 =
      let p : be16 l k / 256 ≡ byte l k = omega (arith, b.at k, b.at (k + 1)) in
      let q : be16 l k % 256 ≡ byte l (k + 1) = omega (arith, b.at k, b.at (k + 1)) in
      rw (p, q)

  pub be16_low : be16 l k < 65536
  unfolding be16
  be16_low = omega (arith, b.at k, b.at (k + 1))

module _ (l : List ℕ) (b : AllBytes l) (k : ℕ) where
  pub bytes-be32 : bytes32 (be32 l k) ≡ byte l k ∷ byte l (k + 1) ∷ byte l (k + 2) ∷ byte l (k + 2 + 1) ∷ []
  unfolding be32 bytes32
  bytes-be32 =
      let p : be32 l k / 65536 ≡ be16 l k = omega (arith, be16_low l b k, be16_low l b (k + 2)) in
      let q : be32 l k % 65536 ≡ be16 l (k + 2) = omega (arith, be16_low l b k, be16_low l b (k + 2)) in
      rw (p, q, bytes-be16 l b k, bytes-be16 l b (k + 2))

  pub be32_low : be32 l k < 2 ^ 32
  unfolding be32
  be32_low = omega (arith, be16_low l b k, be16_low l b (k + 2))

-- a list that begins with a mark has its bytes
pub mark-bytes : (l m : List ℕ) → starts l m ≡ true → (byte l 0 ≡ byte m 0) × (byte l 1 ≡ byte m 1) × (byte l 2 ≡ byte m 2)
unfolding starts
mark-bytes l m e =
    let c = (and-eq-true_iff _ (eqb (byte l 2) (byte m 2))).0 e in
    let b = (and-eq-true_iff _ (eqb (byte l 1) (byte m 1))).0 c.0 in
    let a = (and-eq-true_iff (leb 3 (length l)) (eqb (byte l 0) (byte m 0))).0 b.0 in
    (eqb-true _ _ a.1, eqb-true _ _ b.1, eqb-true _ _ c.1)

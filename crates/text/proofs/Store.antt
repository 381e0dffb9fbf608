-- Laws of storing a text in a list, from a place on.
use Prim.Native.Nat.{ℕ, suc, ◌+◌, ◌/◌, ◌^◌, ◌≤◌, ◌<◌}
use mathlib.Core.Path.{◌≡◌, sym, ap, ◌∙◌}
use mathlib.Core.List.{List, [], ◌∷◌, ◌++◌}
use native.Mathlib.Nat.{zero-add}
use native.Mathlib.Omega.{arith}
use lib.IntN.{ℤ}
use lib.ListN.{length, set, drop, length-append, length-set}
use lib.Seq.{sets, length-sets, sets-eq}
use Rattle.text.specs.Decimal.{digits_of, decimal_of}
use Rattle.text.proofs.Digits.{last, one_digit, more_digits}
use Rattle.text.proofs.Laws.{length-text}

-- one text after another
pub sets-append : (p q l : List ℕ) (i : ℕ) → sets l i (p ++ q) ≡ sets (sets l i p) (i + length p) q
sets-append [] q l i = let e : i + 0 ≡ i = omega arith in rw e
sets-append (v ∷ p) q l i = let e : i + suc (length p) ≡ suc i + length p = omega arith in rw e (sets-append p q (set l i v) (suc i))

-- the digits of n but the last are stored in l from the place i on, and make it `out`; the last goes to `next`
pub record Begun (l : List ℕ) (i n next : ℕ) (out : List ℕ) : Type 0 where
  pub front : List ℕ
  pub digits : digits_of 10 n ≡ front ++ (last n ∷ [])
  pub place : next ≡ i + length front
  pub holds : out ≡ sets l i front

module _ {l : List ℕ} {i n next : ℕ} {out : List ℕ} where
  pub begun_none : n < 10 → next ≡ i → out ≡ l → Begun l i n next out
  begun_none h p q = record { front = []; digits = one_digit 9 h; place = omega arith; holds = q }

  pub begun_some : 10 ≤ n → n < 2 ^ 32 → next ≡ i + length (digits_of 10 (n / 10)) → out ≡ sets l i (digits_of 10 (n / 10)) → Begun l i n next out
  begun_some h f p q = record { front = digits_of 10 (n / 10); digits = more_digits 8 h (omega arith); place = p; holds = q }

  module _ (b : Begun l i n next out) where
    pub inside : i + length (digits_of 10 n) ≤ length l → next < length out
    inside h = omega (arith, ap length b.digits, length-append b.front (last n ∷ []), ap length b.holds, length-sets l i b.front)

    pub kept : (v : ℕ) → length (set out next v) ≡ length l
    kept v = length-set out next v ∙ ap length b.holds ∙ length-sets l i b.front

    pub ended : (next + 1 ≡ i + length (digits_of 10 n)) × (set out next (last n) ≡ sets l i (digits_of 10 n))
    ended = rw b.digits (rw length-append (omega arith), rw (b.place, b.holds) (sym (sets-append b.front (last n ∷ []) l i)))

-- the text of a word, stored from the first place on: the text, then what the list held
pub stored : (x : ℤ) (l : List ℕ) {text out : List ℕ} {r : ℕ} → length l ≡ 12 → decimal_of x ≡ text → r ≡ length text → out ≡ sets l 0 text → (r ≡ length (decimal_of x)) × (out ≡ decimal_of x ++ drop (length (decimal_of x)) l)
stored x l {text} h e p q = (p ∙ ap length (sym e), q ∙ ap (sets l 0) (sym e) ∙ sets-eq (decimal_of x) l 0 (omega (arith, length-text x)) ∙ rw zero-add)

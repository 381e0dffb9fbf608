-- Laws of the definition: which bytes a text has, the number that it reads as, that no zero leads, and its length.
use Prim.Native.Nat.{ℕ, suc, ◌+◌, ◌-◌, ◌*◌, ◌^◌, ◌≤◌, ◌<◌}
use mathlib.Core.Path.{◌≡◌, refl, ap, ◌∙◌}
use mathlib.Core.Bool.{cond}
use mathlib.Core.List.{List, [], ◌∷◌, ◌++◌}
use mathlib.Core.Logic.{◌⊎◌, inl, inr}
use native.Mathlib.Nat.{pow-succ'}
use native.Mathlib.Omega.{arith}
use borrow.Author.Tests.{ne_eqb}
use lib.Dec.{eqb}
use lib.IntN.{ℤ, pos, negsuc, neg_ℤ}
use lib.ListN.{length, get_or, length-append}
use mir.Syntax.{w32}
use mir.Val.{SFits}
use Rattle.text.specs.Decimal.{digits_of, decimal_of}
use Rattle.text.proofs.Digits.{last, by_digits}

-- ---- every byte is a minus sign or a digit

-- P holds of every byte of a text
abbrev pub Every : (ℕ → Type 0) → List ℕ → Type 0
Every P [] = Unit {0}
Every P (b ∷ bs) = P b × Every P bs

every_last : (P : ℕ → Type 0) (bs : List ℕ) (b : ℕ) → Every P bs → P b → Every P (bs ++ (b ∷ []))
every_last P [] b a p = (p, tt)
every_last P (c ∷ bs) b a p = (a.0, every_last P bs b a.1 p)

abbrev pub Digit : ℕ → Type 0
Digit b = (48 ≤ b) × (b ≤ 57)

abbrev pub SignOrDigit : ℕ → Type 0
SignOrDigit b = (b ≡ 45) ⊎ Digit b

digits_only : (P : ℕ → Type 0) → ((b : ℕ) → Digit b → P b) → (k n : ℕ) → Every P (digits_of k n)
digits_only P p = by_digits (λ k n ds. Every P ds) (λ n. tt) (λ k n h. (p (last n) (omega arith), tt)) (λ k n ds h a. every_last P ds (last n) a (p (last n) (omega arith)))

pub bytes : (x : ℤ) → Every SignOrDigit (decimal_of x)
unfolding decimal_of
bytes (pos n) = digits_only SignOrDigit (λ b. inr) 10 n
bytes (negsuc n) = (inl refl, digits_only SignOrDigit (λ b. inr) 10 (suc n))

-- ---- the text of a word reads as the word

-- the number that digits read as, after digits that read as n
abbrev pub reading : ℕ → List ℕ → ℕ
reading n [] = n
reading n (b ∷ bs) = reading (10 * n + (b - 48)) bs

-- a minus sign before the digits makes their number negative
abbrev pub number_of : List ℕ → ℤ
number_of [] = pos 0
number_of (b ∷ bs) = cond (eqb b 45) (neg_ℤ (pos (reading 0 bs))) (pos (reading 0 (b ∷ bs)))

pub reading-last : (n : ℕ) (ds : List ℕ) (b : ℕ) → reading n (ds ++ (b ∷ [])) ≡ 10 * reading n ds + (b - 48)
reading-last n [] b = refl
reading-last n (d ∷ ds) b = reading-last (10 * n + (d - 48)) ds b

pub digits_read : (k n : ℕ) → n < 10 ^ k → reading 0 (digits_of k n) ≡ n
digits_read =
    by_digits (λ k n ds. n < 10 ^ k → reading 0 ds ≡ n) (λ n h. omega arith) (λ k n h _. omega arith)
    (λ k n ds h ih f. omega (arith, reading-last 0 ds (last n), ih (omega (arith, pow-succ' 10 k))))

-- digits with no minus sign
unsigned : (ds : List ℕ) → Every Digit ds → number_of ds ≡ pos (reading 0 ds)
unsigned [] a = refl
unsigned (d ∷ ds) a = rw (ne_eqb d 45 (λ e. omega arith))

pub reads_back : (x : ℤ) → SFits w32 x → number_of (decimal_of x) ≡ x
unfolding decimal_of
reads_back (pos n) f = unsigned (digits_of 10 n) (digits_only Digit (λ b d. d) 10 n) ∙ ap pos (digits_read 10 n (omega arith))
reads_back (negsuc n) f = ap (λ (m : ℕ). neg_ℤ (pos m)) (digits_read 10 (suc n) (omega arith))

-- ---- no zero leads: the first digit of a number over 0 is over 0

first-kept : (ds bs : List ℕ) → 48 < get_or ds 0 48 → 48 < get_or (ds ++ bs) 0 48
first-kept [] bs h = absurd (omega arith)
first-kept (d ∷ ds) bs h = h

pub no_zero_leads : (k n : ℕ) → 0 < n → n < 10 ^ k → 48 < get_or (digits_of k n) 0 48
no_zero_leads =
    by_digits (λ k n ds. 0 < n → n < 10 ^ k → 48 < get_or ds 0 48) (λ n h f. omega arith) (λ k n h g f. omega arith)
    (λ k n ds h ih g f. first-kept ds (last n ∷ []) (ih (omega arith) (omega (arith, pow-succ' 10 k))))

-- ---- its length is 1 to 11

pub length_digits : (k n : ℕ) → length (digits_of k n) ≤ k
length_digits = by_digits (λ k n ds. length ds ≤ k) (λ n. omega arith) (λ k n h. omega arith) (λ k n ds h l. rw length-append (omega arith))

some_digit : (k n : ℕ) → 1 ≤ length (digits_of (suc k) n)
some_digit k n = by_digits (λ k n ds. 1 ≤ k → 1 ≤ length ds) (λ n h. omega arith) (λ k n h _. omega arith) (λ k n ds h _ _. rw length-append (omega arith)) (suc k) n (omega arith)

pub length-text : (x : ℤ) → (1 ≤ length (decimal_of x)) × (length (decimal_of x) ≤ 11)
unfolding decimal_of
length-text (pos n) = omega (arith, some_digit 9 n, length_digits 10 n)
length-text (negsuc n) = omega (arith, length_digits 10 (suc n))

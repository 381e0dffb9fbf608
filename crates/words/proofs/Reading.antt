-- Laws of reading at a level, wrapping and unwrapping, and of the vote that they make.
use Prim.Native.Nat.{ℕ, suc, ◌+◌, ◌-◌, ◌≤◌, ◌<◌}
use mathlib.Core.Path.{◌≡◌, refl, sym, subst, ap, ◌∙◌}
use mathlib.Core.Bool.{Bool, true, false}
use mathlib.Core.Logic.{◌⊎◌, inl, inr}
use native.Mathlib.Omega.{arith}
use borrow.Author.Tests.{leb-true, leb-false, ltb-true, ltb-false, le-leb, lt-leb, lt-ltb}
use lib.Dec.{leb, ltb}
use lib.IntN.{ℤ, pos, negsuc, nat_abs}
use lib.Signed.{lt_z}
use Rattle.std.proofs.lemmas.Bool.Decides.{nat_tests}
use Rattle.words.specs.Word.{kind_of, missing, E, read_at, wrapped, unwrapped}
use Rattle.words.specs.declared.Kind.TheVariants.{Ordinary, Bad}
use Rattle.words.proofs.ByKind.{kind_missing, View, ordinary, wraps, bad, view, ordinary_not, below}

-- ---- each operation on each kind

read_ordinary : (d : ℕ) (x : ℤ) → kind_of x ≡ Ordinary → read_at d x ≡ x
unfolding read_at
read_ordinary d x e = rw e

read_bad : (d : ℕ) (x : ℤ) → kind_of x ≡ Bad → read_at d x ≡ E
unfolding read_at
read_bad d x e = rw e

read-missing : (d w : ℕ) → w ≤ 3 → w ≤ d → read_at d (missing w) ≡ missing w
unfolding read_at
read-missing d w h l = simp (kind_missing w h, le-leb w d l)

read_too_far : (d w : ℕ) → w ≤ 3 → d < w → read_at d (missing w) ≡ E
unfolding read_at
read_too_far d w h l = simp (kind_missing w h, lt-leb w d l)

pub read-E : (d : ℕ) → read_at d E ≡ E
read-E d = read-missing d 0 (omega arith) (omega arith)

wrap_ordinary : (x : ℤ) → kind_of x ≡ Ordinary → wrapped x ≡ x
unfolding wrapped
wrap_ordinary x e = rw e

wrap-missing : (w : ℕ) → w < 3 → wrapped (missing w) ≡ missing (w + 1)
unfolding wrapped
wrap-missing w h = simp (kind_missing w (omega arith), lt-ltb w 3 h)

wrap_most : wrapped (missing 3) ≡ E
unfolding wrapped kind_of
wrap_most = refl

unwrap_ordinary : (x : ℤ) → kind_of x ≡ Ordinary → unwrapped x ≡ x
unfolding unwrapped
unwrap_ordinary x e = rw e

unwrap-missing : (w : ℕ) → w ≤ 3 → unwrapped (missing w) ≡ missing (w - 1)
unfolding unwrapped
unwrap-missing w h = simp (kind_missing w h)

-- ---- what reads as itself at a level: an ordinary word, or missing with no more wraps than the level

pub data Reads (d : ℕ) (x : ℤ) : Type 0 where
  as_ordinary : kind_of x ≡ Ordinary → Reads d x
  as_missing : (w : ℕ) → w ≤ 3 → w ≤ d → x ≡ missing w → Reads d x

reads_E : (d : ℕ) (x : ℤ) → x ≡ E → Reads d x
reads_E d x e = as_missing 0 (omega arith) (omega arith) e

pub reads : (d : ℕ) (x : ℤ) → Reads d (read_at d x)
reads d x = go (view x)
  where
    near : (w : ℕ) → w ≤ 3 → x ≡ missing w → (b : Bool) → leb w d ≡ b → Reads d (read_at d x)
    near w h e true l = as_missing w h (leb-true w d l) (ap (read_at d) e ∙ read-missing d w h (leb-true w d l))
    near w h e false l = reads_E d _ (ap (read_at d) e ∙ read_too_far d w h (leb-false w d l))

    go : View x → Reads d (read_at d x)
    go (ordinary e) = as_ordinary (ap kind_of (read_ordinary d x e) ∙ e)
    go (wraps w h e) = near w h e (leb w d) refl
    go (bad e) = reads_E d _ (read_bad d x e)

pub itself : (d : ℕ) (x : ℤ) → Reads d x → read_at d x ≡ x
itself d x (as_ordinary e) = read_ordinary d x e
itself d x (as_missing w h l e) = ap (read_at d) e ∙ read-missing d w h l ∙ sym e

pub is_read : (d : ℕ) (x : ℤ) → read_at d x ≡ x → Reads d x
is_read d x e = subst (Reads d) e (reads d x)

-- ---- the laws

-- a reading reads as itself
pub read_read : (d : ℕ) (x : ℤ) → read_at d (read_at d x) ≡ read_at d x
read_read d x = itself d _ (reads d x)

-- a level over 3 reads as level 3
pub read-over : (d : ℕ) (x : ℤ) → 3 ≤ d → read_at d x ≡ read_at 3 x
read-over d x g = go (view x)
  where
    go : View x → read_at d x ≡ read_at 3 x
    go (ordinary e) = read_ordinary d x e ∙ sym (read_ordinary 3 x e)
    go (wraps w h e) = ap (read_at d) e ∙ read-missing d w h (omega arith) ∙ sym (ap (read_at 3) e ∙ read-missing 3 w h h)
    go (bad e) = read_bad d x e ∙ sym (read_bad 3 x e)

-- the wrapped reading of level d reads as itself at level d + 1
pub wrap_reads : (d : ℕ) (x : ℤ) → Reads d x → Reads (suc d) (wrapped x)
wrap_reads d x (as_ordinary e) = as_ordinary (ap kind_of (wrap_ordinary x e) ∙ e)
wrap_reads d x (as_missing w h l e) = go (ltb w 3) refl
  where
    go : (b : Bool) → ltb w 3 ≡ b → Reads (suc d) (wrapped x)
    go true t = as_missing (w + 1) (omega (arith, ltb-true w 3 t)) (omega arith) (ap wrapped e ∙ wrap-missing w (ltb-true w 3 t))
    go false t = let q : w ≡ 3 = omega (arith, ltb-false w 3 t) in reads_E (suc d) _ (ap wrapped (e ∙ ap missing q) ∙ wrap_most)

-- unwrapping undoes wrapping, for every word read at levels 0 to 2
pub unwrap-wrap : (d : ℕ) (x : ℤ) → d ≤ 2 → Reads d x → unwrapped (wrapped x) ≡ x
unwrap-wrap d x g (as_ordinary e) = ap unwrapped (wrap_ordinary x e) ∙ unwrap_ordinary x e
unwrap-wrap d x g (as_missing w h l e) =
    let q : w + 1 - 1 ≡ w = omega arith in
    ap (λ (y : ℤ). unwrapped (wrapped y)) e ∙ ap unwrapped (wrap-missing w (omega arith)) ∙ unwrap-missing (w + 1) (omega arith) ∙ ap missing q ∙ sym e

-- and no wrapped value is E
pub wrap_not_E : (d : ℕ) (x : ℤ) → d ≤ 2 → Reads d x → wrapped x ≡ E → ⊥
wrap_not_E d x g (as_ordinary e) q = ordinary_not x 0 (omega arith) e (sym (wrap_ordinary x e) ∙ q)
wrap_not_E d x g (as_missing w h l e) q = let z = ap nat_abs (sym (wrap-missing w (omega arith)) ∙ ap wrapped (sym e) ∙ q) in omega arith

-- what reads as itself at level d + 1 does so at level d when it is unwrapped
pub unwrap_reads : (d : ℕ) (x : ℤ) → Reads (suc d) x → Reads d (unwrapped x)
unwrap_reads d x (as_ordinary e) = as_ordinary (ap kind_of (unwrap_ordinary x e) ∙ e)
unwrap_reads d x (as_missing w h l e) = as_missing (w - 1) (omega arith) (omega arith) (ap unwrapped e ∙ unwrap-missing w h)

-- at level 0 it is ordinary or E
pub read_0 : (x : ℤ) → Reads 0 x → (kind_of x ≡ Ordinary) ⊎ (x ≡ E)
read_0 x (as_ordinary e) = inl e
read_0 x (as_missing w h l e) = let q : w ≡ 0 = omega arith in inr (e ∙ ap missing q)

-- ---- what a `match` over one range tells: it ends d above E, where d is the level, and 3 for a level over 3

pub low_reads : (l : ℕ) (x : ℤ) → lt_z x (negsuc 999999998) ≡ true → read_at l x ≡ E
low_reads l x h = read_bad l x (below x h)

pub within_reads : (l d : ℕ) → d ≡ l - (l - 3) → (x : ℤ) → lt_z x (negsuc 999999998) ≡ false → lt_z x (pos (1000000001 + d)) ≡ true → read_at l x ≡ x
unfolding kind_of read_at
within_reads l d q (pos n) g h = grind (arith, nat_tests)
within_reads l d q (negsuc n) g h = grind (arith, nat_tests)

pub high_reads : (l d : ℕ) → d ≡ l - (l - 3) → (x : ℤ) → lt_z x (pos (1000000001 + d)) ≡ false → read_at l x ≡ E
unfolding kind_of read_at
high_reads l d q (pos n) h = grind (arith, nat_tests)
high_reads l d q (negsuc n) h = grind (arith, nat_tests)

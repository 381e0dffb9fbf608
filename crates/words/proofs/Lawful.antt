-- What a rule must keep for the laws of the vote, the book and the exchange; document 01's rule keeps it.
use Prim.Native.Nat.{ℕ, suc, ◌≤◌}
use mathlib.Core.Path.{◌≡◌, refl, sym}
use mathlib.Core.Bool.{false}
use lib.IntN.{ℤ}
use Rattle.words.specs.Word.{kind_of, E, unwrapped}
use Rattle.words.specs.Rule.{Rule, omh}
use Rattle.words.proofs.Same.{ne_same}
use Rattle.words.proofs.Reading.{read-E, read_read, itself, is_read, wrap_reads, unwrap_reads, unwrap-wrap, wrap_not_E}

pub record Lawful (R : Rule) : Type 0 where
  -- a reading reads as itself
  pub read_read : (d : ℕ) (x : ℤ) → R.read d (R.read d x) ≡ R.read d x
  -- wrapping goes from level d to d + 1, unwrapping back
  pub wrap_reads : (d : ℕ) (x : ℤ) → R.read d x ≡ x → R.read (suc d) (R.wrap x) ≡ R.wrap x
  pub unwrap_reads : (d : ℕ) (x : ℤ) → R.read (suc d) x ≡ x → R.read d (R.unwrap x) ≡ R.unwrap x
  -- a reading of level 0 to 2 comes back from its wrap, and its wrap is not struck
  pub undone : (d : ℕ) (x : ℤ) → d ≤ 2 → R.read d x ≡ x → R.unwrap (R.wrap x) ≡ x
  pub counted : (d : ℕ) (x : ℤ) → d ≤ 2 → R.read d x ≡ x → R.struck (R.wrap x) ≡ false
  -- a missing word reads as the word for none, which is itself at every level, and unwrapped
  pub missing_reads : (d : ℕ) → R.read d E ≡ R.none
  pub none_reads : (d : ℕ) → R.read d R.none ≡ R.none
  pub none_unwraps : R.unwrap R.none ≡ R.none

unwrap-E : unwrapped E ≡ E
unfolding unwrapped kind_of
unwrap-E = refl

pub omh_lawful : Lawful omh
omh_lawful = record {
  read_read = read_read;
  wrap_reads = λ d x e. itself (suc d) _ (wrap_reads d x (is_read d x e));
  unwrap_reads = λ d x e. itself d _ (unwrap_reads d x (is_read (suc d) x e));
  undone = λ d x h e. unwrap-wrap d x h (is_read d x e);
  counted = λ d x h e. ne_same E _ (λ q. wrap_not_E d x h (is_read d x e) (sym q));
  missing_reads = read-E;
  none_reads = read-E;
  none_unwraps = unwrap-E;
}

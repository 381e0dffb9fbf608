-- What a vote goes by: how words are read, wrapped and unwrapped, which are struck, and the word for none. Document 01's rule is `omh`.
use Rattle.std.specs.Prelude.{ℕ, Bool, List, ℤ}
use Rattle.words.specs.Word.{E, read_at, wrapped, unwrapped}
use Rattle.words.specs.Majority.{same, majority}

pub record Rule : Type 0 where
  pub read : ℕ → ℤ → ℤ
  pub wrap : ℤ → ℤ
  pub unwrap : ℤ → ℤ
  pub struck : ℤ → Bool
  pub none : ℤ

abbrev pub majority_by : Rule → List ℤ → ℤ
majority_by R l = majority R.struck R.none l

abbrev pub omh : Rule
omh = record { read = read_at; wrap = wrapped; unwrap = unwrapped; struck = same E; none = E }

-- Laws of a file's exceptions.
use Prim.Native.Nat.{ℕ, zero, suc}
use mathlib.Core.Path.{◌≡◌, refl, ◌∙◌}
use mathlib.Core.List.{List}
use lib.IntN.{ℤ}
use lib.ListN.{length, length-set, length-replicate}
use Rattle.words.specs.Word.{E}
use Rattle.exchange.specs.Asked.{table_words}
use Rattle.files.specs.File.{told, all_missing}

pub length-told : (file : List ℕ) (c : ℕ) (words : List ℤ) → length (told file c words) ≡ length words
unfolding told
length-told file zero words = refl
length-told file (suc c) words = length-set (told file c words) _ _ ∙ length-told file c words

pub length-missing : length all_missing ≡ table_words
unfolding all_missing
length-missing = length-replicate table_words E

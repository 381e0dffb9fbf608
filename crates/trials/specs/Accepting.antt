-- What is known of a file once it is read.
use Rattle.std.specs.Prelude.{ℕ, ◌≡◌, List}
use Rattle.ground.specs.Checks.{verdict}
use Rattle.files.specs.File.{file_checks, head_of}
use Rattle.files.specs.declared.Head.{Head}

-- a file that is not refused, and its head
pub record Accepted (file : List ℕ) (h : Head) : Type 0 where
  pub passes : verdict (file_checks file) ≡ 0
  pub head : h ≡ head_of file

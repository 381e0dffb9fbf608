-- `files::tell`: the first `i` exceptions are told.
use mathlib.Core.Path.{◌≡◌}
use Rattle.files.specs.File.{told}
use Rattle.files.proofs.tell.Given as goal

abbrev pub invariant-loop-i : goal.invariant-loop-i
invariant-loop-i l = l.table ≡ told l.file l.i l.initial.table

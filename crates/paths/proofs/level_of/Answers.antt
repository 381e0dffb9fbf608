-- `paths::level_of` meets its contract: each range of slots has its level.
use mathlib.Core.Path.{sym}
use native.Mathlib.Omega.{arith}
use Rattle.paths.proofs.Levels.{level_0, level_1, level_2, level_3, level_4}
use Rattle.paths.proofs.level_of.Goals as goal

pub returns-in-0 : goal.returns-in-0
returns-in-0 c = sym (level_0 _ (omega arith))

pub returns-in-1-to-10 : goal.returns-in-1-to-10
returns-in-1-to-10 c = sym (level_1 c.args.slot (omega arith) (omega arith))

pub returns-in-11-to-110 : goal.returns-in-11-to-110
returns-in-11-to-110 c = sym (level_2 c.args.slot (omega arith) (omega arith))

pub returns-in-111-to-1110 : goal.returns-in-111-to-1110
returns-in-111-to-1110 c = sym (level_3 c.args.slot (omega arith) (omega arith))

pub returns-in_default : goal.returns-in_default
returns-in_default c = sym (level_4 c.args.slot (omega arith))

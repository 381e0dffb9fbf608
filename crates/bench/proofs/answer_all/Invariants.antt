use Prim.Native.Nat.{ℕ}
use mathlib.Core.Bool.{cond}
use mathlib.Core.List.{List}
use lib.IntN.{ℤ}
use Rattle.ground.specs.Lists.{at}
use Rattle.ground.proofs.Lists.{Passed}
use Rattle.settings.specs.Settings.{fits}
use Rattle.settings.specs.declared.Turn.{Turn}
use Rattle.vote.specs.Vote.{rule_of}
use Rattle.exchange.specs.Exchange.{exchange, answer_of}
use Rattle.bench.proofs.answer_all.Given as goal

-- what place p holds at the end
abbrev place : Turn → ℤ → List ℕ → List ℤ → List ℤ → ℕ → ℤ
place turn x statuses words before p = cond (fits turn.rack p) (answer_of (rule_of turn.rack) (exchange turn x statuses words) p) (at before p)

abbrev pub invariant-loop-p : goal.invariant-loop-p
invariant-loop-p l = Passed 10 (place l.turn l.x l.statuses l.table l.initial.answers) l.initial.answers l.p l.answers

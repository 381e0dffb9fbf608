-- Settings as they are asked for.
use Rattle.std.specs.Prelude.{ℕ}
use Rattle.ground.specs.Checks.{verdict}
use Rattle.ground.specs.Answer.{Answer, answer}
use Rattle.settings.specs.Settings.{settings_checks}
use Rattle.settings.specs.declared.Settings.{Settings}

-- settings from their four numbers
abbrev pub settings : ℕ → ℕ → ℕ → ℕ → Settings
settings n m t p = record { rack = record { n = n; m = m }; t = t; p = p }

abbrev pub settings_asked : ℕ → ℕ → ℕ → ℕ → Answer Settings
settings_asked n m t p = answer (verdict (settings_checks (settings n m t p))) (settings n m t p)

-- The reports from which a vote is decided.
use Rattle.std.specs.Prelude.{ℕ, ◌+◌}
use Rattle.settings.specs.Settings.{most_cards}

-- an own report, and one from each card
abbrev pub most_reports : ℕ
most_reports = most_cards + 1

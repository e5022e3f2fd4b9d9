-- Defines the line for one day in a report of energy.
use Rattle.std.specs.Prelude.{ℕ, ◌-◌, ◌++◌, ◌∷◌, List, [], length, replicate}
use Rattle.std.specs.Fmt.{decimal}
use Rattle.jiff.specs.Words.{date_text}
use Rattle.interval_core.specs.declared.totals.DayTotal.{DayTotal}

-- A text that is right-aligned to a width in columns, with spaces before it.
abbrev pub right : ℕ → List ℕ → List ℕ
right width text = replicate (width - length text) 32 ++ text

-- A line of a report: a day, the number of its quarter hours right-aligned in 3 columns, and its
-- energy in mWh right-aligned in 24. Spaces (32) separate the fields, and a line feed (10) ends the
-- line.
abbrev pub day_line : DayTotal → List ℕ
day_line total =
    date_text total.day ++ 32
    ∷ (right 3 (decimal total.count) ++ 32 ∷ (right 24 (decimal total.mwh) ++ 10 ∷ []))

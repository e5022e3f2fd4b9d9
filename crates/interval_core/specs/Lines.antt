-- The text of a report of energy: a line for each quarter hour or day, in order, and a last line
-- with the number of these lines.
use Rattle.std.specs.Prelude.{ℕ, List, [], ◌∷◌, ◌++◌, length, flat_map, codes}
use Rattle.std.specs.Fmt.{decimal}
pub use Rattle.interval_core.specs.Report.{day_line}
use Rattle.interval_core.specs.declared.shares.Share.{Share}
use Rattle.interval_core.specs.declared.totals.DayTotal.{DayTotal}

-- A line of a report of energy: the quarter hour's start in seconds since 1970-01-01 UTC, a space
-- (32), its energy in mWh, and a line feed (10).
abbrev pub share_line : Share → List ℕ
share_line row = decimal row.start ++ 32 ∷ (decimal row.mwh ++ 10 ∷ [])

-- The last line of a report of energy, with the number of rows.
abbrev pub end_line : ℕ → List ℕ
end_line count = codes "end " ++ decimal count ++ codes "\n"

-- The text of a report of energy by quarter hour: a line for each row, and a last line with the
-- number of rows.
abbrev pub intervals_text : List Share → List ℕ
intervals_text rows = flat_map share_line rows ++ end_line (length rows)

-- The text of a report of civil days: a line for each day, and a last line with the number of days.
abbrev pub days_text : List DayTotal → List ℕ
days_text days = flat_map day_line days ++ end_line (length days)

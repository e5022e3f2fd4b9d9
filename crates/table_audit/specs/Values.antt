-- Defines how an audit prints a number: with a noun, as an energy with its unit, or as a timestamp
-- with its date and time in UTC.
use Rattle.std.specs.Prelude.{ℕ, zero, suc, ◌+◌, ◌-◌, ◌/◌, ◌%◌, ◌==◌, nat_lt, pos, negsuc, unsigned_abs, ◌≡◌, List, [], ◌++◌, if◌then◌else◌, codes, decimal}
use Rattle.sun_points.specs.Decimal.{magnitude_text}
use Rattle.jiff_core.specs.Calendar.{day_count}
use Rattle.jiff_core.specs.declared.civil.date.Date.{Date}
use Rattle.jiff_fmt.specs.Text.{pad2, pad4}
use Rattle.interval_core.specs.declared.limits.TheConstants.{LAST_MOMENT}

-- A number and a noun, which is in the singular only for the number 1, as `1 meter` or `2 meters`.
abbrev pub number_of : ℕ → (one many : List ℕ) → List ℕ
number_of number one many =
    decimal number ++ codes " " ++ (if number == 1 then one else many)

-- An energy in mWh, and in brackets the same energy in kWh with six decimals.
abbrev pub energy_text : (mwh : ℕ) → List ℕ
energy_text mwh = decimal mwh ++ codes " mWh (" ++ magnitude_text mwh (negsuc 5) ++ codes " kWh)"

-- The greatest number up to `most` whose start is not after a day. `start` gives the start of each
-- number, and these starts rise. The answer is 0 if no number from 1 on has started.
unfoldable pub latest : (start : ℕ → ℕ) → (most day : ℕ) → ℕ
latest start zero day = 0
latest start (suc n) day = if nat_lt day (start (suc n)) then latest start n day else suc n

-- The UTC day of a timestamp in seconds since 1970-01-01. Days are counted as `jiff` counts them,
-- from its first year.
abbrev pub day_number : (at : ℕ) → ℕ
day_number at = day_count (pos 1970) 1 1 + at / 86_400

-- The year of a day from 1970 on: the last year up to 9999 whose first day is not after the day.
abbrev pub year_on : (day : ℕ) → ℕ
year_on day = 1970 + latest (λ n. day_count (pos (1970 + n)) 1 1) 8029 day

-- The month of a day, from 1: the last month of its year whose first day is not after the day.
abbrev pub month_on : (day : ℕ) → ℕ
month_on day = 1 + latest (λ n. day_count (pos (year_on day)) (1 + n) 1) 11 day

-- The number of a day in its month, from 1.
abbrev pub month_day_on : (day : ℕ) → ℕ
month_day_on day = 1 + (day - day_count (pos (year_on day)) (month_on day) 1)

-- A date from the year 0 on, as `YYYY-MM-DD`.
abbrev pub shown_date : Date → List ℕ
shown_date date =
    pad4 (unsigned_abs date.year) ++ codes "-" ++ pad2 date.month ++ codes "-" ++ pad2 date.day

-- A day as `YYYY-MM-DD`.
abbrev pub date_on : (day : ℕ) → List ℕ
date_on day =
    pad4 (year_on day) ++ codes "-" ++ pad2 (month_on day) ++ codes "-" ++ pad2 (month_day_on day)

-- The time of day in UTC at a timestamp, as `HH:MM:SS`.
abbrev pub clock_text : (at : ℕ) → List ℕ
clock_text at =
    pad2 (at % 86_400 / 3_600) ++ codes ":" ++ pad2 (at % 3_600 / 60) ++ codes ":" ++ pad2 (at % 60)

-- A timestamp in seconds since 1970-01-01 UTC, and in brackets its date and time in UTC. A
-- timestamp after 2100-01-01 00:00:00, which no row of a meter may have, is printed as a number
-- alone.
abbrev pub moment_text : (at : ℕ) → List ℕ
moment_text at =
    decimal at
    ++ (if nat_lt LAST_MOMENT at then []
    else codes " (" ++ date_on (day_number at) ++ codes " " ++ clock_text at ++ codes " UTC)")

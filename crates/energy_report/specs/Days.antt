-- Defines the text of a civil day, and the range of civil days that two arguments on the command
-- line select.
use Rattle.std.specs.Prelude.{◌≡◌, ℕ, ◌+◌, ◌<◌, pos, ◌≤ℤ◌, List, [], ◌∷◌, ◌++◌, codes, true, false, Option, Some, None}
use Rattle.std.specs.Borrow.{Bor}
use Rattle.jiff.specs.Words.{date_text}
use Rattle.jiff_fmt.specs.Text.{pad2}
use Rattle.jiff_core.specs.declared.civil.date.Date.{Date}
use Rattle.interval_core.specs.Ranges.{is_backward}
use Rattle.interval_core.specs.declared.day_range.DayRange.{DayRange}
use Rattle.energy_report.specs.declared.spelled_day.Parts.{Parts}
use Rattle.energy_report.specs.declared.spelled_range.RangeFault.{RangeFault}
use Rattle.energy_report.specs.declared.spelled_range.RangeFault.TheVariants as fault

-- True if the text is the civil day in the form `2026-11-25`, with a year of four digits.
abbrev pub Spells : List ℕ → Date → Type 0
Spells text day = (date_text day ≡ text) × (pos 0 ≤ℤ day.year)

-- True if the result of parsing a text is the day that the text represents, or `None` because the
-- text represents no day.
abbrev pub IsReadAs : List ℕ → Option Date → Type 0
IsReadAs text (Some day) = Spells text day
IsReadAs text None = (day : Date) → ¬ Spells text day

-- True if one end of a range of days is the day that a command line argument represents. If there
-- is no argument, the range must be open at this end.
abbrev pub IsEnd : Option (Bor (List ℕ)) → Option Date → Type 0
IsEnd None None = Unit {0}
IsEnd None (Some day) = ⊥
IsEnd (Some word) None = ⊥
IsEnd (Some word) (Some day) = Spells word.now day

-- True if a command line argument exists and does not represent a civil day.
abbrev pub IsNoEnd : Option (Bor (List ℕ)) → Type 0
IsNoEnd None = ⊥
IsNoEnd (Some word) = (day : Date) → ¬ Spells word.now day

-- True if two command line arguments select a range of days that does not end before it begins. The
-- first argument is the first day, and the second is the day after the last day.
pub record IsRange (first last : Option (Bor (List ℕ))) (range : DayRange) : Type 0 where
  pub from : IsEnd first range.from
  pub till : IsEnd last range.till
  pub forward : is_backward range ≡ false

-- True if both command line arguments represent days, and the second day is before the first day.
pub record AreBackward (first last : Option (Bor (List ℕ))) : Type 0 where
  pub range : DayRange
  pub from : IsEnd first range.from
  pub till : IsEnd last range.till
  pub backward : is_backward range ≡ true

-- The reason why two command line arguments do not select a range of days. The first or the second
-- argument is not a day, or the second day is before the first day.
abbrev pub IsRangeFault : (from till : Option (Bor (List ℕ))) → RangeFault → Type 0
IsRangeFault from till fault.From = IsNoEnd from
IsRangeFault from till fault.Till = IsNoEnd till
IsRangeFault from till fault.Backward = AreBackward from till

-- True if the byte is the digit with the value `n`. For `None`, true if the byte is not a digit.
abbrev pub DigitIs : (byte : ℕ) → Option ℕ → Type 0
DigitIs byte (Some n) = (n < 10) × (byte ≡ 48 + n)
DigitIs byte None = (n : ℕ) → n < 10 → ¬ (byte ≡ 48 + n)

-- True if the two bytes are the decimal digits of the number, which is below 100. For `None`, true
-- if the two bytes are not both digits.
abbrev pub PairIs : (tens ones : ℕ) → Option ℕ → Type 0
PairIs tens ones (Some n) = (n < 100) × (pad2 n ≡ tens ∷ ones ∷ [])
PairIs tens ones None = (n : ℕ) → n < 100 → ¬ (pad2 n ≡ tens ∷ ones ∷ [])

-- The text of a date from four numbers of two digits (century, year, month, day), with hyphens
-- between year, month and day.
abbrev pub parts_text : Parts → List ℕ
parts_text parts =
    pad2 parts.century ++ pad2 parts.year ++ codes "-" ++ pad2 parts.month ++ codes "-"
    ++ pad2 parts.day

-- True if the century, year, month and day of a date are numbers of at most two digits.
pub record AreFew (parts : Parts) : Type 0 where
  pub century : parts.century < 100
  pub year : parts.year < 100
  pub month : parts.month < 100
  pub day : parts.day < 100

-- True if `Some parts` has the year, month and day of a text of the form `YYYY-MM-DD`. `None`
-- requires that the text has another form.
abbrev pub PartsAre : List ℕ → Option Parts → Type 0
PartsAre text (Some parts) = AreFew parts × (parts_text parts ≡ text)
PartsAre text None = (parts : Parts) → AreFew parts → ¬ (parts_text parts ≡ text)

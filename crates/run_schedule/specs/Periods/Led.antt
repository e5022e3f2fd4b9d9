-- Defines which of the store's files is the current file, in which the program records energy. The
-- program may begin a new file for each month or year, and each file name contains its period.
use Rattle.std.specs.Prelude.{◌≡◌, ℕ, ◌+◌, ◌-◌, ◌*◌, ◌≤◌, nat_lt, Bool, true, ◌||◌, if◌then◌else◌}
use Rattle.std.specs.Prelude.{List, [], ◌∷◌, ◌++◌, Contains, Option, Some, None}
use Rattle.std.specs.Borrow.{Bor}
use Rattle.std.specs.declared.vec.Vec.{Vec}
use Rattle.energy_report.specs.declared.form.Period.{Period}
use Rattle.energy_report.specs.declared.form.Period.TheVariants as period
use Rattle.run_schedule.specs.Periods.Names.{file_of, spells}

-- The value of two ASCII digits as a decimal number.
abbrev pub pair : (tens ones : ℕ) → ℕ
pair tens ones = 10 * (tens - 48) + (ones - 48)

-- The year in the text of a period such as `2026-11`; 0 if the text is too short.
abbrev pub year_in : List ℕ → ℕ
year_in (a ∷ b ∷ c ∷ d ∷ rest) = 100 * pair a b + pair c d
year_in _ = 0

-- The month in the text of a period such as `2026-11`; 0 if the text is only a year.
abbrev pub month_in : List ℕ → ℕ
month_in (a ∷ b ∷ c ∷ d ∷ hyphen ∷ m ∷ n ∷ rest) = pair m n
month_in _ = 0

-- The day in the text of a period such as `2026-11-25`; 0 if the text is a year or a month.
abbrev pub day_in : List ℕ → ℕ
day_in (a ∷ b ∷ c ∷ d ∷ hyphen ∷ m ∷ n ∷ second ∷ e ∷ f ∷ rest) = pair e f
day_in _ = 0

-- A number for a calendar period. Among periods of one length, a later period has a greater number.
abbrev pub number_in : List ℕ → ℕ
number_in text = 512 * year_in text + 32 * month_in text + day_in text

-- The alternative period length for which the program also looks for files: years if files begin by
-- month, and months if they begin by year.
abbrev pub other_length : Period → Period
other_length period.Day = period.Day
other_length period.Month = period.Year
other_length period.Year = period.Month

-- True if the text is a period (such as `2026-11`) of the configured length or of the alternative
-- length.
abbrev pub reports : Period → List ℕ → Bool
reports length text = spells length text || spells (other_length length) text

-- States that the file name `name` is `file` with the period `text` inserted, such as
-- `office-2026-11.db` for `office.db`.
pub record IsFileOf (file : List ℕ) (length : Period) (name text : List ℕ) : Type 0 where
  pub reported : reports length text ≡ true
  pub named : file_of file text ≡ name

-- The period in the file name `name`, such as `2026-11` in `office-2026-11.db`, if `name` without
-- the period is `file`.
abbrev pub IsReportedBy : (file : List ℕ) → Period → (name : List ℕ) → Option (Bor (List ℕ))
    → Type 0
IsReportedBy file length name (Some text) = IsFileOf file length name text.now
IsReportedBy file length name None = (text : List ℕ) → ¬ IsFileOf file length name text

-- The rank of a file by its period; the current file has the greatest rank. The order is by year,
-- then the configured period length before the alternative, then by month and day.
abbrev pub rank : Period → List ℕ → ℕ
rank length text =
    2 * 512 * year_in text + (if spells length text then 512 else 0)
    + 32 * month_in text + day_in text

-- True if the period `text` has a greater rank (by year, then length, month and day) than `led`.
-- `led` is the period of the highest rank among the file names so far. Also true if no name so far
-- has a period (`led` is None).
abbrev pub gives_way : {Z : Type 0} → Option (Vec ℕ Z) → Period → List ℕ → Bool
gives_way None length text = true
gives_way (Some led) length text = nat_lt (rank length led.items) (rank length text)

-- States that the file of the period `text` is the current file. It is among the files with the
-- given names, and none of them has a greater rank (year, length, month and day of its period).
pub record IsLast (file : List ℕ) (length : Period) (names : List (List ℕ))
    (text : List ℕ) : Type 0 where
  pub reported : reports length text ≡ true
  pub there : Contains names (file_of file text)
  pub last : (other : List ℕ) → reports length other ≡ true → Contains names (file_of file other)
      → rank length other ≤ rank length text

-- The period of the current file (in which the program records energy) among the given file names.
-- None if no name has a period.
abbrev pub IsLed : {Z : Type 0} → (file : List ℕ) → Period → (names : List (List ℕ))
    → Option (Vec ℕ Z) → Type 0
IsLed file length names (Some text) = IsLast file length names text.items
IsLed file length names None =
    (text : List ℕ) → reports length text ≡ true → ¬ Contains names (file_of file text)

-- Suppose that `old` is the period of the current file among some file names. Then `new` is the
-- period of the current file among these names and `name`.
abbrev pub SeesOneMore : {Z : Type 0} → (file : List ℕ) → Period → (name : List ℕ)
    → (old new : Option (Vec ℕ Z)) → Type 0
SeesOneMore file length name old new = (names : List (List ℕ)) → IsLed file length names old
    → IsLed file length (names ++ name ∷ []) new

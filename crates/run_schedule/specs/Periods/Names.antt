-- Defines the names of the store's files, one file for each calendar period.
use Rattle.std.specs.Prelude.{◌≡◌, ℕ, nat_le, ◌-◌, ◌==◌, Bool, true, false, ◌&&◌, ◌||◌, if◌then◌else◌}
use Rattle.std.specs.Prelude.{List, [], ◌∷◌, ◌++◌, codes, length, take, drop, Option, Some, None}
use Rattle.std.specs.Borrow.{Bor}
use Rattle.std.specs.Str.{bytes_eq}
use Rattle.energy_report.specs.declared.form.Period.{Period}
use Rattle.energy_report.specs.declared.form.Period.TheVariants as period

-- True if the file name ends with `.db`.
abbrev pub has_suffix : List ℕ → Bool
has_suffix file = bytes_eq (drop (length file - 3) file) (codes ".db")

-- The file name without its extension `.db`. A name without that extension is unchanged.
abbrev pub stem_of : (file : List ℕ) → List ℕ
stem_of file = if has_suffix file then take (length file - 3) file else file

-- The extension `.db` of the file name, or an empty text without it.
abbrev pub suffix_of : (file : List ℕ) → List ℕ
suffix_of file = if has_suffix file then codes ".db" else []

-- The name of a period's file: `office.db` with `2026-11` gives `office-2026-11.db`, and `office`
-- gives `office-2026-11`.
abbrev pub file_of : (file text : List ℕ) → List ℕ
file_of file text = stem_of file ++ codes "-" ++ text ++ suffix_of file

-- True if the byte is a decimal digit.
abbrev pub is_digit : ℕ → Bool
is_digit byte = nat_le 48 byte && nat_le byte 57

-- True if the two ASCII bytes are the number of a month, from 01 to 12.
abbrev pub is_month : (tens ones : ℕ) → Bool
is_month tens ones =
    ((tens == 48) && nat_le 49 ones && nat_le ones 57)
    || ((tens == 49) && nat_le 48 ones && nat_le ones 50)

-- True if the two ASCII bytes are the number of a day of the month, from 01 to 31.
abbrev pub is_day : (tens ones : ℕ) → Bool
is_day tens ones =
    ((tens == 48) && nat_le 49 ones && nat_le ones 57)
    || (nat_le 49 tens && nat_le tens 50 && is_digit ones)
    || ((tens == 51) && nat_le 48 ones && nat_le ones 49)

-- True if the four bytes are ASCII digits.
abbrev pub is_year : (a b c d : ℕ) → Bool
is_year a b c d = is_digit a && is_digit b && is_digit c && is_digit d

-- True if the text has the form of a period of the given length: `2026-11-25` for a day, `2026-11`
-- for a month, `2026` for a year.
abbrev pub spells : Period → List ℕ → Bool
spells period.Year (a ∷ b ∷ c ∷ d ∷ []) = is_year a b c d
spells period.Year _ = false
spells period.Month (a ∷ b ∷ c ∷ d ∷ hyphen ∷ m ∷ n ∷ []) =
    is_year a b c d && (hyphen == 45) && is_month m n
spells period.Month _ = false
spells period.Day (a ∷ b ∷ c ∷ d ∷ hyphen ∷ m ∷ n ∷ second ∷ e ∷ f ∷ []) =
    is_year a b c d && (hyphen == 45) && is_month m n && (second == 45) && is_day e f
spells period.Day _ = false

-- States that the file name `name` is `file` with the period `text` inserted, such as
-- `office-2026-11.db` for `office.db`. The period has the length `period`.
pub record IsNamed (file : List ℕ) (period : Period) (name text : List ℕ) : Type 0 where
  pub spelled : spells period text ≡ true
  pub named : file_of file text ≡ name

-- The period in the file name `name`, such as `2026-11` in `office-2026-11.db`, if the period has
-- this length and `name` without the period is `file`.
abbrev pub IsPeriodIn : (file : List ℕ) → Period → (name : List ℕ) → Option (Bor (List ℕ)) → Type 0
IsPeriodIn file period name (Some text) = IsNamed file period name text.now
IsPeriodIn file period name None = (text : List ℕ) → ¬ IsNamed file period name text

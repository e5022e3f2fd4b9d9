-- Lemmas: if bytes are not valid UTF-8, then they are not the text of a day such as `2026-11-25`.
use Rattle.std.proofs.Common.{ℕ, zero, suc, ◌/◌, ◌%◌, ◌≤◌, ◌<◌, List, [], ◌∷◌, ◌++◌, None, subst, arith}
use Rattle.std.specs.Prelude.{ℤ, pos, negsuc, ◌≤ℤ◌}
use Rattle.std.specs.Str.{IsAscii, IsUtf8}
use Rattle.std.proofs.lemmas.Str.{IsAscii-append, IsUtf8-from_ascii}
use Rattle.jiff.specs.Words.{date_text}
use Rattle.jiff_fmt.specs.Text.{pad2, year_text}
use Rattle.jiff_core.specs.declared.civil.date.Date.{Date}
use Rattle.jiff_core.proofs.CalendarLemmas.{days_in_month_bounds}
use Rattle.jiff_core.proofs.SignedLemmas.{signed_arith}
use Rattle.energy_report.specs.Days.{IsReadAs}

pair : (n : ℕ) → n < 100 → IsAscii (pad2 n)
pair n few zero = omega (arith, few)
pair n few (suc zero) = omega arith
pair n few (suc (suc i)) = omega arith

hyphen : (text : List ℕ) → IsAscii text → IsAscii (45 ∷ text)
hyphen text is zero = omega arith
hyphen text is (suc i) = is i

-- The ten characters of a day such as `2026-11-25` are ASCII.
ascii_by : (year month day : ℕ) → year ≤ 9999 → month ≤ 12 → day ≤ 31
    → IsAscii (year_text (pos year) ++ 45 ∷ [] ++ pad2 month ++ 45 ∷ [] ++ pad2 day)
ascii_by year month day few_years few_months few_days =
    let days : IsAscii (45 ∷ pad2 day) = hyphen (pad2 day) (pair day (omega (arith, few_days))) in
    let months : IsAscii (45 ∷ pad2 month ++ 45 ∷ pad2 day) =
    hyphen (pad2 month ++ 45 ∷ pad2 day) (IsAscii-append (pad2 month) (45 ∷ pad2 day) (pair month (omega (arith, few_months))) days) in
    let years : IsAscii (pad2 (year % 100) ++ 45 ∷ pad2 month ++ 45 ∷ pad2 day) =
    IsAscii-append (pad2 (year % 100)) (45 ∷ pad2 month ++ 45 ∷ pad2 day) (pair (year % 100) (omega arith)) months in
    IsAscii-append (pad2 (year / 100)) (pad2 (year % 100) ++ 45 ∷ pad2 month ++ 45 ∷ pad2 day) (pair (year / 100) (omega (arith, few_years))) years

ascii_of : (year : ℤ) (month day : ℕ) → pos 0 ≤ℤ year → year ≤ℤ pos 9999 → month ≤ 12 → day ≤ 31
    → IsAscii (year_text year ++ 45 ∷ [] ++ pad2 month ++ 45 ∷ [] ++ pad2 day)
ascii_of (pos year) month day least most few_months few_days = ascii_by year month day (omega (arith, signed_arith, most)) few_months few_days
ascii_of (negsuc year) month day least most few_months few_days = absurd (omega (arith, signed_arith, least))

ascii_day : (day : Date) → pos 0 ≤ℤ day.year → IsAscii (date_text day)
ascii_day day least =
    let short = days_in_month_bounds day.year day.month in
    ascii_of day.year day.month day.day least day.year_in.1 day.month_in.1 (omega (arith, day.day_in.1, short.0))

pub unread : (text : List ℕ) → ¬ IsUtf8 text → IsReadAs text None
unread text none day spells = none (subst IsUtf8 spells.0 (IsUtf8-from_ascii (date_text day) (ascii_day day spells.1)))

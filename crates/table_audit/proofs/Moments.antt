-- Lemmas about the UTC date of a timestamp: the date that `jiff` gives is the date that the
-- definitions of the printed lines give.
use Rattle.std.proofs.Common.{◌≡◌, ℕ, zero, suc, ◌+◌, ◌-◌, ◌*◌, ◌/◌, ◌<◌, ◌≤◌, nat_lt, if◌then◌else◌, true, false, refl, sym, ap, ◌∙◌, arith, rules, ℤ, pos, negsuc, ◌+ℤ◌, ◌-ℤ◌, ◌*ℤ◌, ◌<ℤ◌, ◌≤ℤ◌, unsigned_abs}
use Rattle.std.proofs.Common.{⊎_elim, subst, ◌++◌, [], codes, decimal, List, append-nil, append_assoc}
use Rattle.std.proofs.lemmas.Bool.{cases_lt, cond-true, cond-false}
use Rattle.std.proofs.lemmas.Bool.Decides.{nat_tests}
use Rattle.std.proofs.lemmas.Int.{by_lt_z}
use Rattle.jiff_core.specs.Calendar.{day_count, days_from_civil}
use Rattle.jiff_core.specs.Date.{epoch_day}
use Rattle.jiff_core.specs.declared.civil.date.Date.{Date}
use Rattle.jiff_core.proofs.CalendarLemmas.{day_count-epoch, days_from_civil-day_count, day_count-day_of_year, day_count-lt_year, day_count-lt_month, day_count-day}
use Rattle.jiff_core.proofs.DateLemmas.{civil}
use Rattle.jiff_core.proofs.SignedLemmas.{signed_arith}
use Rattle.table_audit.specs.Values.{latest, day_number, year_on, month_on, month_day_on, date_on, shown_date, clock_text, moment_text}
use Rattle.interval_core.specs.declared.limits.TheConstants.{LAST_MOMENT}

lt_is : (a b : ℕ) → a < b → nat_lt a b ≡ true
lt_is a b h = grind (arith, nat_tests)

lt_not : (a b : ℕ) → b ≤ a → nat_lt a b ≡ false
lt_not a b h = grind (arith, nat_tests)

-- A number that has started is the latest one, if no later number has.
latest_is : (start : ℕ → ℕ) (most k day : ℕ) → k ≤ most → start k ≤ day → ((n : ℕ) → k < n → day < start n) → latest start most day ≡ k
unfolding latest
latest_is start zero k day few begun later = omega (arith, few)
latest_is start (suc most) k day few begun later = ⊎_elim
    (λ below. cond-true (nat_lt day (start (suc most))) _ _ (lt_is day (start (suc most)) (later (suc most) below))
    ∙ latest_is start most k day (omega (arith, below)) begun later)
    (λ last. let same : k ≡ suc most = omega (arith, last, few) in
    cond-false (nat_lt day (start (suc most))) _ _ (lt_not day (start (suc most)) (subst (λ n. start n ≤ day) same begun)) ∙ sym same)
    (cases_lt k (suc most))

-- A day whose number is that of a date has the year of the date.
year_is : (d : Date) (day k : ℕ) → pos (1970 + k) ≡ d.year → day_count d.year d.month d.day ≡ day → year_on day ≡ 1970 + k
year_is d day k year is = ap (λ n. 1970 + n) (latest_is (λ n. day_count (pos (1970 + n)) 1 1) 8029 k day
    (omega (arith, signed_arith, year, d.year_in))
    (rw year (omega (arith, is, d.day_in, day_count-day_of_year d.year d.month d.day d.day_in.0)))
    (λ n more. rw (← is) (day_count-lt_year d.year d.month d.day (pos (1970 + n)) 1 1 (civil d) (omega arith) (omega (arith, signed_arith, year, more)))))

-- If a day has the same day count (the days from the calendar's first day) and the same year as a
-- date, then its month is that of the date.
month_is : (d : Date) (year : ℤ) (day : ℕ) → year ≡ d.year → day_count d.year d.month d.day ≡ day
    → 1 + latest (λ n. day_count year (1 + n) 1) 11 day ≡ d.month
month_is d year day of_date is =
    let before = d.month - 1 in
    let place : 1 + before ≡ d.month = omega (arith, d.month_in) in
    ap (λ n. 1 + n) (latest_is (λ n. day_count year (1 + n) 1) 11 before day
    (omega (arith, d.month_in))
    (rw (of_date, place) (omega (arith, is, d.day_in, day_count-day d.year d.month d.day 1 d.day_in.0 (omega arith))))
    (λ n more. rw (of_date, ← is) (day_count-lt_month d.year d.month d.day (1 + n) 1 (civil d) (omega arith) (omega (arith, place, more)))))
    ∙ place

-- A day whose number, year and month are those of a date has the day of the date.
month_day_is : (d : Date) (year : ℤ) (month day : ℕ) → year ≡ d.year → month ≡ d.month → day_count d.year d.month d.day ≡ day
    → 1 + (day - day_count year month 1) ≡ d.day
month_day_is d year month day of_date its is =
    rw (of_date, its) (omega (arith, is, d.day_in, day_count-day d.year d.month d.day 1 d.day_in.0 (omega arith)))

-- A year from 1970 on is 1970 and a natural number.
year_from_1970 : (year : ℤ) → pos 1970 ≤ℤ year → pos (1970 + (unsigned_abs year - 1970)) ≡ year
year_from_1970 (pos n) low = omega (arith, signed_arith, low)
year_from_1970 (negsuc n) low = absurd (omega (arith, signed_arith, low))

-- A date whose day is that of a timestamp is printed as the date of the timestamp.
pub date_is : (d : Date) (at : ℕ) → epoch_day d ≡ pos (at / 86_400) → shown_date d ≡ date_on (day_number at)
date_is d at is =
    let day = day_number at in
    let count : day_count d.year d.month d.day ≡ day = omega (arith, signed_arith, is, day_count-epoch, days_from_civil-day_count d.year d.month d.day) in
    let k = unsigned_abs d.year - 1970 in
    let years : pos (1970 + k) ≡ d.year = by_lt_z d.year (pos 1970)
    (λ lt. absurd (omega (arith, count, day_count-lt_year d.year d.month d.day (pos 1970) 1 1 (civil d) (omega arith) lt)))
    (λ ge. year_from_1970 d.year ge) in
    let year : year_on day ≡ 1970 + k = year_is d day k years count in
    let of_date : pos (year_on day) ≡ d.year = ap (λ n. pos n) year ∙ years in
    let month : month_on day ≡ d.month = month_is d (pos (year_on day)) day of_date count in
    let its_day : month_day_on day ≡ d.day = month_day_is d (pos (year_on day)) (month_on day) day of_date month count in
    let number : unsigned_abs d.year ≡ year_on day = ap unsigned_abs (sym of_date) in
    rw (number, ← month, ← its_day) refl

-- A timestamp that is too late is printed as a number alone.
pub number_alone : (before : List ℕ) (at : ℕ) → LAST_MOMENT < at → before ++ moment_text at ≡ before ++ decimal at
number_alone before at late =
    ap (λ t. before ++ (decimal at ++ t)) (cond-true (nat_lt LAST_MOMENT at) _ _ (lt_is LAST_MOMENT at late)) ∙ ap (λ t. before ++ t) (append-nil (decimal at))

-- Appending five texts one by one appends their concatenation.
five : (text a b c d e : List ℕ) → text ++ a ++ b ++ c ++ d ++ e ≡ text ++ (a ++ b ++ c ++ d ++ e)
five text a b c d e =
    ap (λ t. t ++ c ++ d ++ e) (append_assoc text a b) ∙ ap (λ t. t ++ d ++ e) (append_assoc text (a ++ b) c)
    ∙ ap (λ t. t ++ e) (append_assoc text (a ++ b ++ c) d) ∙ append_assoc text (a ++ b ++ c ++ d) e

-- A timestamp that is not too late is printed with its date and time.
pub number_with_date : (text date : List ℕ) (at : ℕ) → at ≤ LAST_MOMENT → date ≡ date_on (day_number at)
    → text ++ decimal at ++ codes " (" ++ date ++ codes " " ++ clock_text at ++ codes " UTC)" ≡ text ++ moment_text at
number_with_date text date at early is =
    five (text ++ decimal at) (codes " (") date (codes " ") (clock_text at) (codes " UTC)")
    ∙ append_assoc text (decimal at) (codes " (" ++ date ++ codes " " ++ clock_text at ++ codes " UTC)")
    ∙ ap (λ (day : List ℕ). text ++ (decimal at ++ (codes " (" ++ day ++ codes " " ++ clock_text at ++ codes " UTC)"))) is
    ∙ ap (λ (t : List ℕ). text ++ (decimal at ++ t)) (sym (cond-false (nat_lt LAST_MOMENT at) _ _ (lt_not LAST_MOMENT at early)))

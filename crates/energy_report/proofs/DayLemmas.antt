-- Lemmas: a text represents a civil day if and only if the text has the form `YYYY-MM-DD` and the
-- calendar has this day.
use Rattle.std.proofs.Common.{◌≡◌, ℕ, ◌+◌, ◌*◌, ◌/◌, ◌%◌, ◌≤◌, List, [], ◌∷◌, ◌++◌, length, get_or, refl, sym, ◌∙◌, ap, subst, arith}
use Rattle.std.specs.Prelude.{ℤ, pos, negsuc, ◌≤ℤ◌, unsigned_abs, codes, Some, None}
use Rattle.jiff.specs.Words.{date_text}
use Rattle.jiff_fmt.specs.Text.{pad2}
use Rattle.jiff_core.specs.Calendar.{IsDate, days_in_month}
use Rattle.jiff_core.specs.Date.{IsYmd}
use Rattle.jiff_core.specs.declared.civil.date.Date.{Date}
use Rattle.jiff_core.proofs.CalendarLemmas.{days_in_month_bounds}
use Rattle.jiff_core.proofs.SignedLemmas.{signed_arith}
use Rattle.energy_report.specs.declared.spelled_day.Parts.{Parts}
use Rattle.energy_report.specs.Days.{AreFew, DigitIs, IsReadAs, PairIs, PartsAre, parts_text}

-- If two bytes are the digits `a` and `b`, they are the text of the number `a * 10 + b`.

pub pair : (tens ones a b : ℕ) → DigitIs tens (Some a) → DigitIs ones (Some b) → PairIs tens ones (Some (a * 10 + b))
pair tens ones a b first second =
    let tens_is : 48 + (a * 10 + b) / 10 ≡ tens = omega (arith, first.0, first.1, second.0) in
    let ones_is : 48 + (a * 10 + b) % 10 ≡ ones = omega (arith, second.0, second.1) in
    (omega (arith, first.0, second.0), rw (tens_is, ones_is) refl)

pub no_tens : (tens ones : ℕ) → DigitIs tens None → PairIs tens ones None
no_tens tens ones none n few is =
    let here : 48 + n / 10 ≡ tens = ap (λ (xs : List ℕ). get_or xs 0 0) is in
    none (n / 10) (omega (arith, few)) (sym here)

pub no_ones : (tens ones : ℕ) → DigitIs ones None → PairIs tens ones None
no_ones tens ones none n few is =
    let here : 48 + n % 10 ≡ ones = ap (λ (xs : List ℕ). get_or xs 1 0) is in
    none (n % 10) (omega arith) (sym here)

-- True if the text has the form `YYYY-MM-DD`, with the given numbers of year, month and day.

pub record Pairs (parts : Parts) (text : List ℕ) : Type 0 where
  pub size : length text ≡ 10
  pub first : get_or text 4 0 ≡ 45
  pub second : get_or text 7 0 ≡ 45
  pub century : pad2 parts.century ≡ get_or text 0 0 ∷ get_or text 1 0 ∷ []
  pub year : pad2 parts.year ≡ get_or text 2 0 ∷ get_or text 3 0 ∷ []
  pub month : pad2 parts.month ≡ get_or text 5 0 ∷ get_or text 6 0 ∷ []
  pub day : pad2 parts.day ≡ get_or text 8 0 ∷ get_or text 9 0 ∷ []

pub pairs : (parts : Parts) (text : List ℕ) → parts_text parts ≡ text → Pairs parts text
pairs parts text is =
    let P : List ℕ → Type 0 = λ xs. Pairs parts xs in
    subst P is (record { size = refl; first = refl; second = refl; century = refl; year = refl; month = refl; day = refl })

-- If a text has ten characters, with hyphens at the indices 4 and 7, then it consists of its other
-- eight characters and the hyphens.
ten : (xs : List ℕ) → length xs ≡ 10 → get_or xs 4 0 ≡ 45 → get_or xs 7 0 ≡ 45
    → get_or xs 0 0 ∷ get_or xs 1 0 ∷ get_or xs 2 0 ∷ get_or xs 3 0 ∷ 45 ∷ get_or xs 5 0 ∷ get_or xs 6 0 ∷ 45 ∷ get_or xs 8 0 ∷ get_or xs 9 0 ∷ []
    ≡ xs
ten (a ∷ b ∷ c ∷ d ∷ e ∷ f ∷ g ∷ h ∷ i ∷ j ∷ []) size first second = rw (first, second) refl
ten _ size first second = absurd (omega (arith, size))

pub spelled : (parts : Parts) (text : List ℕ) → length text ≡ 10 → get_or text 4 0 ≡ 45 → get_or text 7 0 ≡ 45
    → PairIs (get_or text 0 0) (get_or text 1 0) (Some parts.century) → PairIs (get_or text 2 0) (get_or text 3 0) (Some parts.year)
    → PairIs (get_or text 5 0) (get_or text 6 0) (Some parts.month) → PairIs (get_or text 8 0) (get_or text 9 0) (Some parts.day)
    → PartsAre text (Some parts)
spelled parts text size first second century year month day = (
  record { century = century.0; year = year.0; month = month.0; day = day.0 },
  ap (λ (a : List ℕ). a ++ pad2 parts.year ++ codes "-" ++ pad2 parts.month ++ codes "-" ++ pad2 parts.day) century.1
      ∙ ap (λ (a : List ℕ). (get_or text 0 0 ∷ get_or text 1 0 ∷ []) ++ a ++ codes "-" ++ pad2 parts.month ++ codes "-" ++ pad2 parts.day) year.1
      ∙ ap (λ (a : List ℕ). (get_or text 0 0 ∷ get_or text 1 0 ∷ []) ++ (get_or text 2 0 ∷ get_or text 3 0 ∷ []) ++ codes "-" ++ a ++ codes "-" ++ pad2 parts.day) month.1
      ∙ ap (λ (a : List ℕ). (get_or text 0 0 ∷ get_or text 1 0 ∷ []) ++ (get_or text 2 0 ∷ get_or text 3 0 ∷ []) ++ codes "-" ++ (get_or text 5 0 ∷ get_or text 6 0 ∷ []) ++ codes "-" ++ a) day.1
      ∙ ten text size first second,
)

-- An integer of at least 0 equals its absolute value.

natural : (z : ℤ) → pos 0 ≤ℤ z → z ≡ pos (unsigned_abs z)
natural (pos n) le = refl
natural (negsuc n) le = absurd (omega (arith, signed_arith, le))

-- True if four numbers of two digits are the century, the year within the century, the month and
-- the day of a civil date.
pub record IsOf (parts : Parts) (date : Date) : Type 0 where
  pub few : AreFew parts
  pub year : date.year ≡ pos (parts.century * 100 + parts.year)
  pub month : date.month ≡ parts.month
  pub day : date.day ≡ parts.day

pub text_of : (parts : Parts) (day : Date) → IsOf parts day → date_text day ≡ parts_text parts
text_of parts day is =
    let century : (parts.century * 100 + parts.year) / 100 ≡ parts.century = omega (arith, is.few.year) in
    let year : (parts.century * 100 + parts.year) % 100 ≡ parts.year = omega (arith, is.few.year) in
    rw (is.year, is.month, is.day, century, year) refl

abbrev parts_in : Date → Parts
parts_in day = record { century = unsigned_abs day.year / 100; year = unsigned_abs day.year % 100; month = day.month; day = day.day }

has_parts : (day : Date) → pos 0 ≤ℤ day.year → IsOf (parts_in day) day
has_parts day le =
    let is = natural day.year le in
    let most = day.year_in.1 in
    let short = days_in_month_bounds day.year day.month in
    let small : unsigned_abs day.year ≤ 9999 = omega (arith, signed_arith, is, most) in
    let sum : unsigned_abs day.year / 100 * 100 + unsigned_abs day.year % 100 ≡ unsigned_abs day.year = omega arith in
    record {
      few = record {
        century = omega (arith, small);
        year = omega arith;
        month = omega (arith, day.month_in.1);
        day = omega (arith, day.day_in.1, short.0);
      };
      year = is ∙ ap pos (sym sum);
      month = refl;
      day = refl;
    }

-- If a text does not have the form `YYYY-MM-DD`, then the text represents no day.
pub none : (text : List ℕ) → PartsAre text None → IsReadAs text None
none text lacks day spells =
    let parts = has_parts day spells.1 in
    lacks (parts_in day) parts.few (sym (text_of (parts_in day) day parts) ∙ spells.0)

same_pair : (a b : ℕ) → pad2 a ≡ pad2 b → a ≡ b
same_pair a b is =
    let first : 48 + a / 10 ≡ 48 + b / 10 = ap (λ (xs : List ℕ). get_or xs 0 0) is in
    let second : 48 + a % 10 ≡ 48 + b % 10 = ap (λ (xs : List ℕ). get_or xs 1 0) is in
    omega (arith, first, second)

-- If two dates (as numbers of two digits) have the same text of the form `YYYY-MM-DD`, then their
-- numbers are equal.
same_parts : (a b : Parts) (text : List ℕ) → parts_text a ≡ text → parts_text b ≡ text
    → (a.century ≡ b.century) × (a.year ≡ b.year) × (a.month ≡ b.month) × (a.day ≡ b.day)
same_parts a b text first second =
    let x = pairs a text first in
    let y = pairs b text second in (
      same_pair a.century b.century (x.century ∙ sym y.century),
      same_pair a.year b.year (x.year ∙ sym y.year),
      same_pair a.month b.month (x.month ∙ sym y.month),
      same_pair a.day b.day (x.day ∙ sym y.day),
    )

-- If the calendar has a day with the year, month and day in a text of the form `YYYY-MM-DD`, then
-- the text represents this day.
pub read : (text : List ℕ) (parts : Parts) (day : Date) → PartsAre text (Some parts)
    → IsYmd (pos (parts.century * 100 + parts.year)) (pos parts.month) (pos parts.day) day → IsReadAs text (Some day)
read text parts day are is =
    let month : day.month ≡ parts.month = omega (arith, signed_arith, is.1) in
    let date : day.day ≡ parts.day = omega (arith, signed_arith, is.2) in
    let here : IsOf parts day = record { few = are.0; year = is.0; month = month; day = date } in
    let year = is.0 in
    (text_of parts day here ∙ are.1, omega (arith, signed_arith, year))

upward : (a b : ℕ) → a ≤ b → pos a ≤ℤ pos b
upward a b le = omega (arith, signed_arith, le)

-- If the calendar has no day with the year, month and day in a text of the form `YYYY-MM-DD`, then
-- the text represents no day.
pub unread : (text : List ℕ) (parts : Parts) → PartsAre text (Some parts)
    → ¬ IsDate (pos (parts.century * 100 + parts.year)) (pos parts.month) (pos parts.day) → IsReadAs text None
unread text parts are lacks day spells =
    let its = has_parts day spells.1 in
    let same = same_parts parts (parts_in day) text are.1 (sym (text_of (parts_in day) day its) ∙ spells.0) in
    let year : pos (parts.century * 100 + parts.year) ≡ day.year =
    ap (λ n. pos (n * 100 + parts.year)) same.0 ∙ ap (λ n. pos ((parts_in day).century * 100 + n)) same.1 ∙ sym its.year in
    let here : IsDate day.year (pos day.month) (pos day.day) = (
      day.year_in,
      (upward 1 day.month day.month_in.0, upward day.month 12 day.month_in.1),
      (upward 1 day.day day.day_in.0, upward day.day (days_in_month day.year day.month) day.day_in.1),
    ) in
    let P : ℤ → Type 0 = λ y. IsDate y (pos parts.month) (pos parts.day) in
    let Q : ℕ → Type 0 = λ m. IsDate day.year (pos m) (pos parts.day) in
    let R : ℕ → Type 0 = λ d. IsDate day.year (pos day.month) (pos d) in
    lacks (subst P (sym year) (subst Q (sym same.2) (subst R (sym same.3) here)))

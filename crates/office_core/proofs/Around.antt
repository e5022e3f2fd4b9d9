-- Lemmas: in every time zone, the timestamps of the civil days in a range lie between the starts of
-- two UTC days. These are two days before the range and two days after it.
use Rattle.std.proofs.Common.{◌≡◌, ℕ, ◌<◌, ◌≤◌, true, false, Option, Some, None, refl, arith}
use Rattle.std.specs.Prelude.{ℤ, pos, negsuc, ◌+ℤ◌, ◌-ℤ◌, ◌*ℤ◌, ◌<ℤ◌, ◌≤ℤ◌, ◌&&◌, nat_le, nat_lt}
use Rattle.std.specs.Int.{int_div_euclid}
use Rattle.std.specs.Ordering.{MatchOrdering, int_cmp, is_le, is_lt}
use Rattle.std.specs.declared.cmp.Ordering.{Ordering}
use Rattle.std.specs.declared.cmp.Ordering.TheVariants.{Less, Equal, Greater}
use Rattle.std.specs.Cmp.{int_ranks}
use Rattle.std.proofs.lemmas.Bool.{and_parts, and_from}
use Rattle.std.proofs.lemmas.Bool.Decides.{nat_tests}
use Rattle.jiff.proofs.SpanFacts.{signed_arith}
use Rattle.jiff.specs.Words.{epoch_day, plain_zone, IsOffsetSeconds}
use Rattle.jiff_core.specs.declared.civil.date.Date.{Date}
use Rattle.jiff_tz.specs.declared.timezone.TimeZone.{TimeZone}
use Rattle.jiff_tz.specs.declared.timezone.TimeZone.TheVariants.{UTC, Unknown, Fixed, Posix, Tzif}
use Rattle.jiff_tz.specs.PosixRule as rule
use Rattle.jiff_tz.specs.Tzif as table
use Rattle.jiff_tz.specs.Zone.{offset_at}
use Rattle.interval_core.specs.declared.zone.Zone.{Zone}
use Rattle.interval_core.specs.Zone.{day_at, offset_of, rule_of}
use Rattle.interval_core.specs.Ranges.{begins_by_number, ends_after_number}
use Rattle.office_books.specs.Spans.{is_within}
use Rattle.office_core.specs.DayRange.{span_between, utc_start}

-- No UTC offset exceeds 25 hours, 59 minutes and 59 seconds.
offset_bound : (zone : TimeZone) (n : ℤ) → IsOffsetSeconds (offset_at zone n)
unfolding offset_at
offset_bound UTC n = (omega (arith, signed_arith), omega (arith, signed_arith))
offset_bound Unknown n = (omega (arith, signed_arith), omega (arith, signed_arith))
offset_bound (Fixed offset) n = offset.in_range
offset_bound (Posix tz) n = (rule.offset_at tz n).in_range
offset_bound (Tzif z) n = (table.offset_at z.now n).in_range

le_of : (r : Ordering) (a b : ℤ) → MatchOrdering r (a <ℤ b) (a ≡ b) (b <ℤ a) → is_le r ≡ true → a ≤ℤ b
le_of Less a b is le = omega (arith, signed_arith, is)
le_of Equal a b is le = omega (arith, signed_arith, is)
le_of Greater a b is le = absurd (let h : false ≡ true = le in cc)

lt_of : (r : Ordering) (a b : ℤ) → MatchOrdering r (a <ℤ b) (a ≡ b) (b <ℤ a) → is_lt r ≡ true → a <ℤ b
lt_of Less a b is lt = is
lt_of Equal a b is lt = absurd (let h : false ≡ true = lt in cc)
lt_of Greater a b is lt = absurd (let h : false ≡ true = lt in cc)

begun : (first : ℤ) (start : ℕ) → (first *ℤ pos 86400) ≤ℤ pos start → utc_start first ≤ start
begun (pos n) start le = omega (arith, signed_arith, le)
begun (negsuc n) start le = omega arith

not_over : (last : ℤ) (start : ℕ) → pos start <ℤ (last *ℤ pos 86400) → start < utc_start last
not_over (pos n) start lt = omega (arith, signed_arith, lt)
not_over (negsuc n) start lt = absurd (omega (arith, signed_arith, lt))

after : (from day off : ℤ) (start : ℕ) → IsOffsetSeconds off → from ≤ℤ (int_div_euclid (pos start +ℤ off) (pos 86_400))
    → ((from -ℤ pos 2) *ℤ pos 86400) ≤ℤ pos start
after from day off start bound le = omega (arith, signed_arith, bound.1, le)

before : (till off : ℤ) (start : ℕ) → IsOffsetSeconds off → (int_div_euclid (pos start +ℤ off) (pos 86_400)) <ℤ till
    → pos start <ℤ ((till +ℤ pos 2) *ℤ pos 86400)
before till off start bound lt = omega (arith, signed_arith, bound.0, lt)

-- If a timestamp is on a day from `from` to `till`, then it lies after the UTC day two days before
-- `from` starts. It also lies before the UTC day two days after `till` starts.
lies_around : (from till : Date) (zone : Zone) (start : ℕ) → (is_le (int_cmp (epoch_day from) (day_at zone start)) && is_lt (int_cmp (day_at zone start) (epoch_day till))) ≡ true
    → (nat_le (utc_start (epoch_day from -ℤ pos 2)) start && nat_lt start (utc_start (epoch_day till +ℤ pos 2))) ≡ true
lies_around from till zone start is =
    let day = day_at zone start in
    let parts = and_parts _ _ is in
    let bound = offset_bound (plain_zone (rule_of zone)) (pos start *ℤ pos 1_000_000_000) in
    let le = le_of (int_cmp (epoch_day from) day) (epoch_day from) day (int_ranks (epoch_day from) day) parts.0 in
    let lt = lt_of (int_cmp day (epoch_day till)) day (epoch_day till) (int_ranks day (epoch_day till)) parts.1 in
    let low : utc_start (epoch_day from -ℤ pos 2) ≤ start = begun _ start (after (epoch_day from) day (offset_of zone start) start bound le) in
    let high : start < utc_start (epoch_day till +ℤ pos 2) = not_over _ start (before (epoch_day till) (offset_of zone start) start bound lt) in
    let has_begun : nat_le (utc_start (epoch_day from -ℤ pos 2)) start ≡ true = grind (arith, nat_tests, low) in
    let ends_later : nat_lt start (utc_start (epoch_day till +ℤ pos 2)) ≡ true = grind (arith, nat_tests, high) in
    and_from _ _ has_begun ends_later

-- If a timestamp is on a day of a range of days, then the range's time span contains the timestamp.
-- The span has two more days on each side, or all times if the range lacks an end.
pub has_each : (from till : Option Date) (zone : Zone) (start : ℕ)
    → (begins_by_number from (day_at zone start) && ends_after_number till (day_at zone start)) ≡ true → is_within (span_between from till) start ≡ true
has_each (Some from) (Some till) zone start is = lies_around from till zone start is
has_each (Some from) None zone start is = refl
has_each None till zone start is = refl

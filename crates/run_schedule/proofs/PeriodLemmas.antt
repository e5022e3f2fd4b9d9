-- Lemmas on the latest and earliest times at which a day begins in any time zone.
use Rattle.std.proofs.Common.{◌≡◌, ◌∙◌, ℕ, true, false, refl, sym, ap, subst, arith, to_z, of_z, to_z-of_z, w64}
use Rattle.std.specs.Prelude.{ℤ, pos, negsuc, neg_ℤ, ◌+ℤ◌, ◌*ℤ◌, ◌≤ℤ◌, ◌<ℤ◌, unsigned_abs}
use Rattle.std.specs.Cmp.{int_ranks}
use Rattle.std.specs.Int.{FitsUnsignedBits, int_div_euclid}
use Rattle.std.specs.Ordering.{MatchOrdering, int_cmp, is_lt}
use Rattle.std.specs.declared.cmp.Ordering.TheVariants.{Less, Equal, Greater}
use Rattle.jiff_core.specs.Calendar.{IsBetween}
use Rattle.jiff_core.specs.Timestamp.{IsOffsetSeconds}
use Rattle.jiff_core.proofs.SignedLemmas.{fits_between, signed_arith}
use Rattle.jiff_tz.specs.PosixRule as PosixRule
use Rattle.jiff_tz.specs.Tzif as Table
use Rattle.jiff_tz.specs.Zone.{offset_at, zero_in_range}
use Rattle.jiff_tz.specs.declared.timezone.TimeZone.{TimeZone}
use Rattle.jiff_tz.specs.declared.timezone.TimeZone.TheVariants.{UTC, Unknown, Fixed, Posix, Tzif}
use Rattle.jiff.specs.Words.{plain_zone}
use Rattle.interval_core.specs.Zone.{day_at, offset_of, rule_of}
use Rattle.interval_core.specs.declared.zone.Zone.{Zone}

-- The UTC offset of a time zone is at most 25:59:59, east or west.
in_range : (zone : TimeZone) (n : ℤ) → IsOffsetSeconds (offset_at zone n)
unfolding offset_at
in_range UTC n = zero_in_range
in_range Unknown n = zero_in_range
in_range (Fixed offset) n = offset.in_range
in_range (Posix tz) n = (PosixRule.offset_at tz n).in_range
in_range (Tzif z) n = (Table.offset_at z.now n).in_range

offset_range : (zone : Zone) (moment : ℕ) → IsOffsetSeconds (offset_of zone moment)
offset_range zone moment = in_range (plain_zone (rule_of zone)) (pos moment *ℤ pos 1_000_000_000)

-- If the day after `last` begins in UTC more than 25:59:59 after `at`, then that day has begun in
-- no time zone at `at`.
pub not_past : (zone : Zone) (last : ℤ) (at : ℕ) → (pos at +ℤ pos 93_599) <ℤ ((last +ℤ pos 1) *ℤ pos 86_400) → day_at zone at ≤ℤ last
not_past zone last at early =
    let bound = offset_range zone at in
    omega (arith, signed_arith, bound.1, early)

-- Lemmas: an integer that fits in 64 bits keeps its value when it is converted to a 64-bit number.

natural : (z : ℤ) → FitsUnsignedBits 64 z → z ≡ pos (unsigned_abs z)
natural (pos n) fits = refl
natural (negsuc n) fits = absurd fits

-- If an integer is within 10^12 of zero and fits in an unsigned 64-bit integer, then the integer
-- equals its unsigned 64-bit value.
pub as_natural : (z : ℤ) (n : ℕ) → IsBetween (neg_ℤ (pos 1_000_000_000_000)) (pos 1_000_000_000_000) z
    → FitsUnsignedBits 64 (to_z w64 (of_z w64 z)) → n ≡ unsigned_abs (to_z w64 (of_z w64 z)) → z ≡ pos n
as_natural z n bound fits is =
    let low = bound.0 in
    let high = bound.1 in
    let back : to_z w64 (of_z w64 z) ≡ z = to_z-of_z (fits_between w64 z (omega (arith, signed_arith, low, high), omega (arith, signed_arith, low, high))) in
    let here : FitsUnsignedBits 64 z = subst (FitsUnsignedBits 64) back fits in
    natural z here ∙ ap pos (sym (is ∙ ap unsigned_abs back))

-- Lemmas: the result of comparing two integers determines which of the two is less.

pub earlier : (x y : ℤ) → is_lt (int_cmp x y) ≡ true → x <ℤ y
earlier x y test =
    elim (int_cmp x y) as (λ r. MatchOrdering r (x <ℤ y) (x ≡ y) (y <ℤ x) → is_lt r ≡ true → x <ℤ y) [
      | Less ↦ λ lt _. lt
      | Equal ↦ λ eq no. cc
      | Greater ↦ λ gt no. cc
    ] (int_ranks x y) test

pub not_earlier : (x y : ℤ) → is_lt (int_cmp x y) ≡ false → y ≤ℤ x
not_earlier x y test =
    elim (int_cmp x y) as (λ r. MatchOrdering r (x <ℤ y) (x ≡ y) (y <ℤ x) → is_lt r ≡ false → y ≤ℤ x) [
      | Less ↦ λ lt no. cc
      | Equal ↦ λ eq _. omega (arith, signed_arith, eq)
      | Greater ↦ λ gt _. omega (arith, signed_arith, gt)
    ] (int_ranks x y) test

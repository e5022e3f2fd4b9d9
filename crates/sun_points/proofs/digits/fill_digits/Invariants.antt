use Rattle.std.proofs.Common.{◌≡◌, ◌-◌, ◌/◌, ◌^◌, drop, length}
use Rattle.sun_points.specs.Decimal.{low_digits}
use Rattle.sun_points.proofs.digits.fill_digits.Given as goal

abbrev pub invariant-loop-place : goal.invariant-loop-place
invariant-loop-place l = record {
  size : length l.digits ≡ l.count;
  lower : drop (l.count - l.place) l.digits ≡ low_digits l.base l.place l.number;
  rest : l.rest ≡ l.number / l.base ^ l.place;
}

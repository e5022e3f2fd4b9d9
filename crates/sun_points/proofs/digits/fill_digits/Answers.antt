use Rattle.std.proofs.Common.{◌≡◌, ℕ, ◌%◌, ◌/◌, ◌^◌, false, ◌∙◌, ap, length-set}
use Rattle.std.specs.Fmt.{digit_glyph}
use Rattle.sun_points.proofs.LowDigits.{drop-set_digit, quotient_next}
use Rattle.sun_points.proofs.digits.fill_digits.Goals as goal

pub loop-place-preserved : goal.loop-place-preserved
loop-place-preserved c =
    let digit_is : c.lower_digit.result ≡ digit_glyph false (c.args.number / c.args.base ^ c.loop-place.place % c.args.base) =
    c.lower_digit.ensures ∙ ap (λ (rest : ℕ). digit_glyph false (rest % c.args.base)) c.loop-place.invariant.rest in
    record {
      size = length-set _ _ _ ∙ c.loop-place.invariant.size;
      lower = rw digit_is (drop-set_digit c.args.base c.loop-place.digits _ c.loop-place.place c.args.number c.loop-place-test.true c.loop-place.invariant.size c.loop-place.invariant.lower);
      rest = ap (λ (rest : ℕ). rest / c.args.base) c.loop-place.invariant.rest ∙ quotient_next c.args.base c.loop-place.place c.args.number;
    }

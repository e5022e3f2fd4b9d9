use Rattle.std.proofs.Common.{◌≡◌, ◌≤◌, ◌∙◌, ◌/◌, ap, arith, w64, to_z}
use Rattle.std.specs.Prelude.{ℤ, pos, ◌+ℤ◌, ◌*ℤ◌}
use Rattle.std.specs.Int.{int_div_euclid}
use Rattle.jiff.specs.Words.{epoch_day, offset_at}
use Rattle.jiff.proofs.SpanFacts.{signed_arith}
use Rattle.jiff_core.proofs.DateTimeLemmas.{epoch_day-civil_nanos}
use Rattle.std.proofs.lemmas.Int.{to_z_pos}
use Rattle.table_audit.proofs.Moments.{date_is}
use Rattle.table_audit.proofs.values.date_at.Goals as goal

-- Converting nanoseconds to days yields the same number as converting the seconds to days.
days : (at : _) → int_div_euclid (pos at *ℤ pos 1_000_000_000 +ℤ pos 0) (pos 86_400_000_000_000) ≡ pos (at / 86_400)
days at = omega (arith, signed_arith)

pub returns-clause-date : goal.returns-clause-date
unfolding offset_at
returns-clause-date c =
    let small : to_z w64 c.args.at ≡ pos c.args.at = to_z_pos w64 c.args.at (omega (arith, c.if-at-gt-LAST_MOMENT.false)) in
    let nanos : c.in-Ok.instant.nanosecond ≡ pos c.args.at *ℤ pos 1_000_000_000 = rw small at c.in-Ok.ensures.value in
    let clock = rw nanos at c.to_datetime.ensures in
    date_is c.date.result c.args.at
    (ap (λ d. epoch_day d) c.date.ensures ∙ epoch_day-civil_nanos c.to_datetime.result
    ∙ ap (λ (z : ℤ). int_div_euclid z (pos 86_400_000_000_000)) clock ∙ days c.args.at)

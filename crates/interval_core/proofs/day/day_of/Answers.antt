use Rattle.std.proofs.Common.{◌≡◌, ◌∙◌, ap, arith, w64, to_z}
use Rattle.std.specs.Prelude.{ℤ, pos, ◌+ℤ◌, ◌*ℤ◌}
use Rattle.std.specs.Int.{int_div_euclid}
use Rattle.jiff.specs.Words.{epoch_day}
use Rattle.jiff.proofs.SpanFacts.{signed_arith}
use Rattle.jiff_core.proofs.DateTimeLemmas.{epoch_day-civil_nanos}
use Rattle.std.proofs.lemmas.Int.{to_z_pos}
use Rattle.interval_core.specs.Zone.{offset_of}
use Rattle.interval_core.proofs.day.day_of.Goals as goal

-- Converting nanoseconds to days yields the same number as converting the corresponding seconds to
-- days.
days : (s o : ℤ) → int_div_euclid (s *ℤ pos 1_000_000_000 +ℤ o *ℤ pos 1_000_000_000) (pos 86_400_000_000_000) ≡ int_div_euclid (s +ℤ o) (pos 86_400)
days s o = omega (arith, signed_arith)

pub returns-clause-day : goal.returns-clause-day
returns-clause-day c =
    let small : to_z w64 c.args.start ≡ pos c.args.start = to_z_pos w64 c.args.start (omega (arith, c.requires)) in
    let nanos : c.in-Ok.instant.nanosecond ≡ pos c.args.start *ℤ pos 1_000_000_000 = rw small at c.in-Ok.ensures.value in
    let clock = rw (nanos, c.rule.ensures) at c.to_datetime-clock.ensures in
    ap (λ d. epoch_day d) c.date.ensures ∙ epoch_day-civil_nanos c.to_datetime-clock.result
    ∙ ap (λ (z : ℤ). int_div_euclid z (pos 86_400_000_000_000)) clock ∙ days (pos c.args.start) (offset_of c.args.zone.now c.args.start)

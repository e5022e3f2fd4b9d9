use Rattle.std.proofs.Common.{subst, ◌∙◌}
use Rattle.energy_report.specs.Energies.{AddsShare}
use Rattle.office_books.specs.declared.spans.Span.{Span}
use Rattle.office_books.specs.Rows.{TakesAll}
use Rattle.office_books.specs.Spans.{rows_within}
use Rattle.office_books.specs.Intervals.{rows_of_meter}
use Rattle.carried_books.proofs.JoiningLemmas.KeptMeters.{energy_reported}
use Rattle.carried_books.proofs.joining.kept_meters.energy.Goals as goal

pub returns-clause-found : goal.returns-clause-found
returns-clause-found g c known holds clean =
    c.mwh.ensures
    ∙ energy_reported c.args.zone.now c.args.range.now (rows_of_meter known c.args.meter.now) c.new-energy.result c.intervals.new.sink c.new-energy.ensures
    (subst (λ (span : Span). TakesAll AddsShare c.new-energy.result (rows_within span (rows_of_meter known c.args.meter.now)) c.intervals.new.sink)
    c.span_around.ensures.span (c.in_ok-intervals.ensures.rows.whole known holds clean))

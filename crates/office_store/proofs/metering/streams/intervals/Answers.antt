use Rattle.std.proofs.Common.{IsUtf8, ap, sym, subst, ◌∙◌}
use Rattle.office_books.specs.declared.spans.Span.{Span}
use Rattle.office_books.specs.Spans.{rows_within}
use Rattle.office_books.specs.Intervals.{rows_of_meter}
use Rattle.sqlite.specs.Held.{state}
use Rattle.store_tables.specs.Failing.{IsFault}
use Rattle.store_tables.proofs.Failures.{passed}
use Rattle.office_store.specs.Metering.Sound.{HasReadableIntervals}
use Rattle.office_store.specs.Intervals.Rows.{IsSoundShare}
use Rattle.office_store.specs.Intervals.Handing.{HaveIntervals, AreSharesOfMeter, AreSharesOfMeterBetween, AreSoundIntervals}
use Rattle.office_store.proofs.MeteringLemmas.Shared.{of_meter, of_meter_between, all_sound}
use Rattle.office_store.proofs.FindingLemmas.Looking.{stays, only_touched}
use Rattle.office_store.proofs.MeteringLemmas.Handed.{not_asked, handed}
use Rattle.office_store.proofs.metering.streams.intervals.Goals as goal

pub returns-in_err-meter : goal.returns-in_err-meter
returns-in_err-meter g c =
    not_asked g.S.Store g.K.RowSink.takes IsSoundShare (λ facts. rows_within c.args.span (rows_of_meter facts c.args.meter.now)) (λ facts. IsUtf8 c.args.meter.now × HasReadableIntervals facts) c.args.conn.now c.args.conn.now c.args.sink.now c.from_residual.result _
    (λ zone. stays g.S.Store zone c.args.conn.now)
    (λ zone facts holds clean. passed (IsFault (state g.S.Store c.args.conn.now) (state g.S.Store c.args.conn.now) (IsUtf8 c.args.meter.now × HasReadableIntervals facts)) c.in_err-meter.field-0.0 c.from_residual.result c.from_residual.ensures.1
    (subst (IsFault (state g.S.Store c.args.conn.now) (state g.S.Store c.args.conn.now) (IsUtf8 c.args.meter.now × HasReadableIntervals facts)) (sym c.in_err-meter.ensures.fault.0) (λ s. c.in_err-meter.ensures.fault.1 s.0))) c.from_residual.ensures.1

pub returns-in_err-check_open : goal.returns-in_err-check_open
returns-in_err-check_open g c =
    not_asked g.S.Store g.K.RowSink.takes IsSoundShare (λ facts. rows_within c.args.span (rows_of_meter facts c.args.meter.now)) (λ facts. IsUtf8 c.args.meter.now × HasReadableIntervals facts) c.args.conn.now c.check_open.new.conn c.args.sink.now c.from_residual-in_err-check_open.result _
    (λ zone. only_touched g.S.Store c.args.conn.now c.check_open.new.conn zone c.in_err-check_open.ensures.autocommit c.in_err-check_open.ensures.kept c.in_err-check_open.ensures.survives)
    (λ zone facts holds clean. passed (IsFault (state g.S.Store c.args.conn.now) (state g.S.Store c.check_open.new.conn) (IsUtf8 c.args.meter.now × HasReadableIntervals facts)) _ c.from_residual-in_err-check_open.result c.from_residual-in_err-check_open.ensures.1
    (c.in_err-check_open.ensures.fails clean)) c.from_residual-in_err-check_open.ensures.1

pub returns-in-All : goal.returns-in-All
returns-in-All g c =
    handed g.S.Store g.K.RowSink.takes IsSoundShare (λ facts. rows_within c.args.span (rows_of_meter facts c.args.meter.now)) (λ facts. IsUtf8 c.args.meter.now × HasReadableIntervals facts) c.args.conn.now c.check_open.new.conn c.meter_intervals.new.conn c.args.sink.now c.meter_intervals.new.sink c.meter_intervals.result HaveIntervals (AreSharesOfMeter c.in_ok-meter.meter.now) AreSoundIntervals
    (record { mode = c.in_ok-check_open.ensures.autocommit; opened = c.in_ok-check_open.ensures.opened; kept = c.in_ok-check_open.ensures.kept; survives = c.in_ok-check_open.ensures.survives }) c.meter_intervals.ensures
    (λ zone facts content are. record { rows = are.intervals.rows; there = are.intervals.there; says_so = λ all is. of_meter c.meters_are_kept.ensures facts are.lawful c.args.meter.now are.intervals.rows all are.intervals.each (rw c.in_ok-meter.ensures.text at is) ∙ sym (ap (λ (s : Span). rows_within s (rows_of_meter facts c.args.meter.now)) c.in-All.is); sound = λ s. all_sound facts are.intervals.rows are.intervals.each s.1 })

pub returns-in-Between : goal.returns-in-Between
returns-in-Between g c =
    handed g.S.Store g.K.RowSink.takes IsSoundShare (λ facts. rows_within c.args.span (rows_of_meter facts c.args.meter.now)) (λ facts. IsUtf8 c.args.meter.now × HasReadableIntervals facts) c.args.conn.now c.check_open.new.conn c.meter_intervals_between.new.conn c.args.sink.now c.meter_intervals_between.new.sink c.meter_intervals_between.result HaveIntervals (AreSharesOfMeterBetween c.in_ok-meter.meter.now c.bound.result c.bound-in-Between.result) AreSoundIntervals
    (record { mode = c.in_ok-check_open.ensures.autocommit; opened = c.in_ok-check_open.ensures.opened; kept = c.in_ok-check_open.ensures.kept; survives = c.in_ok-check_open.ensures.survives }) c.meter_intervals_between.ensures
    (λ zone facts content are. record { rows = are.intervals.rows; there = are.intervals.there; says_so = λ all is. of_meter_between c.meters_are_kept.ensures facts are.lawful c.registers_are_in_turn.ensures c.args.meter.now c.in-Between.from c.in-Between.till c.bound.result c.bound-in-Between.result c.bound.ensures c.bound-in-Between.ensures are.intervals.rows all are.intervals.each (rw c.in_ok-meter.ensures.text at is) ∙ sym (ap (λ (s : Span). rows_within s (rows_of_meter facts c.args.meter.now)) c.in-Between.is); sound = λ s. all_sound facts are.intervals.rows are.intervals.each s.1 })

use Rattle.std.proofs.Common.{IsUtf8, ap, sym, subst, ◌∙◌}
use Rattle.office_books.specs.declared.spans.Span.{Span}
use Rattle.office_books.specs.Holds.{holds_of, holds_within}
use Rattle.office_books.specs.Facts.{holds_in}
use Rattle.sqlite.specs.Held.{state}
use Rattle.store_tables.specs.Failing.{IsFault}
use Rattle.store_tables.proofs.Failures.{passed}
use Rattle.office_store.specs.Metering.Sound.{HasReadableHolds}
use Rattle.office_store.specs.Rows.{placed, held_row}
use Rattle.office_store.specs.Holds.{IsSoundReading, HaveHolds, AreReadingsOf, AreReadingsBetween, AreSoundHolds}
use Rattle.office_store.proofs.MeteringLemmas.HeldReadings.{of_meter, of_meter_between, all_sound}
use Rattle.office_store.proofs.FindingLemmas.Looking.{stays, only_touched}
use Rattle.office_store.proofs.MeteringLemmas.Handed.{not_asked, handed}
use Rattle.office_store.proofs.metering.held_readings.holds.Goals as goal

pub returns-in_err-named : goal.returns-in_err-named
returns-in_err-named g c =
    not_asked g.S.Store g.K.RowSink.takes IsSoundReading (λ facts. holds_within c.args.span (holds_of facts c.args.meter.now)) (λ facts. IsUtf8 c.args.meter.now × HasReadableHolds facts) c.args.conn.now c.args.conn.now c.args.sink.now c.from_residual.result _
    (λ zone. stays g.S.Store zone c.args.conn.now)
    (λ zone facts holds clean. passed (IsFault (state g.S.Store c.args.conn.now) (state g.S.Store c.args.conn.now) (IsUtf8 c.args.meter.now × HasReadableHolds facts)) c.in_err-named.field-0.0 c.from_residual.result c.from_residual.ensures.1
    (subst (IsFault (state g.S.Store c.args.conn.now) (state g.S.Store c.args.conn.now) (IsUtf8 c.args.meter.now × HasReadableHolds facts)) (sym c.in_err-named.ensures.fault.0) (λ s. c.in_err-named.ensures.fault.1 s.0))) c.from_residual.ensures.1

pub returns-in_err-check_open : goal.returns-in_err-check_open
returns-in_err-check_open g c =
    not_asked g.S.Store g.K.RowSink.takes IsSoundReading (λ facts. holds_within c.args.span (holds_of facts c.args.meter.now)) (λ facts. IsUtf8 c.args.meter.now × HasReadableHolds facts) c.args.conn.now c.check_open.new.conn c.args.sink.now c.from_residual-in_err-check_open.result _
    (λ zone. only_touched g.S.Store c.args.conn.now c.check_open.new.conn zone c.in_err-check_open.ensures.autocommit c.in_err-check_open.ensures.kept c.in_err-check_open.ensures.survives)
    (λ zone facts holds clean. passed (IsFault (state g.S.Store c.args.conn.now) (state g.S.Store c.check_open.new.conn) (IsUtf8 c.args.meter.now × HasReadableHolds facts)) _ c.from_residual-in_err-check_open.result c.from_residual-in_err-check_open.ensures.1
    (c.in_err-check_open.ensures.fails clean)) c.from_residual-in_err-check_open.ensures.1

pub returns-in-All : goal.returns-in-All
returns-in-All g c =
    handed g.S.Store g.K.RowSink.takes IsSoundReading (λ facts. holds_within c.args.span (holds_of facts c.args.meter.now)) (λ facts. IsUtf8 c.args.meter.now × HasReadableHolds facts) c.args.conn.now c.check_open.new.conn c.meter_holds.new.conn c.args.sink.now c.meter_holds.new.sink c.meter_holds.result HaveHolds (AreReadingsOf c.args.meter.now) AreSoundHolds
    (record { mode = c.in_ok-check_open.ensures.autocommit; opened = c.in_ok-check_open.ensures.opened; kept = c.in_ok-check_open.ensures.kept; survives = c.in_ok-check_open.ensures.survives }) c.meter_holds.ensures
    (λ zone facts content are. record {
      rows = placed held_row (holds_in facts);
      there = are.holds;
      says_so = λ all is. of_meter c.args.meter.now facts all is ∙ sym (ap (λ (s : Span). holds_within s (holds_of facts c.args.meter.now)) c.in-All.is);
      sound = λ s. all_sound (holds_in facts) s.1;
    })

pub returns-in-Between : goal.returns-in-Between
returns-in-Between g c =
    handed g.S.Store g.K.RowSink.takes IsSoundReading (λ facts. holds_within c.args.span (holds_of facts c.args.meter.now)) (λ facts. IsUtf8 c.args.meter.now × HasReadableHolds facts) c.args.conn.now c.check_open.new.conn c.meter_holds_between.new.conn c.args.sink.now c.meter_holds_between.new.sink c.meter_holds_between.result HaveHolds (AreReadingsBetween c.args.meter.now c.bound.result c.bound-in-Between.result) AreSoundHolds
    (record { mode = c.in_ok-check_open.ensures.autocommit; opened = c.in_ok-check_open.ensures.opened; kept = c.in_ok-check_open.ensures.kept; survives = c.in_ok-check_open.ensures.survives }) c.meter_holds_between.ensures
    (λ zone facts content are. record {
      rows = placed held_row (holds_in facts);
      there = are.holds;
      says_so = λ all is.
          of_meter_between c.args.meter.now facts are.lawful c.in-Between.from c.in-Between.till c.bound.result c.bound-in-Between.result c.bound.ensures c.bound-in-Between.ensures all is
          ∙ sym (ap (λ (s : Span). holds_within s (holds_of facts c.args.meter.now)) c.in-Between.is);
      sound = λ s. all_sound (holds_in facts) s.1;
    })

use Rattle.std.proofs.Common.{IsUtf8, ap, sym, subst, ◌∙◌}
use Rattle.office_books.specs.declared.spans.Span.{Span}
use Rattle.office_books.specs.Spans.{rows_within}
use Rattle.office_books.specs.Intervals.{rows_of_register}
use Rattle.sqlite.specs.Held.{state}
use Rattle.store_tables.specs.Failing.{IsFault}
use Rattle.store_tables.proofs.Failures.{passed}
use Rattle.office_store.specs.Metering.Sound.{HasReadableIntervals}
use Rattle.office_books.specs.Facts.{openings_in}
use Rattle.office_store.specs.Rows.{placed, installed_row}
use Rattle.office_store.specs.Intervals.Rows.{IsSoundShare}
use Rattle.office_store.specs.Intervals.Handing.{HaveLying, AreSharesAt, AreSharesAtBetween, AreSoundLying}
use Rattle.office_store.proofs.MeteringLemmas.Shared.{at_register, at_register_between, all_sound}
use Rattle.office_store.proofs.FindingLemmas.Looking.{stays, only_touched}
use Rattle.office_store.proofs.MeteringLemmas.Handed.{not_asked, handed}
use Rattle.office_store.proofs.metering.streams.register_intervals.Goals as goal

pub returns-in_err-register : goal.returns-in_err-register
returns-in_err-register g c =
    not_asked g.S.Store g.K.RowSink.takes IsSoundShare (λ facts. rows_within c.args.span (rows_of_register facts c.args.register.now)) (λ facts. IsUtf8 c.args.register.now × HasReadableIntervals facts) c.args.conn.now c.args.conn.now c.args.sink.now c.from_residual.result _
    (λ zone. stays g.S.Store zone c.args.conn.now)
    (λ zone facts holds clean. passed (IsFault (state g.S.Store c.args.conn.now) (state g.S.Store c.args.conn.now) (IsUtf8 c.args.register.now × HasReadableIntervals facts)) c.in_err-register.field-0.0 c.from_residual.result c.from_residual.ensures.1
    (subst (IsFault (state g.S.Store c.args.conn.now) (state g.S.Store c.args.conn.now) (IsUtf8 c.args.register.now × HasReadableIntervals facts)) (sym c.in_err-register.ensures.fault.0) (λ s. c.in_err-register.ensures.fault.1 s.0))) c.from_residual.ensures.1

pub returns-in_err-check_open : goal.returns-in_err-check_open
returns-in_err-check_open g c =
    not_asked g.S.Store g.K.RowSink.takes IsSoundShare (λ facts. rows_within c.args.span (rows_of_register facts c.args.register.now)) (λ facts. IsUtf8 c.args.register.now × HasReadableIntervals facts) c.args.conn.now c.check_open.new.conn c.args.sink.now c.from_residual-in_err-check_open.result _
    (λ zone. only_touched g.S.Store c.args.conn.now c.check_open.new.conn zone c.in_err-check_open.ensures.autocommit c.in_err-check_open.ensures.kept c.in_err-check_open.ensures.survives)
    (λ zone facts holds clean. passed (IsFault (state g.S.Store c.args.conn.now) (state g.S.Store c.check_open.new.conn) (IsUtf8 c.args.register.now × HasReadableIntervals facts)) _ c.from_residual-in_err-check_open.result c.from_residual-in_err-check_open.ensures.1
    (c.in_err-check_open.ensures.fails clean)) c.from_residual-in_err-check_open.ensures.1

pub returns-in-All : goal.returns-in-All
returns-in-All g c =
    handed g.S.Store g.K.RowSink.takes IsSoundShare (λ facts. rows_within c.args.span (rows_of_register facts c.args.register.now)) (λ facts. IsUtf8 c.args.register.now × HasReadableIntervals facts) c.args.conn.now c.check_open.new.conn c.register_intervals.new.conn c.args.sink.now c.register_intervals.new.sink c.register_intervals.result HaveLying (AreSharesAt c.in_ok-register.register.now) AreSoundLying
    (record { mode = c.in_ok-check_open.ensures.autocommit; opened = c.in_ok-check_open.ensures.opened; kept = c.in_ok-check_open.ensures.kept; survives = c.in_ok-check_open.ensures.survives }) c.register_intervals.ensures
    (λ zone facts content are. record { rows = record { installed = placed (installed_row facts) (openings_in facts); rows = are.intervals.rows }; there = record { installed = are.installations; rows = are.intervals.there }; says_so = λ all is. at_register c.meters_are_kept.ensures facts are.lawful c.args.register.now are.intervals.rows all are.intervals.each (rw c.in_ok-register.ensures.text at is) ∙ sym (ap (λ (s : Span). rows_within s (rows_of_register facts c.args.register.now)) c.in-All.is); sound = λ s. all_sound facts are.intervals.rows are.intervals.each s.1 })

pub returns-in-Between : goal.returns-in-Between
returns-in-Between g c =
    handed g.S.Store g.K.RowSink.takes IsSoundShare (λ facts. rows_within c.args.span (rows_of_register facts c.args.register.now)) (λ facts. IsUtf8 c.args.register.now × HasReadableIntervals facts) c.args.conn.now c.check_open.new.conn c.register_intervals_between.new.conn c.args.sink.now c.register_intervals_between.new.sink c.register_intervals_between.result HaveLying (AreSharesAtBetween c.in_ok-register.register.now c.bound.result c.bound-in-Between.result) AreSoundLying
    (record { mode = c.in_ok-check_open.ensures.autocommit; opened = c.in_ok-check_open.ensures.opened; kept = c.in_ok-check_open.ensures.kept; survives = c.in_ok-check_open.ensures.survives }) c.register_intervals_between.ensures
    (λ zone facts content are. record { rows = record { installed = placed (installed_row facts) (openings_in facts); rows = are.intervals.rows }; there = record { installed = are.installations; rows = are.intervals.there }; says_so = λ all is. at_register_between c.meters_are_kept.ensures facts are.lawful c.args.register.now are.intervals.rows c.registers_are_in_turn.ensures c.in-Between.from c.in-Between.till c.bound.result c.bound-in-Between.result c.bound.ensures c.bound-in-Between.ensures all are.intervals.each (rw c.in_ok-register.ensures.text at is) ∙ sym (ap (λ (s : Span). rows_within s (rows_of_register facts c.args.register.now)) c.in-Between.is); sound = λ s. all_sound facts are.intervals.rows are.intervals.each s.1 })

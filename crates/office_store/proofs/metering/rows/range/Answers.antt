use Rattle.std.proofs.Common.{map}
use Rattle.office_books.specs.Facts.{openings_in}
use Rattle.store_tables.specs.Answer.{IsFound}
use Rattle.store_tables.specs.Meters.Trees.{ranges}
use Rattle.store_tables.specs.Meters.Rows.{ranged_columns, is_range_of, HasRange, IsSoundRanged}
use Rattle.office_store.specs.Rows.{ranged}
use Rattle.office_store.specs.Metering.Meters.{FindsRange}
use Rattle.office_store.proofs.MeteringLemmas.Found.{range_found}
use Rattle.office_store.specs.Metering.Sound.{HasReadableMeters}
use Rattle.office_store.proofs.FindingLemmas.Looking.{not_touched, reported_of}
use Rattle.office_store.proofs.metering.rows.range.Goals as goal

pub returns-in_err-check_open : goal.returns-in_err-check_open
returns-in_err-check_open g c =
    not_touched g.S.Store c.args.conn.now c.check_open.new.conn c.in_err-check_open.field-0.0 c.from_residual.result (FindsRange c.args.meter.now) HasReadableMeters
    c.in_err-check_open.ensures.autocommit c.in_err-check_open.ensures.kept c.in_err-check_open.ensures.survives c.in_err-check_open.ensures.fails c.from_residual.ensures.1

pub returns : goal.returns
returns g c =
    reported_of g.S.Store c.args.conn.now c.check_open.new.conn (record { mode = c.in_ok-check_open.ensures.autocommit; opened = c.in_ok-check_open.ensures.opened; kept = c.in_ok-check_open.ensures.kept; survives = c.in_ok-check_open.ensures.survives })
    c.range_of.new.conn ranges ranged_columns IsSoundRanged c.range_of.result (IsFound (is_range_of c.args.meter.now) HasRange) c.range_of.ensures.finds (FindsRange c.args.meter.now) HasReadableMeters
    (λ zone facts content are. record { rows = map ranged (openings_in facts); there = are.ranges; reports = range_found facts c.args.meter.now are.lawful; sound = λ s. s.ranges })

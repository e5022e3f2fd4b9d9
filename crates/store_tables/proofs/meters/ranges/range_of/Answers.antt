use Rattle.std.proofs.Common.{ap, ◌∙◌}
use Rattle.energy_core.specs.declared.limits.TheConstants.{MAX_RANGE, MIN_RANGE}
use Rattle.store_tables.specs.Answer.{AnyOrder}
use Rattle.store_tables.specs.Columns.{first_in}
use Rattle.store_tables.proofs.Selects.{found_none, found_some}
use Rattle.store_tables.proofs.LookUps.{looked_number, refused}
use Rattle.store_tables.specs.Meters.Rows.{HasRange, IsSoundRanged, is_range_of, range_shown, ranged_columns}
use Rattle.store_tables.specs.Meters.Trees.{ranges}
use Rattle.store_tables.proofs.MetersLemmas.ReadRows as reading
use Rattle.store_tables.proofs.meters.ranges.range_of.Goals as goal

pub returns-clause-finds : goal.returns-clause-finds
returns-clause-finds g c =
    let mine = is_range_of c.args.meter.now in
    looked_number g.S.Store c.args.conn.now c.rows_of.new.conn ranges ranged_columns IsSoundRanged c.in_ok-rows.ensures.asks mine AnyOrder range_shown c.in_ok-rows.rows.items c.in_ok-rows.ensures.shows _
    MIN_RANGE MAX_RANGE (λ r. r.range) reading.reads_range (found_none mine HasRange AnyOrder) (found_some mine HasRange AnyOrder) c.first_whole.result (c.first_whole.ensures.read ∙ ap (first_in MIN_RANGE MAX_RANGE) c.deref.ensures.value)

pub returns-clause-sound : goal.returns-clause-sound
returns-clause-sound g c = c.first_whole.ensures.bounds

pub returns-in_err-rows-clause-finds : goal.returns-in_err-rows-clause-finds
returns-in_err-rows-clause-finds g c =
    refused g.S.Store c.args.conn.now c.rows_of.new.conn ranges ranged_columns IsSoundRanged _ c.in_err-rows.ensures.asks c.in_err-rows.field-0.0 c.from_residual.result c.in_err-rows.ensures.shows c.from_residual.ensures.1

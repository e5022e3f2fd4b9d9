use Rattle.std.proofs.Common.{sym, ◌∙◌, ap, slice_get}
use Rattle.std.specs.Option.{option_copied}
use Rattle.store_tables.specs.declared.faults.RowFault.TheVariants.{Damaged}
use Rattle.store_tables.specs.Meters.Rows.{HasRange, IsSoundRanged, ranged_columns, range_shown, is_range_of}
use Rattle.store_tables.specs.Meters.Trees as tree
use Rattle.office_store.proofs.BookingsLemmas.Leaving.{no_answer}
use Rattle.office_store.proofs.BookingsLemmas.Seen.{asked_refused, read_reported}
use Rattle.office_store.proofs.bookings.meter_state.range_of.Goals as goal

pub returns-in_err-rows-clause-does : goal.returns-in_err-rows-clause-does
returns-in_err-rows-clause-does g c =
    no_answer _ g.S.Store c.args.tx.now.conn.now c.range_rows.new.tx.conn.now c.in_err-rows.field-0.0 c.from_residual.result _ c.in_err-rows.ensures.asks c.from_residual.ensures.1

pub returns-in-None-clause-does : goal.returns-in-None-clause-does
returns-in-None-clause-does g c = asked_refused g.S.Store c.args.tx.now.conn.now c.range_rows.new.tx.conn.now _ Damaged _ c.in_ok-rows.ensures.asks

pub returns-clause-does : goal.returns-clause-does
returns-clause-does g c =
    read_reported (is_range_of c.args.meter.now) range_shown g.S.Store c.args.tx.now.conn.now c.range_rows.new.tx.conn.now tree.ranges ranged_columns c.in_ok-rows.rows c.in_ok-rows.rows.items
    c.in-Some.row.now c.read_range.result HasRange IsSoundRanged c.in_ok-rows.ensures.asks c.in_ok-rows.ensures.shows (ap (λ xs. slice_get xs 0) (sym c.deref.ensures.value) ∙ (sym c.first.ensures.value ∙ ap option_copied c.in-Some.is)) c.read_range.ensures.read

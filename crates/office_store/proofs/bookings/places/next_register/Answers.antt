use Rattle.std.proofs.Common.{ap, ◌∙◌}
use Rattle.store_tables.specs.Answer.{every}
use Rattle.store_tables.specs.Devices.Rows.{register_columns, register_place}
use Rattle.store_tables.specs.Devices.Trees as tree
use Rattle.office_store.specs.Bookings.Places.{next_in}
use Rattle.office_store.proofs.BookingsLemmas.Leaving.{no_answer}
use Rattle.office_store.proofs.BookingsLemmas.NextPlaces.{next_reported}
use Rattle.office_store.proofs.bookings.places.next_register.Goals as goal

pub returns-in_err-rows-clause-does : goal.returns-in_err-rows-clause-does
returns-in_err-rows-clause-does g c =
    no_answer _ g.S.Store c.args.tx.now.conn.now c.last_register_rows.new.tx.conn.now c.in_err-rows.field-0.0 c.from_residual.result _ c.in_err-rows.ensures.asks c.from_residual.ensures.1

pub returns-clause-does : goal.returns-clause-does
returns-clause-does g c =
    next_reported every register_place g.S.Store c.args.tx.now.conn.now c.last_register_rows.new.tx.conn.now tree.registers register_columns c.in_ok-rows.rows c.in_ok-rows.rows.items c.next_place.result
    c.in_ok-rows.ensures.asks c.in_ok-rows.ensures.shows (c.next_place.ensures.next ∙ ap next_in c.deref.ensures.value)

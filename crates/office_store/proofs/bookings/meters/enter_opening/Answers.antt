use Rattle.sqlite.specs.Held.{state}
use Rattle.office_events.specs.declared.facts.Fact.TheVariants as fact
use Rattle.office_store.specs.Recording.{Records}
use Rattle.office_store.proofs.BookingsLemmas.Leaving.{stopped, completed, went_on, Then}
use Rattle.office_store.proofs.BookingsLemmas.Installing.{AddsInstallation, AddsRange, AddsEntry, IsNextInstallation, opening_entered}
use Rattle.office_store.proofs.bookings.meters.enter_opening.Goals as goal

pub returns-in_err-insert_installation-clause-does : goal.returns-in_err-insert_installation-clause-does
returns-in_err-insert_installation-clause-does g c =
    stopped _ (state g.S.Store c.args.tx.now.conn.now) (state g.S.Store c.next_installation.new.tx.conn.now) (state g.S.Store c.insert_installation.new.tx.conn.now) c.in_ok-place.place c.in_err-insert_installation.field-0.0 c.from_residual-in_err-insert_installation.result
    (IsNextInstallation c.in_ok-place.place) (AddsInstallation c.in_ok-meter.meter.now c.in_ok-register.register.now c.begun_row.result) (Records (fact.Opening c.args.opening.now)) c.in_ok-place.ensures.does c.in_err-insert_installation.ensures.does c.from_residual-in_err-insert_installation.ensures.1

pub returns-in_err-insert_range-clause-does : goal.returns-in_err-insert_range-clause-does
returns-in_err-insert_range-clause-does g c =
    stopped _ (state g.S.Store c.args.tx.now.conn.now) (state g.S.Store c.insert_installation.new.tx.conn.now) (state g.S.Store c.insert_range.new.tx.conn.now) c.in_ok-insert_installation.field-0 c.in_err-insert_range.field-0.0 c.from_residual-in_err-insert_range.result
    (Then (IsNextInstallation c.in_ok-place.place) (AddsInstallation c.in_ok-meter.meter.now c.in_ok-register.register.now c.begun_row.result)) (AddsRange c.in_ok-meter.meter.now c.args.opening.now.range) (Records (fact.Opening c.args.opening.now))
    (went_on (state g.S.Store c.args.tx.now.conn.now) (state g.S.Store c.next_installation.new.tx.conn.now) (state g.S.Store c.insert_installation.new.tx.conn.now) c.in_ok-place.place c.in_ok-insert_installation.field-0 (IsNextInstallation c.in_ok-place.place) (AddsInstallation c.in_ok-meter.meter.now c.in_ok-register.register.now c.begun_row.result) c.in_ok-place.ensures.does c.in_ok-insert_installation.ensures.does)
    c.in_err-insert_range.ensures.does c.from_residual-in_err-insert_range.ensures.1

pub returns-in_err-insert_entry-clause-does : goal.returns-in_err-insert_entry-clause-does
returns-in_err-insert_entry-clause-does g c =
    stopped _ (state g.S.Store c.args.tx.now.conn.now) (state g.S.Store c.insert_range.new.tx.conn.now) (state g.S.Store c.insert_entry.new.tx.conn.now) c.in_ok-insert_range.field-0 c.in_err-insert_entry.field-0.0 c.from_residual-in_err-insert_entry.result
    (Then (Then (IsNextInstallation c.in_ok-place.place) (AddsInstallation c.in_ok-meter.meter.now c.in_ok-register.register.now c.begun_row.result)) (AddsRange c.in_ok-meter.meter.now c.args.opening.now.range)) (AddsEntry c.in_ok-meter.meter.now c.opening_row.result) (Records (fact.Opening c.args.opening.now))
    (went_on (state g.S.Store c.args.tx.now.conn.now) (state g.S.Store c.insert_installation.new.tx.conn.now) (state g.S.Store c.insert_range.new.tx.conn.now) c.in_ok-insert_installation.field-0 c.in_ok-insert_range.field-0 (Then (IsNextInstallation c.in_ok-place.place) (AddsInstallation c.in_ok-meter.meter.now c.in_ok-register.register.now c.begun_row.result)) (AddsRange c.in_ok-meter.meter.now c.args.opening.now.range)
    (went_on (state g.S.Store c.args.tx.now.conn.now) (state g.S.Store c.next_installation.new.tx.conn.now) (state g.S.Store c.insert_installation.new.tx.conn.now) c.in_ok-place.place c.in_ok-insert_installation.field-0 (IsNextInstallation c.in_ok-place.place) (AddsInstallation c.in_ok-meter.meter.now c.in_ok-register.register.now c.begun_row.result) c.in_ok-place.ensures.does c.in_ok-insert_installation.ensures.does) c.in_ok-insert_range.ensures.does)
    c.in_err-insert_entry.ensures.does c.from_residual-in_err-insert_entry.ensures.1

pub returns-clause-does : goal.returns-clause-does
returns-clause-does g c =
    completed (state g.S.Store c.args.tx.now.conn.now) (state g.S.Store c.insert_range.new.tx.conn.now) (state g.S.Store c.insert_entry.new.tx.conn.now) c.in_ok-insert_range.field-0 c.in_ok-insert_entry.field-0
    (Then (Then (IsNextInstallation c.in_ok-place.place) (AddsInstallation c.in_ok-meter.meter.now c.in_ok-register.register.now c.begun_row.result)) (AddsRange c.in_ok-meter.meter.now c.args.opening.now.range)) (AddsEntry c.in_ok-meter.meter.now c.opening_row.result) (Records (fact.Opening c.args.opening.now))
    (went_on (state g.S.Store c.args.tx.now.conn.now) (state g.S.Store c.insert_installation.new.tx.conn.now) (state g.S.Store c.insert_range.new.tx.conn.now) c.in_ok-insert_installation.field-0 c.in_ok-insert_range.field-0 (Then (IsNextInstallation c.in_ok-place.place) (AddsInstallation c.in_ok-meter.meter.now c.in_ok-register.register.now c.begun_row.result)) (AddsRange c.in_ok-meter.meter.now c.args.opening.now.range)
    (went_on (state g.S.Store c.args.tx.now.conn.now) (state g.S.Store c.next_installation.new.tx.conn.now) (state g.S.Store c.insert_installation.new.tx.conn.now) c.in_ok-place.place c.in_ok-insert_installation.field-0 (IsNextInstallation c.in_ok-place.place) (AddsInstallation c.in_ok-meter.meter.now c.in_ok-register.register.now c.begun_row.result) c.in_ok-place.ensures.does c.in_ok-insert_installation.ensures.does) c.in_ok-insert_range.ensures.does)
    c.in_ok-insert_entry.ensures.does
    (opening_entered c.openings_begin.ensures c.args.opening.now c.in_ok-place.place c.in_ok-meter.meter.now c.in_ok-register.register.now c.begun_row.result c.opening_row.result
    c.in_ok-meter.ensures.text c.in_ok-register.ensures.text c.begun_row.ensures.row c.opening_row.ensures.row)

use Rattle.std.proofs.Common.{Ok}
use Rattle.sqlite.specs.Held.{state}
use Rattle.store_tables.specs.Entries.Trees as entry_tree
use Rattle.store_tables.specs.Entries.Rows.{entry_columns, entry_place, is_of}
use Rattle.store_tables.specs.Meters.Trees as meter_tree
use Rattle.store_tables.specs.Meters.Rows.{installed_columns, ranged_columns, is_meter, is_range_of, HasRange}
use Rattle.office_store.specs.Recording.{IsNext}
use Rattle.office_store.specs.Bookings.Places.{IsSeenIn, StandsThere}
use Rattle.office_store.specs.Bookings.MeterState.{IsStanding}
use Rattle.office_store.specs.declared.bookings.meter_state.Standing.{Standing}
use Rattle.office_store.proofs.BookingsLemmas.Leaving.{Then, broken}
use Rattle.office_store.proofs.BookingsLemmas.Moves.{stands}
use Rattle.office_store.proofs.GoingLemmas.{goes_then, reported_less}
use Rattle.office_store.proofs.bookings.meter_state.standing_of.Goals as goal

pub returns-in_err-last-clause-does : goal.returns-in_err-last-clause-does
returns-in_err-last-clause-does g c =
    let P = IsNext entry_tree.entries entry_columns (is_of c.args.meter.now) entry_place c.in_ok-place.place in
    broken _ (state g.S.Store c.args.tx.now.conn.now) (state g.S.Store c.next_entry.new.tx.conn.now) (state g.S.Store c.last_of.new.tx.conn.now) c.in_ok-place.place c.in_err-last.field-0.0 c.from_residual-in_err-last.result
    P _ _ c.in_ok-place.ensures.does c.in_err-last.ensures.does c.from_residual-in_err-last.ensures.1

pub returns-in_err-range-clause-does : goal.returns-in_err-range-clause-does
returns-in_err-range-clause-does g c =
    let P = IsNext entry_tree.entries entry_columns (is_of c.args.meter.now) entry_place c.in_ok-place.place in
    let Q = IsSeenIn meter_tree.installations installed_columns (is_meter c.args.meter.now) StandsThere c.in_ok-last.last in
    let a = state g.S.Store c.args.tx.now.conn.now in
    let b = state g.S.Store c.next_entry.new.tx.conn.now in
    let d = state g.S.Store c.last_of.new.tx.conn.now in
    broken _ a d (state g.S.Store c.range_of.new.tx.conn.now) c.in_ok-last.last c.in_err-range.field-0.0 c.from_residual-in_err-range.result (Then P Q) _ _
    (goes_then a b d c.in_ok-place.place (Ok c.in_ok-last.last) P Q (Then P Q) c.in_ok-place.ensures.does c.in_ok-last.ensures.does (λ before mid after p q. (mid, p, q)))
    c.in_err-range.ensures.does c.from_residual-in_err-range.ensures.1

pub returns-clause-does : goal.returns-clause-does
returns-clause-does g c =
    let meter = c.args.meter.now in
    let P = IsNext entry_tree.entries entry_columns (is_of meter) entry_place c.in_ok-place.place in
    let Q = IsSeenIn meter_tree.installations installed_columns (is_meter meter) StandsThere c.in_ok-last.last in
    let R = IsSeenIn meter_tree.ranges ranged_columns (is_range_of meter) HasRange c.in_ok-range.range in
    let it : Standing = record { place = c.in_ok-place.place; last = c.in_ok-last.last; range = c.in_ok-range.range } in
    let a = state g.S.Store c.args.tx.now.conn.now in
    let b = state g.S.Store c.next_entry.new.tx.conn.now in
    let d = state g.S.Store c.last_of.new.tx.conn.now in
    let e = state g.S.Store c.range_of.new.tx.conn.now in
    reported_less a e c.in_ok-range.range it (IsStanding meter it) (IsStanding meter it) (λ content after is. is)
    (goes_then a d e c.in_ok-last.last (Ok c.in_ok-range.range) (Then P Q) R (IsStanding meter it)
    (goes_then a b d c.in_ok-place.place (Ok c.in_ok-last.last) P Q (Then P Q) c.in_ok-place.ensures.does c.in_ok-last.ensures.does (λ before mid after p q. (mid, p, q)))
    c.in_ok-range.ensures.does (λ before mid after p r. stands meter it before p.0 mid after p.1 p.2 r))

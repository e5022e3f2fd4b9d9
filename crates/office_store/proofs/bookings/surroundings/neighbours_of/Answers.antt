use Rattle.std.proofs.Common.{Ok}
use Rattle.sqlite.specs.Held.{state}
use Rattle.office_store.proofs.GoingLemmas.{goes_then, reported_less}
use Rattle.office_store.specs.declared.bookings.surroundings.Neighbours.{Neighbours}
use Rattle.office_store.specs.Bookings.Surroundings.{FindsEntry, FindsBefore, FindsAfter, AreNear}
use Rattle.office_store.proofs.BookingsLemmas.Finding.{nearby}
use Rattle.office_store.proofs.BookingsLemmas.Leaving.{Then, broken}
use Rattle.office_store.proofs.bookings.surroundings.neighbours_of.Goals as goal

pub returns-in_err-before-clause-does : goal.returns-in_err-before-clause-does
returns-in_err-before-clause-does g c =
    let P = FindsEntry c.args.meter.now c.args.place c.in_ok-entry.entry in
    broken _ (state g.S.Store c.args.tx.now.conn.now) (state g.S.Store c.entry_there.new.tx.conn.now) (state g.S.Store c.entry_before.new.tx.conn.now) c.in_ok-entry.entry c.in_err-before.field-0.0 c.from_residual-in_err-before.result
    P _ _ c.in_ok-entry.ensures.does c.in_err-before.ensures.does c.from_residual-in_err-before.ensures.1

pub returns-in_err-next-clause-does : goal.returns-in_err-next-clause-does
returns-in_err-next-clause-does g c =
    let P = FindsEntry c.args.meter.now c.args.place c.in_ok-entry.entry in
    let Q = FindsBefore c.args.meter.now c.args.place c.in_ok-before.before in
    let a = state g.S.Store c.args.tx.now.conn.now in
    let b = state g.S.Store c.entry_there.new.tx.conn.now in
    let d = state g.S.Store c.entry_before.new.tx.conn.now in
    broken _ a d (state g.S.Store c.entry_after.new.tx.conn.now) c.in_ok-before.before c.in_err-next.field-0.0 c.from_residual-in_err-next.result (Then P Q) _ _
    (goes_then a b d c.in_ok-entry.entry (Ok c.in_ok-before.before) P Q (Then P Q) c.in_ok-entry.ensures.does c.in_ok-before.ensures.does (λ before mid after p q. (mid, p, q)))
    c.in_err-next.ensures.does c.from_residual-in_err-next.ensures.1

pub returns-clause-does : goal.returns-clause-does
returns-clause-does g c =
    let meter = c.args.meter.now in
    let place = c.args.place in
    let P = FindsEntry meter place c.in_ok-entry.entry in
    let Q = FindsBefore meter place c.in_ok-before.before in
    let R = FindsAfter meter place c.in_ok-next.next in
    let it : Neighbours = record { entry = c.in_ok-entry.entry; before = c.in_ok-before.before; next = c.in_ok-next.next } in
    let a = state g.S.Store c.args.tx.now.conn.now in
    let b = state g.S.Store c.entry_there.new.tx.conn.now in
    let d = state g.S.Store c.entry_before.new.tx.conn.now in
    let e = state g.S.Store c.entry_after.new.tx.conn.now in
    reported_less a e c.in_ok-next.next it (AreNear meter place it) (AreNear meter place it) (λ content after is. is)
    (goes_then a d e c.in_ok-before.before (Ok c.in_ok-next.next) (Then P Q) R (AreNear meter place it)
    (goes_then a b d c.in_ok-entry.entry (Ok c.in_ok-before.before) P Q (Then P Q) c.in_ok-entry.ensures.does c.in_ok-before.ensures.does (λ before mid after p q. (mid, p, q)))
    c.in_ok-next.ensures.does (λ before mid after p r. nearby meter place it before p.0 mid after p.1 p.2 r))

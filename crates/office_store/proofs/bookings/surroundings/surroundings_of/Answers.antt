use Rattle.std.proofs.Common.{Ok}
use Rattle.sqlite.specs.Held.{state}
use Rattle.office_store.proofs.GoingLemmas.{goes_then, reported_less}
use Rattle.office_store.specs.declared.bookings.surroundings.Surroundings.{Surroundings}
use Rattle.office_store.specs.Bookings.MeterState.{IsStanding}
use Rattle.office_store.specs.Bookings.Surroundings.{OpenedAt, AreNear, IsAround}
use Rattle.office_store.proofs.BookingsLemmas.Finding.{around}
use Rattle.office_store.proofs.BookingsLemmas.Leaving.{Then, broken}
use Rattle.office_store.proofs.bookings.surroundings.surroundings_of.Goals as goal

pub returns-in_err-opened-clause-does : goal.returns-in_err-opened-clause-does
returns-in_err-opened-clause-does g c =
    let P = IsStanding c.args.meter.now c.in_ok-standing.standing in
    broken _ (state g.S.Store c.args.tx.now.conn.now) (state g.S.Store c.standing_of.new.tx.conn.now) (state g.S.Store c.opened_at.new.tx.conn.now) c.in_ok-standing.standing c.in_err-opened.field-0.0 c.from_residual-in_err-opened.result
    P _ _ c.in_ok-standing.ensures.does c.in_err-opened.ensures.does c.from_residual-in_err-opened.ensures.1

pub returns-in_err-near-clause-does : goal.returns-in_err-near-clause-does
returns-in_err-near-clause-does g c =
    let P = IsStanding c.args.meter.now c.in_ok-standing.standing in
    let Q = OpenedAt c.args.meter.now c.in_ok-opened.opened in
    let a = state g.S.Store c.args.tx.now.conn.now in
    let b = state g.S.Store c.standing_of.new.tx.conn.now in
    let d = state g.S.Store c.opened_at.new.tx.conn.now in
    broken _ a d (state g.S.Store c.neighbours_of.new.tx.conn.now) c.in_ok-opened.opened c.in_err-near.field-0.0 c.from_residual-in_err-near.result (Then P Q) _ _
    (goes_then a b d c.in_ok-standing.standing (Ok c.in_ok-opened.opened) P Q (Then P Q) c.in_ok-standing.ensures.does c.in_ok-opened.ensures.does (λ before mid after p q. (mid, p, q)))
    c.in_err-near.ensures.does c.from_residual-in_err-near.ensures.1

pub returns-clause-does : goal.returns-clause-does
returns-clause-does g c =
    let meter = c.args.meter.now in
    let place = c.args.place in
    let P = IsStanding meter c.in_ok-standing.standing in
    let Q = OpenedAt meter c.in_ok-opened.opened in
    let R = AreNear meter place c.in_ok-near.near in
    let it : Surroundings = record { standing = c.in_ok-standing.standing; opened = c.in_ok-opened.opened; near = c.in_ok-near.near } in
    let a = state g.S.Store c.args.tx.now.conn.now in
    let b = state g.S.Store c.standing_of.new.tx.conn.now in
    let d = state g.S.Store c.opened_at.new.tx.conn.now in
    let e = state g.S.Store c.neighbours_of.new.tx.conn.now in
    reported_less a e c.in_ok-near.near it (IsAround meter place it) (IsAround meter place it) (λ content after is. is)
    (goes_then a d e c.in_ok-opened.opened (Ok c.in_ok-near.near) (Then P Q) R (IsAround meter place it)
    (goes_then a b d c.in_ok-standing.standing (Ok c.in_ok-opened.opened) P Q (Then P Q) c.in_ok-standing.ensures.does c.in_ok-opened.ensures.does (λ before mid after p q. (mid, p, q)))
    c.in_ok-near.ensures.does (λ before mid after p r. around meter place it before p.0 mid after p.1 p.2 r))

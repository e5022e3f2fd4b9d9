use Rattle.std.proofs.Common.{◌≤◌, Ok, Err, None, [], arith}
use Rattle.office_store.specs.Metering.Around.{FindsAround, ReportsRightly}
use Rattle.office_store.specs.Metering.Entries.{ShowsVoids}
use Rattle.office_store.specs.Metering.Sound.{HasReadableMeters, HasReadableJournals}
use Rattle.std.specs.Prelude.{IfSome}
use Rattle.office_store.proofs.FindingLemmas.Found.{answered, passed_on, finds_then}
use Rattle.office_store.proofs.MeteringLemmas.Near.{reported_rightly}
use Rattle.office_store.proofs.metering.around.entry_from_neighbours.Goals as goal

pub returns-in_default-clause-finds : goal.returns-in_default-clause-finds
returns-in_default-clause-finds g c =
    answered g.S.Store c.args.conn.now c.voids.new.conn c.in_ok-voids.voids None _ (ReportsRightly c.args.meter.now c.args.place c.args.whole.now) HasReadableJournals HasReadableJournals c.in_ok-voids.ensures
    (λ facts h. record { lawful = h.lawful; right = tt })

pub rows_around-requires-clause-idle : goal.rows_around-requires-clause-idle
rows_around-requires-clause-idle g c = (c.in_ok-voids.ensures.looks []).mode c.requires

pub returns-in_err-around-clause-finds : goal.returns-in_err-around-clause-finds
returns-in_err-around-clause-finds g c =
    passed_on g.S.Store c.args.conn.now c.rows_around.new.conn c.in_err-around.field-0.0 c.from_residual-in_err-around.result _ (ReportsRightly c.args.meter.now c.args.place c.args.whole.now) HasReadableMeters HasReadableJournals
    (finds_then g.S.Store c.args.conn.now c.voids.new.conn c.rows_around.new.conn c.in_ok-voids.voids (Err c.in_err-around.field-0.0) _ _ HasReadableJournals HasReadableMeters c.in_ok-voids.ensures c.in_err-around.ensures)
    (λ facts s. s.meters) c.from_residual-in_err-around.ensures.1

pub returns-in_default-2-clause-finds : goal.returns-in_default-2-clause-finds
returns-in_default-2-clause-finds g c =
    answered g.S.Store c.args.conn.now c.rows_around.new.conn c.in_ok-around.field-0 None _ (ReportsRightly c.args.meter.now c.args.place c.args.whole.now) HasReadableMeters HasReadableJournals
    (finds_then g.S.Store c.args.conn.now c.voids.new.conn c.rows_around.new.conn c.in_ok-voids.voids (Ok c.in_ok-around.field-0) (λ facts voids. ShowsVoids c.args.meter.now facts voids.items) (λ facts found. IfSome found (FindsAround c.args.meter.now c.args.place c.in-Some.sides.before c.in-Some.sides.after facts)) HasReadableJournals HasReadableMeters c.in_ok-voids.ensures c.in_ok-around.ensures)
    (λ facts h. record { lawful = h.0.lawful; right = tt })

pub returns-clause-finds : goal.returns-clause-finds
returns-clause-finds g c =
    answered g.S.Store c.args.conn.now c.rows_around.new.conn c.in_ok-around.field-0 c.seen.result _ (ReportsRightly c.args.meter.now c.args.place c.args.whole.now) HasReadableMeters HasReadableJournals
    (finds_then g.S.Store c.args.conn.now c.voids.new.conn c.rows_around.new.conn c.in_ok-voids.voids (Ok c.in_ok-around.field-0) (λ facts voids. ShowsVoids c.args.meter.now facts voids.items) (λ facts found. IfSome found (FindsAround c.args.meter.now c.args.place c.in-Some.sides.before c.in-Some.sides.after facts)) HasReadableJournals HasReadableMeters c.in_ok-voids.ensures c.in_ok-around.ensures)
    (λ facts h.
    reported_rightly c.journals_fit.ensures c.rows_are_kept.ensures c.voids_change_two_rows.ensures c.journals_are_kept.ensures c.places_were_kept.ensures facts c.args.meter.now c.args.place c.in-Some.ensures.following c.in_ok-voids.voids.items c.deref.result.now c.in-Some.sides
    c.in_ok-around.field-0 c.in-Some-2.around c.args.whole.now c.seen.result h.0 c.deref.ensures.value c.in-Some.ensures.sides h.1 c.in-Some-2.is c.seen.ensures.seen)

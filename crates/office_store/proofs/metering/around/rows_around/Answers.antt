use Rattle.std.proofs.Common.{List, ℕ, Option, Ok, Err, Some, None, [], subst}
use Rattle.std.specs.Prelude.{IfSome}
use Rattle.office_events.specs.declared.facts.Fact.{Fact}
use Rattle.office_store.specs.declared.metering.around.Around.{Around}
use Rattle.office_store.specs.Metering.Around.{FindsAt, FindsAround}
use Rattle.office_store.specs.Metering.Sound.{HasReadableMeters}
use Rattle.office_store.proofs.FindingLemmas.Found.{answered, passed_on, finds_then}
use Rattle.office_store.proofs.metering.around.rows_around.Goals as goal

abbrev Says : (meter : List ℕ) (place low high : ℕ) → List Fact → Option Around → Type 0
Says meter place low high facts found = IfSome found (FindsAround meter place low high facts)

pub row_there-requires-2-clause-idle : goal.row_there-requires-2-clause-idle
row_there-requires-2-clause-idle g c = (c.in_ok-entry.ensures.looks []).mode c.requires.idle

pub returns-in_err-before : goal.returns-in_err-before
returns-in_err-before g c =
    passed_on g.S.Store c.args.conn.now c.row_there-2.new.conn c.in_err-before.field-0.0 c.from_residual-in_err-before.result _ (Says c.args.meter.now c.args.place c.args.sides.before c.args.sides.after) HasReadableMeters HasReadableMeters
    (finds_then g.S.Store c.args.conn.now c.row_there.new.conn c.row_there-2.new.conn c.in_ok-entry.field-0 (Err c.in_err-before.field-0.0) _ _ HasReadableMeters HasReadableMeters c.in_ok-entry.ensures c.in_err-before.ensures)
    (λ facts s. s) c.from_residual-in_err-before.ensures.1

pub returns-in_default-2 : goal.returns-in_default-2
returns-in_default-2 g c =
    answered g.S.Store c.args.conn.now c.row_there-2.new.conn c.in_ok-before.field-0 None _ (Says c.args.meter.now c.args.place c.args.sides.before c.args.sides.after) HasReadableMeters HasReadableMeters
    (finds_then g.S.Store c.args.conn.now c.row_there.new.conn c.row_there-2.new.conn c.in_ok-entry.field-0 (Ok c.in_ok-before.field-0) _ _ HasReadableMeters HasReadableMeters c.in_ok-entry.ensures c.in_ok-before.ensures)
    (λ facts h. tt)

pub row_there-requires-3-clause-idle : goal.row_there-requires-3-clause-idle
row_there-requires-3-clause-idle g c = (c.in_ok-before.ensures.looks []).mode ((c.in_ok-entry.ensures.looks []).mode c.requires.idle)

pub returns-in_err-next : goal.returns-in_err-next
returns-in_err-next g c =
    passed_on g.S.Store c.args.conn.now c.row_there-3.new.conn c.in_err-next.field-0.0 c.from_residual-in_err-next.result _ (Says c.args.meter.now c.args.place c.args.sides.before c.args.sides.after) HasReadableMeters HasReadableMeters
    (finds_then g.S.Store c.args.conn.now c.row_there-2.new.conn c.row_there-3.new.conn c.in_ok-before.field-0 (Err c.in_err-next.field-0.0) _ _ HasReadableMeters HasReadableMeters
    (finds_then g.S.Store c.args.conn.now c.row_there.new.conn c.row_there-2.new.conn c.in_ok-entry.field-0 (Ok c.in_ok-before.field-0) _ _ HasReadableMeters HasReadableMeters c.in_ok-entry.ensures c.in_ok-before.ensures)
    c.in_err-next.ensures)
    (λ facts s. s) c.from_residual-in_err-next.ensures.1

pub returns : goal.returns
returns g c =
    answered g.S.Store c.args.conn.now c.row_there-3.new.conn c.in_ok-next.next (Some (record { entry = c.in-Some.entry; before = c.in-Some-2.before; next = c.in_ok-next.next })) _ (Says c.args.meter.now c.args.place c.args.sides.before c.args.sides.after) HasReadableMeters HasReadableMeters
    (finds_then g.S.Store c.args.conn.now c.row_there-2.new.conn c.row_there-3.new.conn c.in_ok-before.field-0 (Ok c.in_ok-next.next) (λ facts b. FindsAt c.args.meter.now c.args.place facts c.in_ok-entry.field-0 × FindsAt c.args.meter.now c.args.sides.before facts b) (FindsAt c.args.meter.now c.args.sides.after) HasReadableMeters HasReadableMeters
    (finds_then g.S.Store c.args.conn.now c.row_there.new.conn c.row_there-2.new.conn c.in_ok-entry.field-0 (Ok c.in_ok-before.field-0) (FindsAt c.args.meter.now c.args.place) (FindsAt c.args.meter.now c.args.sides.before) HasReadableMeters HasReadableMeters c.in_ok-entry.ensures c.in_ok-before.ensures)
    c.in_ok-next.ensures)
    (λ facts h. record {
      entry = subst (FindsAt c.args.meter.now c.args.place facts) c.in-Some.is h.0.0;
      before = subst (FindsAt c.args.meter.now c.args.sides.before facts) c.in-Some-2.is h.0.1;
      next = h.1;
    })

use Rattle.std.proofs.Common.{[], ◌≡◌, Ok, Err, Some, None, Result, IfOk, IfErr, sym, subst, ◌∙◌}
use Rattle.std.proofs.lemmas.Result.{IfOk-weaker}
use Rattle.office_events.specs.declared.facts.Opening.{Opening}
use Rattle.store_tables.specs.Failing.{IsRowFault}
use Rattle.store_tables.proofs.Failures.{on_err}
use Rattle.office_store.specs.Metering.Meters.{IsStanding, IsRowOf, FindsRange, FindsFirst, standing_from}
use Rattle.office_store.specs.Metering.Sound.{HasReadableMeters}
use Rattle.office_store.proofs.FindingLemmas.Found.{become, passed_on, finds_then, made, unread, damaged_fault}
use Rattle.office_store.proofs.MeteringLemmas.Found.{standing_found, opening_made, no_opening, named_row, not_unsound}
use Rattle.office_store.proofs.metering.installations.standing.Goals as goal

pub first_entry-requires : goal.first_entry-requires
first_entry-requires g c = (c.in_ok-counts.ensures.looks []).mode c.requires

pub returns-in_err-counts-clause-finds : goal.returns-in_err-counts-clause-finds
returns-in_err-counts-clause-finds g c =
    passed_on g.S.Store c.args.conn.now c.range.new.conn c.in_err-counts.field-0.0 c.from_residual.result _ (IsStanding c.args.row.now) HasReadableMeters (λ facts. HasReadableMeters facts × (opening : Opening) × IsRowOf facts opening c.args.row.now)
    c.in_err-counts.ensures (λ facts s. s.0) c.from_residual.ensures.1

pub returns-in_default-clause-finds : goal.returns-in_default-clause-finds
returns-in_default-clause-finds g c =
    made g.S.Store c.args.conn.now c.range.new.conn None _ (FindsRange c.as_str-meter.result.now) (IsStanding c.args.row.now) HasReadableMeters (λ facts. HasReadableMeters facts × (opening : Opening) × IsRowOf facts opening c.args.row.now)
    (become g.S.Store c.args.conn.now c.range.new.conn c.in_ok-counts.field-0 None _ HasReadableMeters c.in_default.is c.in_ok-counts.ensures) (λ facts none. tt)
    (λ facts none. λ s. no_opening facts s.1 c.args.row.now c.as_str-meter.result.now c.as_str-meter.ensures.value s.2 none)

pub returns-in_err-first-clause-finds : goal.returns-in_err-first-clause-finds
returns-in_err-first-clause-finds g c =
    passed_on g.S.Store c.args.conn.now c.first_entry.new.conn c.in_err-first.field-0.0 c.from_residual-in_err-first.result _ (IsStanding c.args.row.now) HasReadableMeters (λ facts. HasReadableMeters facts × (opening : Opening) × IsRowOf facts opening c.args.row.now)
    (finds_then g.S.Store c.args.conn.now c.range.new.conn c.first_entry.new.conn c.in_ok-counts.field-0 (Err c.in_err-first.field-0.0) _ _ HasReadableMeters HasReadableMeters c.in_ok-counts.ensures c.in_err-first.ensures) (λ facts s. s.0)
    c.from_residual-in_err-first.ensures.1

pub returns-in_default-2-clause-finds : goal.returns-in_default-2-clause-finds
returns-in_default-2-clause-finds g c =
    made g.S.Store c.args.conn.now c.first_entry.new.conn None _ _ (IsStanding c.args.row.now) HasReadableMeters (λ facts. HasReadableMeters facts × (opening : Opening) × IsRowOf facts opening c.args.row.now)
    (finds_then g.S.Store c.args.conn.now c.range.new.conn c.first_entry.new.conn c.in_ok-counts.field-0 (Ok None) (FindsRange c.as_str-meter.result.now) (FindsFirst c.as_str-meter.result.now) HasReadableMeters HasReadableMeters c.in_ok-counts.ensures
    (become g.S.Store c.range.new.conn c.first_entry.new.conn c.in_ok-first.field-0 None _ HasReadableMeters c.in_default-2.is c.in_ok-first.ensures)) (λ facts none. tt)
    (λ facts none. λ s. no_opening facts s.1 c.args.row.now c.as_str-meter.result.now c.as_str-meter.ensures.value s.2 none.1)

pub returns-in_err-opening-clause-finds : goal.returns-in_err-opening-clause-finds
returns-in_err-opening-clause-finds g c =
    unread g.S.Store c.args.conn.now c.first_entry.new.conn c.in_ok-first.field-0 c.in_err-opening.field-0.0 c.from_residual-in_err-opening.result _ (IsStanding c.args.row.now) HasReadableMeters (λ facts. HasReadableMeters facts × (opening : Opening) × IsRowOf facts opening c.args.row.now)
    (finds_then g.S.Store c.args.conn.now c.range.new.conn c.first_entry.new.conn c.in_ok-counts.field-0 (Ok c.in_ok-first.field-0) (FindsRange c.as_str-meter.result.now) (FindsFirst c.as_str-meter.result.now) HasReadableMeters HasReadableMeters c.in_ok-counts.ensures c.in_ok-first.ensures)
    (λ facts h. damaged_fault _ c.in_err-opening.field-0.0 (c.in_err-opening.ensures.fault.0, λ s. c.in_err-opening.ensures.fault.1 (named_row facts s.1 c.args.row.now s.2 s.0.names))) c.from_residual-in_err-opening.ensures.1

pub returns-clause-finds : goal.returns-clause-finds
returns-clause-finds g c =
    made g.S.Store c.args.conn.now c.first_entry.new.conn c.in_ok-first.field-0 c.installed.result _ (IsStanding c.args.row.now) HasReadableMeters (λ facts. HasReadableMeters facts × (opening : Opening) × IsRowOf facts opening c.args.row.now)
    (finds_then g.S.Store c.args.conn.now c.range.new.conn c.first_entry.new.conn c.in_ok-counts.field-0 (Ok c.in_ok-first.field-0) (FindsRange c.as_str-meter.result.now) (FindsFirst c.as_str-meter.result.now) HasReadableMeters HasReadableMeters c.in_ok-counts.ensures c.in_ok-first.ensures)
    (λ facts h. IfOk-weaker c.installed.result (λ found. found ≡ standing_from c.in_ok-opening.opening c.args.row.now.row) (IsStanding c.args.row.now facts) (λ found is.
    standing_found facts c.args.row.now c.as_str-meter.result.now c.in_ok-counts.field-0 c.in_ok-first.field-0 c.in-Some.counts c.in-Some-2.first c.in_ok-opening.opening found c.as_str-meter.ensures.value c.in-Some.is c.in-Some-2.is
    c.in_ok-opening.ensures.opening h.0 h.1 is) c.installed.ensures.stands)
    (λ facts h. on_err c.installed.result (λ e why. damaged_fault _ e (
      why.0,
      λ s.
          not_unsound c.installations_are_in_range.ensures facts s.1 c.args.row.now c.in_ok-opening.opening s.0.lawful s.2
          (opening_made facts s.1 c.args.row.now c.as_str-meter.result.now c.in_ok-counts.field-0 c.in_ok-first.field-0 c.in-Some.counts c.in-Some-2.first c.in_ok-opening.opening c.as_str-meter.ensures.value c.in-Some.is c.in-Some-2.is c.in_ok-opening.ensures.opening h.0 h.1 s.2)
          why.1,
    )) c.installed.ensures.fault)

use Rattle.std.proofs.Common.{[], ◌≡◌, Ok, Err, Some, None, IsUtf8, sym, ap, subst, ◌∙◌}
use Rattle.office_books.specs.Facts.{opening_of}
use Rattle.office_books.specs.Meters.{meter_of}
use Rattle.office_store.specs.Metering.Meters.{FindsRow, IsStanding}
use Rattle.office_store.specs.Metering.Sound.{HasReadableMeters}
use Rattle.office_store.proofs.FindingLemmas.Found.{answered, become, passed_on, finds_then, fails_then, unnamed}
use Rattle.office_store.proofs.MeteringLemmas.Found.{found_is, found_row, none_found}
use Rattle.office_store.proofs.metering.meters.meter.Goals as goal

pub returns-in_err-meter-clause-finds : goal.returns-in_err-meter-clause-finds
returns-in_err-meter-clause-finds g c =
    unnamed g.S.Store c.args.conn.now c.in_err-meter.field-0.0 c.from_residual.result (λ facts found. found ≡ meter_of facts c.args.name.now) (IsUtf8 c.args.name.now) (λ facts. IsUtf8 c.args.name.now × HasReadableMeters facts) (λ facts s. s.0) c.in_err-meter.ensures.fault c.from_residual.ensures.1

pub returns-in_err-row_of-clause-finds : goal.returns-in_err-row_of-clause-finds
returns-in_err-row_of-clause-finds g c =
    passed_on g.S.Store c.args.conn.now c.row_of.new.conn c.in_err-row_of.field-0.0 c.from_residual-in_err-row_of.result _ (λ facts found. found ≡ meter_of facts c.args.name.now) HasReadableMeters (λ facts. IsUtf8 c.args.name.now × HasReadableMeters facts) c.in_err-row_of.ensures (λ facts s. s.1) c.from_residual-in_err-row_of.ensures.1

pub returns-in-None-clause-finds : goal.returns-in-None-clause-finds
returns-in-None-clause-finds g c =
    answered g.S.Store c.args.conn.now c.row_of.new.conn None None _ (λ facts found. found ≡ meter_of facts c.args.name.now) HasReadableMeters (λ facts. IsUtf8 c.args.name.now × HasReadableMeters facts)
    (become g.S.Store c.args.conn.now c.row_of.new.conn c.in_ok-row_of.field-0 None _ HasReadableMeters c.in-None.is c.in_ok-row_of.ensures)
    (λ facts finds. none_found facts (opening_of facts c.in_ok-meter.meter.now) finds ∙ ap (meter_of facts) c.in_ok-meter.ensures.text)

pub standing-requires : goal.standing-requires
standing-requires g c = (c.in_ok-row_of.ensures.looks []).mode c.requires

pub returns-in_err-standing-in-Some-clause-finds : goal.returns-in_err-standing-in-Some-clause-finds
returns-in_err-standing-in-Some-clause-finds g c =
    fails_then g.S.Store c.args.conn.now c.row_of.new.conn c.standing.new.conn (Some c.in-Some.row) c.in_err-standing-in-Some.field-0.0 c.from_residual-in_err-standing-in-Some.result _ (IsStanding c.in-Some.row) (λ facts found. found ≡ meter_of facts c.args.name.now) HasReadableMeters _ (λ facts. IsUtf8 c.args.name.now × HasReadableMeters facts)
    (become g.S.Store c.args.conn.now c.row_of.new.conn c.in_ok-row_of.field-0 (Some c.in-Some.row) _ HasReadableMeters c.in-Some.is c.in_ok-row_of.ensures) c.in_err-standing-in-Some.ensures.finds
    (λ facts finds s. let of = found_row facts (opening_of facts c.in_ok-meter.meter.now) c.in-Some.row finds in (s.1, of.0, of.1)) c.from_residual-in_err-standing-in-Some.ensures.1

pub returns-in_ok-standing-in-Some-clause-finds : goal.returns-in_ok-standing-in-Some-clause-finds
returns-in_ok-standing-in-Some-clause-finds g c =
    answered g.S.Store c.args.conn.now c.standing.new.conn c.in_ok-standing-in-Some.field-0 (Some c.in_ok-standing-in-Some.field-0) _ (λ facts found. found ≡ meter_of facts c.args.name.now) _ (λ facts. IsUtf8 c.args.name.now × HasReadableMeters facts)
    (finds_then g.S.Store c.args.conn.now c.row_of.new.conn c.standing.new.conn c.in_ok-row_of.field-0 (Ok c.in_ok-standing-in-Some.field-0) _ _ HasReadableMeters _ c.in_ok-row_of.ensures c.in_ok-standing-in-Some.ensures.finds)
    (λ facts h. found_is facts (opening_of facts c.in_ok-meter.meter.now) c.in_ok-row_of.field-0 c.in-Some.row c.in_ok-standing-in-Some.field-0 c.in-Some.is h.0 h.1 ∙ ap (meter_of facts) c.in_ok-meter.ensures.text)

use Rattle.std.proofs.Common.{[], ◌≡◌, Ok, Err, Some, None, IsUtf8, sym, ap, subst, ◌∙◌}
use Rattle.office_books.specs.Facts.{installed_at}
use Rattle.office_books.specs.Meters.{installation_at}
use Rattle.office_store.specs.Metering.Meters.{FindsRow, IsStanding}
use Rattle.office_store.specs.Metering.Sound.{HasReadableMeters}
use Rattle.office_store.proofs.FindingLemmas.Found.{answered, become, passed_on, finds_then, fails_then, unnamed}
use Rattle.office_store.proofs.MeteringLemmas.Found.{found_is, found_row, none_found}
use Rattle.office_store.proofs.metering.meters.installation.Goals as goal

pub returns-in_err-register-clause-finds : goal.returns-in_err-register-clause-finds
returns-in_err-register-clause-finds g c =
    unnamed g.S.Store c.args.conn.now c.in_err-register.field-0.0 c.from_residual.result (λ facts found. found ≡ installation_at facts c.args.register.now) (IsUtf8 c.args.register.now) (λ facts. IsUtf8 c.args.register.now × HasReadableMeters facts) (λ facts s. s.0) c.in_err-register.ensures.fault c.from_residual.ensures.1

pub returns-in_err-row_at-clause-finds : goal.returns-in_err-row_at-clause-finds
returns-in_err-row_at-clause-finds g c =
    passed_on g.S.Store c.args.conn.now c.row_at.new.conn c.in_err-row_at.field-0.0 c.from_residual-in_err-row_at.result _ (λ facts found. found ≡ installation_at facts c.args.register.now) HasReadableMeters (λ facts. IsUtf8 c.args.register.now × HasReadableMeters facts) c.in_err-row_at.ensures (λ facts s. s.1) c.from_residual-in_err-row_at.ensures.1

pub returns-in-None-clause-finds : goal.returns-in-None-clause-finds
returns-in-None-clause-finds g c =
    answered g.S.Store c.args.conn.now c.row_at.new.conn None None _ (λ facts found. found ≡ installation_at facts c.args.register.now) HasReadableMeters (λ facts. IsUtf8 c.args.register.now × HasReadableMeters facts)
    (become g.S.Store c.args.conn.now c.row_at.new.conn c.in_ok-row_at.field-0 None _ HasReadableMeters c.in-None.is c.in_ok-row_at.ensures)
    (λ facts finds. none_found facts (installed_at facts c.in_ok-register.register.now) finds ∙ ap (installation_at facts) c.in_ok-register.ensures.text)

pub standing-requires : goal.standing-requires
standing-requires g c = (c.in_ok-row_at.ensures.looks []).mode c.requires

pub returns-in_err-standing-in-Some-clause-finds : goal.returns-in_err-standing-in-Some-clause-finds
returns-in_err-standing-in-Some-clause-finds g c =
    fails_then g.S.Store c.args.conn.now c.row_at.new.conn c.standing.new.conn (Some c.in-Some.row) c.in_err-standing-in-Some.field-0.0 c.from_residual-in_err-standing-in-Some.result _ (IsStanding c.in-Some.row) (λ facts found. found ≡ installation_at facts c.args.register.now) HasReadableMeters _ (λ facts. IsUtf8 c.args.register.now × HasReadableMeters facts)
    (become g.S.Store c.args.conn.now c.row_at.new.conn c.in_ok-row_at.field-0 (Some c.in-Some.row) _ HasReadableMeters c.in-Some.is c.in_ok-row_at.ensures) c.in_err-standing-in-Some.ensures.finds
    (λ facts finds s. let of = found_row facts (installed_at facts c.in_ok-register.register.now) c.in-Some.row finds in (s.1, of.0, of.1)) c.from_residual-in_err-standing-in-Some.ensures.1

pub returns-in_ok-standing-in-Some-clause-finds : goal.returns-in_ok-standing-in-Some-clause-finds
returns-in_ok-standing-in-Some-clause-finds g c =
    answered g.S.Store c.args.conn.now c.standing.new.conn c.in_ok-standing-in-Some.field-0 (Some c.in_ok-standing-in-Some.field-0) _ (λ facts found. found ≡ installation_at facts c.args.register.now) _ (λ facts. IsUtf8 c.args.register.now × HasReadableMeters facts)
    (finds_then g.S.Store c.args.conn.now c.row_at.new.conn c.standing.new.conn c.in_ok-row_at.field-0 (Ok c.in_ok-standing-in-Some.field-0) _ _ HasReadableMeters _ c.in_ok-row_at.ensures c.in_ok-standing-in-Some.ensures.finds)
    (λ facts h. found_is facts (installed_at facts c.in_ok-register.register.now) c.in_ok-row_at.field-0 c.in-Some.row c.in_ok-standing-in-Some.field-0 c.in-Some.is h.0 h.1 ∙ ap (installation_at facts) c.in_ok-register.ensures.text)

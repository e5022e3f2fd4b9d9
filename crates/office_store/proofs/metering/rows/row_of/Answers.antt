use Rattle.office_books.specs.Facts.{openings_in, opening_of}
use Rattle.store_tables.specs.Answer.{IsFound}
use Rattle.store_tables.specs.Meters.Trees.{installations}
use Rattle.store_tables.specs.Meters.Rows.{installed_columns, is_meter, IsInstalled, IsSoundInstalled}
use Rattle.office_store.specs.Rows.{placed, installed_row}
use Rattle.office_store.specs.Metering.Meters.{FindsRow}
use Rattle.office_store.proofs.MeteringLemmas.Found.{row_found}
use Rattle.office_store.specs.Metering.Sound.{HasReadableMeters}
use Rattle.office_store.proofs.FindingLemmas.Looking.{not_touched, reported_of}
use Rattle.office_store.proofs.metering.rows.row_of.Goals as goal

pub returns-in_err-check_open : goal.returns-in_err-check_open
returns-in_err-check_open g c =
    not_touched g.S.Store c.args.conn.now c.check_open.new.conn c.in_err-check_open.field-0.0 c.from_residual.result (λ facts found. FindsRow facts (opening_of facts c.args.meter.now) found) HasReadableMeters
    c.in_err-check_open.ensures.autocommit c.in_err-check_open.ensures.kept c.in_err-check_open.ensures.survives c.in_err-check_open.ensures.fails c.from_residual.ensures.1

pub returns : goal.returns
returns g c =
    reported_of g.S.Store c.args.conn.now c.check_open.new.conn (record { mode = c.in_ok-check_open.ensures.autocommit; opened = c.in_ok-check_open.ensures.opened; kept = c.in_ok-check_open.ensures.kept; survives = c.in_ok-check_open.ensures.survives })
    c.installation_of.new.conn installations installed_columns IsSoundInstalled c.installation_of.result (IsFound (is_meter c.args.meter.now) IsInstalled) c.installation_of.ensures.finds (λ facts found. FindsRow facts (opening_of facts c.args.meter.now) found) HasReadableMeters
    (λ zone facts content are. record { rows = placed (installed_row facts) (openings_in facts); there = are.installations; reports = row_found facts c.args.meter.now are.lawful; sound = λ s. s.installations })

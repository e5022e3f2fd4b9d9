use Rattle.office_books.specs.Facts.{openings_in}
use Rattle.store_tables.specs.Answer.{IsLast, every}
use Rattle.store_tables.specs.Meters.Trees.{installations}
use Rattle.store_tables.specs.Meters.Rows.{installed_columns, installed_place, HasInstalledPlace, IsSoundInstalled}
use Rattle.office_store.specs.Rows.{placed, installed_row}
use Rattle.office_store.specs.Metering.Meters.{CountsOpenings}
use Rattle.office_store.proofs.MeteringLemmas.Found.{counted}
use Rattle.office_store.specs.Metering.Sound.{HasReadableMeters}
use Rattle.office_store.proofs.FindingLemmas.Looking.{not_touched, reported_of}
use Rattle.office_store.proofs.metering.meters.last_place.Goals as goal

pub returns-in_err-check_open : goal.returns-in_err-check_open
returns-in_err-check_open g c =
    not_touched g.S.Store c.args.conn.now c.check_open.new.conn c.in_err-check_open.field-0.0 c.from_residual.result CountsOpenings HasReadableMeters
    c.in_err-check_open.ensures.autocommit c.in_err-check_open.ensures.kept c.in_err-check_open.ensures.survives c.in_err-check_open.ensures.fails c.from_residual.ensures.1

pub returns : goal.returns
returns g c =
    reported_of g.S.Store c.args.conn.now c.check_open.new.conn (record { mode = c.in_ok-check_open.ensures.autocommit; opened = c.in_ok-check_open.ensures.opened; kept = c.in_ok-check_open.ensures.kept; survives = c.in_ok-check_open.ensures.survives })
    c.last_installation.new.conn installations installed_columns IsSoundInstalled c.last_installation.result (IsLast every HasInstalledPlace installed_place) c.last_installation.ensures.finds CountsOpenings HasReadableMeters
    (λ zone facts content are. record { rows = placed (installed_row facts) (openings_in facts); there = are.installations; reports = counted facts; sound = λ s. s.installations })

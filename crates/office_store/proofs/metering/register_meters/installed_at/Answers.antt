use Rattle.store_tables.specs.Meters.Rows.{installed_shown, IsInstalled, IsSoundInstalled}
use Rattle.office_store.specs.Metering.RegisterMeters.{rows_at}
use Rattle.office_store.proofs.FindingLemmas.Found.{rows_read}
use Rattle.office_store.proofs.MeteringLemmas.RegisterMeters.{rows_sound, rows_are}
use Rattle.office_store.proofs.metering.register_meters.installed_at.Goals as goal

pub returns : goal.returns
returns g c =
    rows_read g.S.Store c.args.conn.now c.rows_at.new.conn c.in_ok-rows.rows c.in_ok-rows.rows.items installed_shown IsInstalled IsSoundInstalled (λ v. v.items) c.installed_in.result (rows_at c.args.register.now) _ _ _ _
    c.in_ok-rows.ensures c.installed_in.ensures (λ facts are. are.1) (λ facts sound. rows_sound facts c.args.register.now sound)
    (λ facts v are each. rows_are facts c.args.register.now v.items are.0 each)

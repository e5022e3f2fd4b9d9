use Rattle.std.proofs.Common.{ap, ◌∙◌}
use Rattle.store_tables.specs.Answer.{LastFirst, every}
use Rattle.store_tables.specs.Limits.{greatest_place}
use Rattle.store_tables.specs.Columns.{first_in}
use Rattle.store_tables.proofs.Selects.{found_none, last_some}
use Rattle.store_tables.proofs.LookUps.{looked_number, refused}
use Rattle.store_tables.specs.Meters.Rows.{HasInstalledPlace, IsSoundInstalled, installed_columns, installed_place, installed_place_shown}
use Rattle.store_tables.specs.Meters.Trees.{installations}
use Rattle.store_tables.proofs.MetersLemmas.ReadRows as reading
use Rattle.store_tables.proofs.meters.installations.last_installation.Goals as goal

pub returns-clause-finds : goal.returns-clause-finds
returns-clause-finds g c =
    looked_number g.S.Store c.args.conn.now c.last_rows.new.conn installations installed_columns IsSoundInstalled c.in_ok-rows.ensures.asks every (LastFirst installed_place) installed_place_shown c.in_ok-rows.rows.items c.in_ok-rows.ensures.shows _
    1 greatest_place installed_place reading.reads_installed_place (found_none every HasInstalledPlace (LastFirst installed_place)) (last_some every HasInstalledPlace installed_place) c.first_whole.result (c.first_whole.ensures.read ∙ ap (first_in 1 greatest_place) c.deref.ensures.value)

pub returns-clause-sound : goal.returns-clause-sound
returns-clause-sound g c = c.first_whole.ensures.bounds

pub returns-in_err-rows-clause-finds : goal.returns-in_err-rows-clause-finds
returns-in_err-rows-clause-finds g c =
    refused g.S.Store c.args.conn.now c.last_rows.new.conn installations installed_columns IsSoundInstalled _ c.in_err-rows.ensures.asks c.in_err-rows.field-0.0 c.from_residual.result c.in_err-rows.ensures.shows c.from_residual.ensures.1

use Rattle.std.proofs.Common.{◌∙◌, sym, ap}
use Rattle.sqlite.specs.Order.{column}
use Rattle.store_tables.specs.Upgrade.{text_in}
use Rattle.stored_files.proofs.carries.zones.zone_of.Goals as goal

pub returns-in-Ok : goal.returns-in-Ok
returns-in-Ok c = λ m is. ap text_in (sym c.in-Ok.ensures.read ∙ ap (λ row. column row 0) is)

use Rattle.std.proofs.Common.{◌∙◌, sym, subst}
use Rattle.std.proofs.lemmas.Result.{IfOk-weaker}
use Rattle.store_tables.specs.Content.{AreTablesIn}
use Rattle.store_tables.specs.Layouts.{schema_of, version_of}
use Rattle.store_tables.specs.Meta.{Meta}
use Rattle.stored_files.proofs.carries.zones.zone_of_open.Goals as goal

pub returns-in-Ok-clause-reports : goal.returns-in-Ok-clause-reports
returns-in-Ok-clause-reports g c clean layout zone content settled file =
    let m : Meta = record { version = version_of layout; zone = zone } in
    let shown = c.in-Ok.ensures.shows clean layout content (subst (λ d. AreTablesIn (schema_of layout) d content) (sym settled) file.tables) in
    IfOk-weaker c.zone_in.result _ _ (λ reported is. record { bytes = is; same = shown.0.0.committed_is })
    (c.zone_in.ensures m (c.deref.ensures.value ∙ shown.1 m file.marked))

use Rattle.std.proofs.Common.{◌∙◌, sym, subst}
use Rattle.std.proofs.lemmas.Result.{IfOk-weaker}
use Rattle.store_tables.specs.Upgrade.{IsFile}
use Rattle.stored_files.proofs.carries.zones.zone_of_file.Goals as goal

pub returns-in-Ok-clause-reports : goal.returns-in-Ok-clause-reports
returns-in-Ok-clause-reports g c clean layout zone content file =
    let early = c.zone_of_open.ensures.clean clean in
    let answers = c.in-Ok.ensures.opened early in
    let same = (c.in-Ok.ensures.kept early).committed answers.0 in
    IfOk-weaker c.zone_of_open.result _ _ (λ reported it. record { bytes = it.bytes; same = it.same ∙ same })
    (c.zone_of_open.ensures.reports clean layout zone content answers.1 (subst (λ d. IsFile layout zone d content) (sym same) file))

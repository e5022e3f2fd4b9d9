use Rattle.std.proofs.Common.{◌↔◌, subst}
use Rattle.std.specs.Prelude.{IsTrue}
use Rattle.meter_journal.specs.Audit.CarriedFiles.{GoesOnAs}
use Rattle.office_books.specs.Meters.{installed}
use Rattle.carried_books.proofs.JoiningLemmas.Meters.{goes_on_by}
use Rattle.carried_books.proofs.joining.meters.goes_on.Goals as goal

pub returns : goal.returns
returns c =
    let asks = subst (λ next. IsTrue c.goes_on_as.result ↔ GoesOnAs c.installed-stood.result c.args.stands.now.last c.args.stands.now.ended next) c.installed-next.ensures c.goes_on_as.ensures in
    goes_on_by c.args.stands.now c.args.row.now c.is-is_one.result c.goes_on_as.result c.both.result c.both.ensures c.is-is_one.ensures
    (subst (λ stood. IsTrue c.goes_on_as.result ↔ GoesOnAs stood c.args.stands.now.last c.args.stands.now.ended (installed c.args.row.now.opening)) c.installed-stood.ensures asks)

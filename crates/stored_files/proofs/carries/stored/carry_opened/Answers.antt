use Rattle.stored_files.proofs.CarriesLemmas.GoingOn.{goes_on_from}
use Rattle.stored_files.proofs.carries.stored.carry_opened.Goals as goal

pub returns-in-Ok : goal.returns-in-Ok
returns-in-Ok g c = λ its facts has.
    goes_on_from g.S.Store c.args.old facts its c.args.zone.now c.args.until c.args.new c.in-Ok.books c.carry_into_created.result
    c.in-Ok.ensures.clean (c.in-Ok.ensures.again its facts has) c.carry_into_created.ensures

use Rattle.std.proofs.Common.{◌∙◌}
use Rattle.office_books.specs.History.{facts_of}
use Rattle.stored_files.proofs.CarriesLemmas.GoingOn.{carried_into, is_reported, still_has}
use Rattle.stored_files.proofs.carries.stored.carry_stored.Goals as goal

pub returns-in-Ok-clause-carried : goal.returns-in-Ok-clause-carried
returns-in-Ok-clause-carried g c past has =
    let facts = facts_of past in
    let mid = c.read_zone_text.new.connection in
    let reported = is_reported g.S.Store c.args.old mid has.zone facts c.in-Ok.zone has.has c.in-Ok.ensures.clean c.in-Ok.ensures.reports in
    carried_into g.S.Store mid facts c.deref.result.now has.zone c.args.until c.args.new c.carry_opened.result
    (λ clean. c.deref.ensures ∙ reported clean)
    (c.carry_opened.ensures has.zone facts (still_has g.S.Store c.args.old mid has.zone facts c.in-Ok.zone has.has c.in-Ok.ensures.clean c.in-Ok.ensures.reports))

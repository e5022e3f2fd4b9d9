use Rattle.std.proofs.Common.{Some, None, sym, subst, ◌∙◌}
use Rattle.office_events.specs.declared.questions.EntryContext.{EntryContext}
use Rattle.std.specs.Prelude.{◌≡◌}
use Rattle.office_books.specs.Near.{ReportsNear}
use Rattle.office_books.proofs.Within.{within_whole, reports_near, reports_none}
use Rattle.memory_books.proofs.tables.meters.Meters.entry_near.Goals as goal

pub returns-in_default-clause-found : goal.returns-in_default-clause-found
returns-in_default-clause-found c = λ known lawful are.
    reports_none known c.args.name.now c.args.place (sym c.in_default.is ∙ c.row.ensures.found known lawful are)
    (within_whole c.journals_are_kept.ensures c.places_were_kept.ensures known lawful c.args.name.now c.args.place)

pub returns-in_default-entry-clause-found : goal.returns-in_default-entry-clause-found
returns-in_default-entry-clause-found c = λ known lawful are.
    reports_near known c.args.name.now c.args.place c.in-Some.whole None (sym c.in-Some.is ∙ c.row.ensures.found known lawful are)
    (sym c.in_default-entry.is ∙ c.entry.ensures.found known lawful are)
    (within_whole c.journals_are_kept.ensures c.places_were_kept.ensures known lawful c.args.name.now c.args.place)

pub returns-clause-found : goal.returns-clause-found
returns-clause-found c = λ known lawful are.
    subst (λ (p : EntryContext). ReportsNear known c.args.name.now c.args.place (Some p)) (sym c.with_whole_energy.ensures.same)
    (reports_near known c.args.name.now c.args.place c.in-Some.whole (Some c.in-Some-entry.found) (sym c.in-Some.is ∙ c.row.ensures.found known lawful are)
    (sym c.in-Some-entry.is ∙ c.entry.ensures.found known lawful are)
    (within_whole c.journals_are_kept.ensures c.places_were_kept.ensures known lawful c.args.name.now c.args.place))

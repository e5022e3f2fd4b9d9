use Rattle.std.proofs.Common.{Some, IsUtf8, sym, subst, ◌∙◌}
use Rattle.office_events.specs.declared.questions.EntryContext.{EntryContext}
use Rattle.office_books.specs.Lawful.{AreLawful}
use Rattle.office_books.specs.Near.{ReportsNear}
use Rattle.office_books.proofs.Within.{reports_near, within_whole}
use Rattle.office_store.specs.Metering.Around.{ReportsOf}
use Rattle.office_store.specs.Metering.Sound.{HasReadableJournals}
use Rattle.office_store.proofs.FindingLemmas.Found.{answered}
use Rattle.office_store.proofs.metering.around.entry_from_all_rows.Goals as goal

pub returns-in-Some-clause-finds : goal.returns-in-Some-clause-finds
returns-in-Some-clause-finds g c =
    answered g.S.Store c.args.conn.now c.entry.new.conn c.in_ok-entry.field-0 (Some c.with_whole_energy.result) _ (λ facts found. AreLawful facts → ReportsOf c.args.name.now c.args.place c.args.whole.now facts found) _ (λ facts. IsUtf8 c.args.name.now × HasReadableJournals facts)
    c.in_ok-entry.ensures.finds
    (λ facts is lawful whole_is.
    subst (λ (p : EntryContext). ReportsNear facts c.args.name.now c.args.place (Some p)) (sym c.with_whole_energy.ensures.same)
    (reports_near facts c.args.name.now c.args.place c.args.whole.now (Some c.in-Some.found) whole_is (sym c.in-Some.is ∙ is) (within_whole c.journals_are_kept.ensures c.places_were_kept.ensures facts lawful c.args.name.now c.args.place)))

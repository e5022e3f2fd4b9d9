use Rattle.std.proofs.Common.{◌≡◌, Option, Some, Ok, Err, [], IsUtf8, IfSome, List, ℕ, ap, sym, subst, ◌∙◌}
use Rattle.office_events.specs.declared.questions.EntryContext.{EntryContext}
use Rattle.office_books.specs.Lawful.{AreLawful}
use Rattle.office_books.specs.Meters.{meter_of}
use Rattle.office_books.specs.Near.{ReportsNear}
use Rattle.office_store.specs.Metering.Around.{ReportsOf, ReportsRightly}
use Rattle.office_store.specs.Metering.Sound.{HasReadableJournals}
use Rattle.office_store.proofs.FindingLemmas.Found.{answered, passed_on, finds_then, found_then}
use Rattle.office_store.proofs.metering.around.entry_near.Goals as goal

pub entry_from_neighbours-requires : goal.entry_from_neighbours-requires
entry_from_neighbours-requires g c = (c.in_ok-whole.ensures.finds.looks []).mode c.requires

pub returns-in_err-found-clause-finds : goal.returns-in_err-found-clause-finds
returns-in_err-found-clause-finds g c =
    passed_on g.S.Store c.args.conn.now c.entry_from_neighbours.new.conn c.in_err-found.field-0.0 c.from_residual-in_err-found.result _ (λ facts found. ReportsNear facts c.args.name.now c.args.place found) HasReadableJournals (λ facts. IsUtf8 c.args.name.now × HasReadableJournals facts)
    (finds_then g.S.Store c.args.conn.now c.meter.new.conn c.entry_from_neighbours.new.conn c.in_ok-whole.field-0 (Err c.in_err-found.field-0.0) _ _ _ HasReadableJournals c.in_ok-whole.ensures.finds c.in_err-found.ensures.finds)
    (λ facts s. s.1) c.from_residual-in_err-found.ensures.1

pub entry_from_all_rows-requires-clause-idle : goal.entry_from_all_rows-requires-clause-idle
entry_from_all_rows-requires-clause-idle g c = (c.in_ok-found.ensures.finds.looks []).mode ((c.in_ok-whole.ensures.finds.looks []).mode c.requires)

pub returns-in-Some-2-clause-finds : goal.returns-in-Some-2-clause-finds
returns-in-Some-2-clause-finds g c =
    answered g.S.Store c.args.conn.now c.entry_from_neighbours.new.conn c.in_ok-found.field-0 (Some c.in-Some-2.found) _ (λ facts found. ReportsNear facts c.args.name.now c.args.place found) HasReadableJournals (λ facts. IsUtf8 c.args.name.now × HasReadableJournals facts)
    (finds_then g.S.Store c.args.conn.now c.meter.new.conn c.entry_from_neighbours.new.conn c.in_ok-whole.field-0 (Ok c.in_ok-found.field-0) (λ facts found. found ≡ meter_of facts c.args.name.now) (ReportsRightly c.in_ok-text.text.now c.args.place c.in-Some.whole) _ HasReadableJournals c.in_ok-whole.ensures.finds c.in_ok-found.ensures.finds)
    (λ facts h.
    let reported : ReportsOf c.in_ok-text.text.now c.args.place c.in-Some.whole facts (Some c.in-Some-2.found) =
    subst (λ (f : Option EntryContext). IfSome f (λ p. ReportsOf c.in_ok-text.text.now c.args.place c.in-Some.whole facts (Some p))) c.in-Some-2.is h.1.right in
    subst (λ (m : List ℕ). ReportsNear facts m c.args.place (Some c.in-Some-2.found)) c.in_ok-text.ensures.text (reported (sym c.in-Some.is ∙ h.0 ∙ ap (meter_of facts) (sym c.in_ok-text.ensures.text))))

pub returns-in-None-clause-finds : goal.returns-in-None-clause-finds
returns-in-None-clause-finds g c =
    found_then g.S.Store c.args.conn.now c.entry_from_neighbours.new.conn c.entry_from_all_rows.new.conn c.in_ok-found.field-0 c.entry_from_all_rows.result
    (λ facts found. (c.in_ok-whole.field-0 ≡ meter_of facts c.args.name.now) × ReportsRightly c.in_ok-text.text.now c.args.place c.in-Some.whole facts found)
    (λ facts found. AreLawful facts → ReportsOf c.args.name.now c.args.place c.in-Some.whole facts found) (λ facts found. ReportsNear facts c.args.name.now c.args.place found)
    HasReadableJournals (λ facts. IsUtf8 c.args.name.now × HasReadableJournals facts) (λ facts. IsUtf8 c.args.name.now × HasReadableJournals facts)
    (finds_then g.S.Store c.args.conn.now c.meter.new.conn c.entry_from_neighbours.new.conn c.in_ok-whole.field-0 (Ok c.in_ok-found.field-0) (λ facts found. found ≡ meter_of facts c.args.name.now) (ReportsRightly c.in_ok-text.text.now c.args.place c.in-Some.whole) _ HasReadableJournals c.in_ok-whole.ensures.finds c.in_ok-found.ensures.finds)
    c.entry_from_all_rows.ensures.finds (λ facts p s. s) (λ facts found p q. q p.1.lawful (sym c.in-Some.is ∙ p.0))

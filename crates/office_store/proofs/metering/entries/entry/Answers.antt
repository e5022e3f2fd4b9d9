use Rattle.std.proofs.Common.{◌≡◌, [], Ok, Err, Some, None, IsUtf8, ap, ◌∙◌, sym}
use Rattle.office_books.specs.Meters.{entry_at, meter_of}
use Rattle.office_store.specs.Metering.Sound.{HasReadableMeters, HasReadableJournals}
use Rattle.office_store.specs.Metering.Entries.{FindsJournal}
use Rattle.office_store.proofs.FindingLemmas.Found.{answered, become, passed_on, finds_then, less_reported, made, unnamed}
use Rattle.office_store.proofs.MeteringLemmas.Entering.{placed_is, no_entry, placed_fault}
use Rattle.office_store.proofs.metering.entries.entry.Goals as goal

pub returns-in_err-text-clause-finds : goal.returns-in_err-text-clause-finds
returns-in_err-text-clause-finds g c =
    unnamed g.S.Store c.args.conn.now c.in_err-text.field-0.0 c.from_residual.result (λ facts found. found ≡ entry_at facts c.args.name.now c.args.place) (IsUtf8 c.args.name.now) (λ facts. IsUtf8 c.args.name.now × HasReadableJournals facts) (λ facts s. s.0) c.in_err-text.ensures.fault c.from_residual.ensures.1

pub returns-in_err-whole-clause-finds : goal.returns-in_err-whole-clause-finds
returns-in_err-whole-clause-finds g c =
    passed_on g.S.Store c.args.conn.now c.meter.new.conn c.in_err-whole.field-0.0 c.from_residual-in_err-whole.result _ (λ facts found. found ≡ entry_at facts c.args.name.now c.args.place) (λ facts. IsUtf8 c.args.name.now × HasReadableMeters facts) (λ facts. IsUtf8 c.args.name.now × HasReadableJournals facts) c.in_err-whole.ensures.finds (λ facts s. (s.0, s.1.meters)) c.from_residual-in_err-whole.ensures.1

pub returns-in_default-clause-finds : goal.returns-in_default-clause-finds
returns-in_default-clause-finds g c =
    answered g.S.Store c.args.conn.now c.meter.new.conn None None (λ facts found. found ≡ meter_of facts c.args.name.now) (λ facts found. found ≡ entry_at facts c.args.name.now c.args.place) _ (λ facts. IsUtf8 c.args.name.now × HasReadableJournals facts)
    (become g.S.Store c.args.conn.now c.meter.new.conn c.in_ok-whole.field-0 None _ _ c.in_default.is c.in_ok-whole.ensures.finds) (λ facts none. no_entry facts c.args.name.now c.args.place none)

pub rows-requires : goal.rows-requires
rows-requires g c = (c.in_ok-whole.ensures.finds.looks []).mode c.requires

pub returns-in_err-rows-clause-finds : goal.returns-in_err-rows-clause-finds
returns-in_err-rows-clause-finds g c =
    passed_on g.S.Store c.args.conn.now c.rows.new.conn c.in_err-rows.field-0.0 c.from_residual-in_err-rows.result _ (λ facts found. found ≡ entry_at facts c.args.name.now c.args.place) HasReadableJournals (λ facts. IsUtf8 c.args.name.now × HasReadableJournals facts)
    (finds_then g.S.Store c.args.conn.now c.meter.new.conn c.rows.new.conn c.in_ok-whole.field-0 (Err c.in_err-rows.field-0.0) _ _ _ HasReadableJournals c.in_ok-whole.ensures.finds c.in_err-rows.ensures) (λ facts s. s.1) c.from_residual-in_err-rows.ensures.1

pub returns-clause-finds : goal.returns-clause-finds
returns-clause-finds g c =
    made g.S.Store c.args.conn.now c.rows.new.conn c.in_ok-rows.rows c.placed.result _ (λ facts found. found ≡ entry_at facts c.args.name.now c.args.place) HasReadableJournals (λ facts. IsUtf8 c.args.name.now × HasReadableJournals facts)
    (finds_then g.S.Store c.args.conn.now c.meter.new.conn c.rows.new.conn c.in_ok-whole.field-0 (Ok c.in_ok-rows.rows) (λ facts found. found ≡ meter_of facts c.args.name.now) (λ facts rows. FindsJournal c.in_ok-text.text.now facts rows.items) _ HasReadableJournals c.in_ok-whole.ensures.finds c.in_ok-rows.ensures)
    (λ facts h.
    placed_is facts c.args.name.now c.in_ok-text.text.now c.args.place c.in_ok-whole.field-0 c.in-Some.whole c.in_ok-rows.rows.items c.deref.result.now c.placed.result c.in-Some.is h.0 c.in_ok-text.ensures.text c.deref.ensures.value h.1
    (c.placed.ensures.found facts))
    (λ facts h.
    placed_fault c.installations_are_in_range.ensures c.journals_fit.ensures c.rows_are_kept.ensures c.places_were_kept.ensures facts c.args.name.now c.in_ok-text.text.now c.args.place c.in_ok-whole.field-0 c.in-Some.whole c.in_ok-rows.rows.items
    c.deref.result.now c.placed.result (IsUtf8 c.args.name.now × HasReadableJournals facts) (λ s. s.1.meters.lawful) c.in-Some.is h.0 c.in_ok-text.ensures.text c.deref.ensures.value h.1 c.placed.ensures.fault)

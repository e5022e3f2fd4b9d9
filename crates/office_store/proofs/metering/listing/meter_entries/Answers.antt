use Rattle.std.proofs.Common.{◌≡◌, [], Ok, Err, None, IsUtf8, reverse, refl, sym, subst, ◌∙◌}
use Rattle.std.proofs.lemmas.Result.{IfOk-weaker}
use Rattle.meter_journal.specs.Lists.{latest_first}
use Rattle.office_books.specs.Entries.{entries_from, first_from, listed_rows}
use Rattle.office_books.specs.Meters.{meter_of}
use Rattle.store_tables.specs.Failing.{IsRowFault}
use Rattle.store_tables.proofs.Failures.{on_err}
use Rattle.office_store.specs.Metering.Sound.{HasReadableJournals}
use Rattle.office_store.specs.Metering.Entries.{FindsJournal}
use Rattle.office_store.proofs.FindingLemmas.Found.{answered, become, passed_on, finds_then, made}
use Rattle.office_store.proofs.MeteringLemmas.Listing.{no_entries, listed_is}
use Rattle.office_store.proofs.metering.listing.meter_entries.Goals as goal

pub returns-in_default : goal.returns-in_default
returns-in_default g c =
    answered g.S.Store c.args.conn.now c.meter.new.conn None c.new.result (λ facts found. found ≡ meter_of facts c.args.name.now) _ _ (λ facts. IsUtf8 c.args.name.now × HasReadableJournals facts)
    (become g.S.Store c.args.conn.now c.meter.new.conn c.in_ok-whole.field-0 None _ _ c.in_default.is c.in_ok-whole.ensures.finds)
    (λ facts none. c.new.ensures.items ∙ no_entries facts c.args.name.now c.args.from c.args.most none)

pub rows-requires : goal.rows-requires
rows-requires g c = (c.in_ok-whole.ensures.finds.looks []).mode c.requires

pub returns-in_err-rows : goal.returns-in_err-rows
returns-in_err-rows g c =
    passed_on g.S.Store c.args.conn.now c.rows.new.conn c.in_err-rows.field-0.0 c.from_residual-in_err-rows.result _ _ HasReadableJournals (λ facts. IsUtf8 c.args.name.now × HasReadableJournals facts)
    (finds_then g.S.Store c.args.conn.now c.meter.new.conn c.rows.new.conn c.in_ok-whole.field-0 (Err c.in_err-rows.field-0.0) _ _ _ HasReadableJournals c.in_ok-whole.ensures.finds c.in_err-rows.ensures) (λ facts s. s.1) c.from_residual-in_err-rows.ensures.1

pub returns : goal.returns
returns g c =
    made g.S.Store c.args.conn.now c.rows.new.conn c.in_ok-rows.rows c.listed.result _ _ HasReadableJournals (λ facts. IsUtf8 c.args.name.now × HasReadableJournals facts)
    (finds_then g.S.Store c.args.conn.now c.meter.new.conn c.rows.new.conn c.in_ok-whole.field-0 (Ok c.in_ok-rows.rows) (λ facts found. found ≡ meter_of facts c.args.name.now) (λ facts rows. FindsJournal c.in_ok-text.text.now facts rows.items) _ HasReadableJournals c.in_ok-whole.ensures.finds c.in_ok-rows.ensures)
    (λ facts h. IfOk-weaker c.listed.result (λ v. v.items ≡ first_from c.args.from c.args.most (reverse (listed_rows c.in-Some.whole.opening (latest_first c.deref.result.now)))) (λ v. v.items ≡ entries_from facts c.args.name.now c.args.from c.args.most)
    (λ v is. listed_is facts c.args.name.now c.in_ok-text.text.now c.args.from c.args.most c.in_ok-whole.field-0 c.in-Some.whole c.in_ok-rows.rows.items c.deref.result.now v.items c.in-Some.is h.0 c.in_ok-text.ensures.text c.deref.ensures.value h.1 is)
    c.listed.ensures.listed)
    (λ facts h. on_err c.listed.result (λ e why. subst (IsRowFault (IsUtf8 c.args.name.now × HasReadableJournals facts)) (sym why) refl) c.listed.ensures.fault)

use Rattle.std.proofs.Common.{[], Ok, Err}
use Rattle.std.proofs.lemmas.Result.{IfOk-weaker}
use Rattle.office_store.specs.Metering.Sound.{HasReadableJournals}
use Rattle.office_store.specs.Metering.Entries.{FindsJournal, AreJournal, ShowsEntries, ShowsVoids}
use Rattle.office_store.proofs.FindingLemmas.Found.{passed_on, finds_then, made}
use Rattle.office_store.proofs.MeteringLemmas.Entering.{journal_is, from_derefs, journal_fault}
use Rattle.office_store.proofs.metering.entries.rows.Goals as goal

pub voids-requires : goal.voids-requires
voids-requires g c = (c.in_ok-entries.ensures.looks []).mode c.requires

pub returns-in_err-entries : goal.returns-in_err-entries
returns-in_err-entries g c =
    passed_on g.S.Store c.args.conn.now c.entries.new.conn c.in_err-entries.field-0.0 c.from_residual.result _ (λ facts rows. FindsJournal c.args.meter.now facts rows.items) HasReadableJournals HasReadableJournals c.in_err-entries.ensures (λ facts s. s) c.from_residual.ensures.1

pub returns-in_err-voids : goal.returns-in_err-voids
returns-in_err-voids g c =
    passed_on g.S.Store c.args.conn.now c.voids.new.conn c.in_err-voids.field-0.0 c.from_residual-in_err-voids.result _ (λ facts rows. FindsJournal c.args.meter.now facts rows.items) HasReadableJournals HasReadableJournals
    (finds_then g.S.Store c.args.conn.now c.entries.new.conn c.voids.new.conn c.in_ok-entries.entries (Err c.in_err-voids.field-0.0) _ _ HasReadableJournals HasReadableJournals c.in_ok-entries.ensures c.in_err-voids.ensures) (λ facts s. s) c.from_residual-in_err-voids.ensures.1

pub returns : goal.returns
returns g c =
    made g.S.Store c.args.conn.now c.voids.new.conn c.in_ok-voids.voids c.journal_rows.result _ (λ facts rows. FindsJournal c.args.meter.now facts rows.items) HasReadableJournals HasReadableJournals
    (finds_then g.S.Store c.args.conn.now c.entries.new.conn c.voids.new.conn c.in_ok-entries.entries (Ok c.in_ok-voids.voids) (λ facts rows. ShowsEntries c.args.meter.now facts rows.items) (λ facts rows. ShowsVoids c.args.meter.now facts rows.items) HasReadableJournals HasReadableJournals c.in_ok-entries.ensures c.in_ok-voids.ensures)
    (λ facts h.
    IfOk-weaker c.journal_rows.result (λ rows. AreJournal c.deref.result.now c.deref-2.result.now rows.items) (λ rows. FindsJournal c.args.meter.now facts rows.items) (λ rows are.
    journal_is c.journals_fit.ensures c.rows_are_kept.ensures c.voids_change_two_rows.ensures facts c.args.meter.now c.in_ok-entries.entries.items c.in_ok-voids.voids.items rows.items h.0 h.1
    (from_derefs c.deref.result.now c.deref-2.result.now c.in_ok-entries.entries.items c.in_ok-voids.voids.items rows.items c.deref.ensures.value c.deref-2.ensures.value are)) c.journal_rows.ensures.journal)
    (λ facts h. journal_fault (HasReadableJournals facts) c.in_ok-entries.entries.items c.in_ok-voids.voids.items c.deref.result.now c.deref-2.result.now c.journal_rows.result c.deref.ensures.value c.deref-2.ensures.value h.0.entries h.1.voids h.0.shown h.1.shown c.journal_rows.ensures.fault (λ s. (h.0.sound s.meters, h.1.sound s)))

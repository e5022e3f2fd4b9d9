use Rattle.std.proofs.Common.{◌≤◌, ap, ◌∙◌, length, take_all, arith}
use Rattle.std.specs.List.{filter_map}
use Rattle.std.proofs.lemmas.List.{length-map}
use Rattle.store_tables.specs.Entries.Rows.{entry_shown}
use Rattle.office_store.specs.Metering.Entries.{row_among}
use Rattle.office_store.proofs.MeteringLemmas.Journals.{one_more}
use Rattle.office_store.proofs.MeteringLemmas.Marked.{next_shown}
use Rattle.std.proofs.Common.{◌<◌, get_or, subst, sym, refl, ◌≡◌}
use Rattle.std.specs.List.{AllByRecursion}
use Rattle.store_tables.proofs.Failures.{passed}
use Rattle.store_tables.proofs.ReadLemmas.{less_sound}
use Rattle.office_store.proofs.FindingLemmas.ReadRows.{at_element}
use Rattle.store_tables.specs.Failing.{IsRowFault}
use Rattle.store_tables.specs.Entries.Rows.{IsSoundEntered, IsSoundVoided}
use Rattle.office_store.specs.Metering.Entries.{IsFaultOfJournal}
use Rattle.office_store.proofs.metering.journal.journal_rows.Goals as goal

pub loop-row-preserved : goal.loop-row-preserved
loop-row-preserved c = λ es vs shown void.
    let it = next_shown entry_shown es c.args.entries.now c.loop-row.row-index c.row-item.result shown c.loop-row-test.true c.row-item.is in
    one_more vs es c.loop-row.row-index it.at c.in_ok-entry.entry c.in_ok-struck.struck c.entry_row.result c.loop-row.rows.items c.add.new.rows.items it.more
    (c.in_ok-entry.ensures.read.read it.at it.seen) (c.in_ok-struck.ensures.reported vs void) c.entry_row.ensures (c.loop-row.invariant es vs shown void) c.in_ok-add.ensures.put

pub returns-clause-journal : goal.returns-clause-journal
returns-clause-journal c = λ es vs shown void.
    let long = ap length shown in
    let same_length = length-map es entry_shown in
    let past = c.loop-row-test.false in
    let le : length es ≤ c.loop-row.row-index = omega (arith, long, same_length, past) in
    c.loop-row.invariant es vs shown void ∙ ap (filter_map (row_among vs)) (take_all c.loop-row.row-index es le)

pub returns-in_err-entry-clause-fault : goal.returns-in_err-entry-clause-fault
returns-in_err-entry-clause-fault c =
    passed (IsFaultOfJournal c.args.entries.now c.args.voids.now) c.in_err-entry.field-0.0 c.from_residual.result c.from_residual.ensures.1 (λ es vs shown void.
    let it = at_element entry_shown es c.loop-row.row-index c.row-item.result (subst (λ l. c.loop-row.row-index < length l) shown c.loop-row-test.true) (subst (λ l. c.row-item.result ≡ get_or l c.loop-row.row-index c.row-item.result) shown c.row-item.is) in
    less_sound (AllByRecursion IsSoundEntered es × AllByRecursion IsSoundVoided vs) (IsSoundEntered it.0) (λ s. it.2 IsSoundEntered s.0) c.in_err-entry.field-0.0 (c.in_err-entry.ensures.read.fault it.0 it.1))

pub returns-in_err-struck-clause-fault : goal.returns-in_err-struck-clause-fault
returns-in_err-struck-clause-fault c =
    passed (IsFaultOfJournal c.args.entries.now c.args.voids.now) c.in_err-struck.field-0.0 c.from_residual-in_err-struck.result c.from_residual-in_err-struck.ensures.1 (λ es vs shown void.
    less_sound (AllByRecursion IsSoundEntered es × AllByRecursion IsSoundVoided vs) (AllByRecursion IsSoundVoided vs) (λ s. s.1) c.in_err-struck.field-0.0 (c.in_err-struck.ensures.fault vs void))

pub returns-in_err-add-clause-fault : goal.returns-in_err-add-clause-fault
returns-in_err-add-clause-fault c =
    passed (IsFaultOfJournal c.args.entries.now c.args.voids.now) c.in_err-add.field-0.0 c.from_residual-in_err-add.result c.from_residual-in_err-add.ensures.1 (λ es vs shown void.
    subst (IsRowFault (AllByRecursion IsSoundEntered es × AllByRecursion IsSoundVoided vs)) (sym c.in_err-add.ensures.fault) refl)

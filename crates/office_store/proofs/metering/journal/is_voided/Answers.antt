use Rattle.std.proofs.Common.{◌≡◌, sym, ◌∙◌, eq-eqb, ne_eqb}
use Rattle.store_tables.specs.Entries.Rows.{voided_shown}
use Rattle.office_store.specs.Metering.Entries.{names}
use Rattle.office_store.proofs.MeteringLemmas.Marked.{next_shown, not_yet, here}
use Rattle.std.proofs.Common.{◌<◌, length, get_or, subst}
use Rattle.std.specs.List.{AllByRecursion}
use Rattle.store_tables.proofs.Failures.{passed}
use Rattle.store_tables.proofs.ReadLemmas.{less_sound}
use Rattle.office_store.proofs.FindingLemmas.ReadRows.{at_element}
use Rattle.store_tables.specs.Entries.Rows.{IsSoundVoided}
use Rattle.office_store.specs.Metering.Entries.{IsFaultOfVoids}
use Rattle.office_store.proofs.metering.journal.is_voided.Goals as goal

pub returns-then-branch-clause-reported : goal.returns-then-branch-clause-reported
returns-then-branch-clause-reported c = λ vs shown.
    let it = next_shown voided_shown vs c.args.voids.now c.loop-row.row-index c.row-item.result shown c.loop-row-test.true c.row-item.is in
    let at : c.in_ok-read_void.field-0 ≡ it.at.place = c.in_ok-read_void.ensures.read.read it.at it.seen in
    sym (here (names c.args.place) vs c.loop-row.row-index it.at it.more (eq-eqb c.args.place it.at.place (c.if-branch.true ∙ at)))

pub loop-row-preserved : goal.loop-row-preserved
loop-row-preserved c = λ vs shown.
    let it = next_shown voided_shown vs c.args.voids.now c.loop-row.row-index c.row-item.result shown c.loop-row-test.true c.row-item.is in
    let at : c.in_ok-read_void.field-0 ≡ it.at.place = c.in_ok-read_void.ensures.read.read it.at it.seen in
    not_yet (names c.args.place) vs c.loop-row.row-index it.at it.more (c.loop-row.invariant vs shown) (ne_eqb c.args.place it.at.place (λ e. c.if-branch.false (e ∙ sym at)))

pub returns-in_err-read_void-clause-fault : goal.returns-in_err-read_void-clause-fault
returns-in_err-read_void-clause-fault c =
    passed (IsFaultOfVoids c.args.voids.now) c.in_err-read_void.field-0.0 c.from_residual.result c.from_residual.ensures.1 (λ vs shown.
    let it = at_element voided_shown vs c.loop-row.row-index c.row-item.result (subst (λ l. c.loop-row.row-index < length l) shown c.loop-row-test.true) (subst (λ l. c.row-item.result ≡ get_or l c.loop-row.row-index c.row-item.result) shown c.row-item.is) in
    less_sound (AllByRecursion IsSoundVoided vs) (IsSoundVoided it.0) (it.2 IsSoundVoided) c.in_err-read_void.field-0.0 (c.in_err-read_void.ensures.read.fault it.0 it.1))

use Rattle.std.proofs.Common.{◌≡◌}
use Rattle.store_tables.specs.declared.faults.RowFault.TheVariants.{Damaged}
use Rattle.store_tables.proofs.Failures.{passed}
use Rattle.office_store.specs.Metering.Entries.{CanBePlaced}
use Rattle.office_store.proofs.MeteringLemmas.Entering.{account_before, placed_found}
use Rattle.office_store.proofs.metering.places.placed.Goals as goal

pub returns-clause-found : goal.returns-clause-found
returns-clause-found c = λ facts o whole_is rows_are.
    placed_found facts o c.args.place c.args.whole.now c.in_ok-before.before c.args.rows.now c.first.result.now c.in-Some.found.index c.in-Some.found.row c.in-Some.found.next whole_is rows_are c.in-Some.ensures.found c.first.ensures
    c.in_ok-before.ensures.stands

pub returns-in_err-before-clause-fault : goal.returns-in_err-before-clause-fault
returns-in_err-before-clause-fault c =
    passed (λ e. (e ≡ Damaged) × (¬ CanBePlaced c.args.whole.now.opening c.args.rows.now c.args.place)) c.in_err-before.field-0.0 c.from_residual.result c.from_residual.ensures.1 (
      c.in_err-before.ensures.fault.0,
      λ can. c.in_err-before.ensures.fault.1 can.numbers (account_before c.args.whole.now.opening c.args.place c.in-Some.found.index c.args.rows.now c.first.result.now c.in-Some.found.row c.in-Some.found.next c.in-Some.ensures.found c.first.ensures can),
    )

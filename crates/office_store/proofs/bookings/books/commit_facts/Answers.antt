use Rattle.std.proofs.Common.{◌≡◌, Ok, Err, subst, rules}
use Rattle.sqlite.specs.Held.{state}
use Rattle.store_tables.specs.declared.faults.RowFault.{RowFault}
use Rattle.office_store.specs.Going.{Commits}
use Rattle.office_store.specs.Recording.{RecordsAll}
use Rattle.office_store.proofs.GoingLemmas.{committed}
use Rattle.office_store.proofs.BookingsLemmas.Booking.{commit_done, commit_failed, left_off}
use Rattle.office_store.proofs.bookings.books.commit_facts.Goals as goal

pub returns-in_err-enter_facts-clause-does : goal.returns-in_err-enter_facts-clause-does
returns-in_err-enter_facts-clause-does g c =
    let old = c.args.conn.now in
    let makes = RecordsAll c.args.facts.now in
    let mid = state g.S.Store c.enter_facts.new.tx.conn.now in
    let end = c.drop-tx.new.self.0 in
    let same : end ≡ c.conn-1.given.0 = search rules in
    subst (λ h. Commits {X = Unit {0}} (state g.S.Store old) (state g.S.Store h) c.from_residual.result makes) same
    (left_off {X = Unit {0}} g.S.Store old mid (state g.S.Store end) makes _ c.in_err-enter_facts.field-0.0 c.from_residual.result (rw c.transaction-tx.ensures.begun at c.in_err-enter_facts.ensures.does)
    c.drop-tx.ensures.undone c.drop-tx.ensures.survives c.from_residual.ensures.1)

pub returns-in_err-commit-clause-does : goal.returns-in_err-commit-clause-does
returns-in_err-commit-clause-does g c =
    let old = c.args.conn.now in
    let makes = RecordsAll c.args.facts.now in
    let mid = state g.S.Store c.enter_facts.new.tx.conn.now in
    let end = c.commit.new.self.0 in
    let same : end ≡ c.conn-2-1.given.0 = search rules in
    subst (λ h. Commits (state g.S.Store old) (state g.S.Store h) c.from_residual-in_err-commit.result makes) same
    (commit_failed {X = Unit {0}} _ (state g.S.Store old) (state g.S.Store end) c.in_err-commit.field-0.0 c.from_residual-in_err-commit.result makes
    (committed g.S.Store old mid (state g.S.Store end) makes (Err c.in_err-commit.field-0.0) (rw c.transaction-tx.ensures.begun at c.in_ok-enter_facts.ensures.does)
    c.in_err-commit.ensures.ok c.in_err-commit.ensures.err c.in_err-commit.ensures.survives)
    c.from_residual-in_err-commit.ensures.1)

pub returns-clause-does : goal.returns-clause-does
returns-clause-does g c =
    let old = c.args.conn.now in
    let makes = RecordsAll c.args.facts.now in
    let mid = state g.S.Store c.enter_facts.new.tx.conn.now in
    let end = c.commit.new.self.0 in
    let same : end ≡ c.conn-2-1.given.0 = search rules in
    subst (λ h. Commits {X = Unit {0}} {E = RowFault} (state g.S.Store old) (state g.S.Store h) (Ok tt) makes) same
    (commit_done (state g.S.Store old) (state g.S.Store end) c.in_ok-commit.field-0 tt makes
    (committed g.S.Store old mid (state g.S.Store end) makes (Ok c.in_ok-commit.field-0) (rw c.transaction-tx.ensures.begun at c.in_ok-enter_facts.ensures.does)
    c.in_ok-commit.ensures.ok c.in_ok-commit.ensures.err c.in_ok-commit.ensures.survives))

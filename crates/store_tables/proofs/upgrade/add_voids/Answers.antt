use Rattle.std.proofs.Common.{◌≡◌, true, subst, rules}
use Rattle.sqlite.specs.declared.error.Error.{Error}
use Rattle.sqlite.specs.Held.{state}
use Rattle.store_tables.specs.Steps.{TransactsTo}
use Rattle.store_tables.proofs.StepLemmas.{transacted, answered}
use Rattle.store_tables.specs.Upgrade.{BringsSecond}
use Rattle.store_tables.proofs.upgrade.add_voids.Goals as goal

pub returns-clause-does : goal.returns-clause-does
returns-clause-does g c =
    let old = c.args.conn.now in
    let goes = BringsSecond in
    let mid = state g.S.Store c.bring_second.new.tx.conn.now in
    let end = c.commit.new.self.0 in
    let same : end ≡ c.conn-2-1.given.0 = search rules in
    subst (λ h. TransactsTo (state g.S.Store old) (state g.S.Store h) c.commit.result goes) same
    (transacted g.S.Store old mid (state g.S.Store end) goes {D = Error} c.commit.result (answered (state g.S.Store (record old { in_transaction = true })) mid c.in_ok-bring_second.field-0 tt goes (rw c.transaction-tx.ensures.begun at c.in_ok-bring_second.ensures.does))
    c.commit.ensures.ok c.commit.ensures.err c.commit.ensures.survives)

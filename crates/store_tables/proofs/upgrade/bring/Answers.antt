use Rattle.std.proofs.Common.{subst, sym}
use Rattle.sqlite.specs.Held.{state}
use Rattle.store_tables.specs.declared.layouts.Layout.TheVariants.{Second}
use Rattle.store_tables.specs.Upgrade.{OpensFile, IsOpenTo, BringsSecond}
use Rattle.store_tables.proofs.Brought.{transacted, seen}
use Rattle.store_tables.proofs.upgrade.bring.Goals as goal

pub returns-in-First-clause-opened : goal.returns-in-First-clause-opened
returns-in-First-clause-opened g c clean zone content it =
    let old = state g.S.Store c.args.conn.now in
    subst (λ l. OpensFile l zone content old (state g.S.Store c.open_first.new.conn) c.open_first.result) (sym c.in-First.is)
    (c.open_first.ensures.opened clean zone content (subst (λ l. IsOpenTo l zone content old) c.in-First.is it))

pub returns-in-Second-clause-opened : goal.returns-in-Second-clause-opened
returns-in-Second-clause-opened g c clean zone content it =
    let old = state g.S.Store c.args.conn.now in
    let end = state g.S.Store c.add_voids.new.conn in
    let here = subst (λ l. IsOpenTo l zone content old) c.in-Second.is it in
    subst (λ l. OpensFile l zone content old end c.add_voids.result) (sym c.in-Second.is)
    (transacted Second zone content old end c.add_voids.result BringsSecond clean c.add_voids.ensures.does (λ db goes. goes zone content (seen Second zone content old here)))

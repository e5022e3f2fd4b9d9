use Rattle.sqlite.specs.Held.{state}
use Rattle.store_tables.proofs.Brought.{reported_as, failed_as}
use Rattle.store_tables.proofs.opened_file.brought.Goals as goal

pub returns-in-Ok-clause-opened : goal.returns-in-Ok-clause-opened
returns-in-Ok-clause-opened g c clean zone content it =
    reported_as c.args.layout zone content (state g.S.Store c.args.conn.now) (state g.S.Store c.bring.new.conn) tt tt (c.in-Ok.ensures.opened clean zone content it)

pub returns-in-Err-clause-opened : goal.returns-in-Err-clause-opened
returns-in-Err-clause-opened g c clean zone content it =
    failed_as c.args.layout zone content (state g.S.Store c.args.conn.now) (state g.S.Store c.bring.new.conn) c.in-Err.error c.fault_of.result (c.in-Err.ensures.opened clean zone content it)

use Rattle.sqlite.specs.Held.{state}
use Rattle.store_tables.specs.NewFile.{Makes}
use Rattle.store_tables.proofs.Made.{made_as, unmade_as}
use Rattle.store_tables.proofs.new_file.make.Goals as goal

pub returns-in-Ok-clause-does : goal.returns-in-Ok-clause-does
returns-in-Ok-clause-does g c = made_as (state g.S.Store c.args.conn.now) (state g.S.Store c.create_in_transaction.new.conn) tt tt (Makes c.args.zone.now) c.in-Ok.ensures.does

pub returns-in-Err-clause-does : goal.returns-in-Err-clause-does
returns-in-Err-clause-does g c = unmade_as (state g.S.Store c.args.conn.now) (state g.S.Store c.create_in_transaction.new.conn) c.in-Err.error c.fault_of.result (Makes c.args.zone.now) c.in-Err.ensures.does

use Rattle.sqlite.specs.Held.{state}
use Rattle.store_tables.proofs.StepLemmas.{steps}
use Rattle.office_store.proofs.VoidsLemmas.Texts as text
use Rattle.office_store.proofs.VoidsLemmas.Withdrawing as withdrawing
use Rattle.office_store.proofs.voids.withdrawal.take_share.Goals as goal

pub returns-clause-does : goal.returns-clause-does
returns-clause-does g c =
    let old = state g.S.Store c.args.tx.now.conn.now in
    let new = state g.S.Store c.execute.new.self.conn.now in
    steps text.take_share (withdrawing.take_params c.args.meter.now c.args.share.start c.args.share.mwh) old new c.execute.result _
    (rw (c.params-to_sql.ensures, c.params-to_sql-2.ensures, c.params-to_sql-3.ensures, c.number-start.ensures, c.number-mwh.ensures) at c.execute.ensures.runs)
    c.execute.ensures.survives (withdrawing.take_share c.args.meter.now c.args.share old new c.execute.result)

use Rattle.std.proofs.Common.{pos, [], ◌∷◌}
use Rattle.sqlite.specs.declared.types.Value.TheVariants.{Int, Text}
use Rattle.sqlite.specs.Held.{state}
use Rattle.store_tables.proofs.StepLemmas.{steps}
use Rattle.office_store.proofs.VoidsLemmas.Texts as text
use Rattle.office_store.proofs.VoidsLemmas.Withdrawing as withdrawing
use Rattle.office_store.proofs.voids.withdrawal.drop_rows_from.Goals as goal

pub returns-clause-does : goal.returns-clause-does
returns-clause-does g c =
    let old = state g.S.Store c.args.tx.now.conn.now in
    let new = state g.S.Store c.execute.new.self.conn.now in
    steps text.drop_from (Text c.args.meter.now ∷ Int (pos c.args.from) ∷ []) old new c.execute.result _
    (rw (c.params-to_sql.ensures, c.params-to_sql-2.ensures, c.number-from.ensures) at c.execute.ensures.runs)
    c.execute.ensures.survives (withdrawing.drop_from c.args.meter.now c.args.from old new c.execute.result)

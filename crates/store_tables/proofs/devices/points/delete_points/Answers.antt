use Rattle.std.proofs.Common.{[], ◌∷◌}
use Rattle.sqlite.specs.declared.types.Value.TheVariants.{Text}
use Rattle.sqlite.specs.Held.{state}
use Rattle.store_tables.proofs.StepLemmas.{steps}
use Rattle.store_tables.proofs.DevicesLemmas.Texts as text
use Rattle.store_tables.proofs.DevicesLemmas.Writes as writes
use Rattle.store_tables.proofs.devices.points.delete_points.Goals as goal

pub returns-clause-does : goal.returns-clause-does
returns-clause-does g c =
    let old = state g.S.Store c.args.tx.now.conn.now in
    let new = state g.S.Store c.execute.new.self.conn.now in
    steps text.delete_points (Text c.args.device.now ∷ []) old new c.execute.result _ (rw (c.params-to_sql.ensures) at c.execute.ensures.runs)
    c.execute.ensures.survives (writes.delete_points c.args.device.now old new c.execute.result)

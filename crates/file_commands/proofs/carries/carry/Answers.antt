use Rattle.std.proofs.Common.{ℕ, Option, subst}
use Rattle.file_commands.specs.Rollovers.{EndsCarry}
use Rattle.file_commands.proofs.Carried.{ends_carry}
use Rattle.file_commands.proofs.carries.carry.Goals as goal

pub returns : goal.returns
returns g c =
    let all = g.D.Databases.opens c.args.files.now in
    let P : Option ℕ → Type 0 = λ until. EndsCarry g.D.Store.Store all c.args.from.now until c.carry_into.result in
    subst P c.widen-until.ensures (ends_carry g.D.Store.Store (g.D.Databases.opens c.opened-copies.result) all c.opened-copies.ensures c.args.from.now _ c.carry_into.result c.carry_into.ensures)

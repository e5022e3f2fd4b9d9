use Rattle.file_commands.proofs.Carried.{file_carried}
use Rattle.file_commands.proofs.carries.carry_in.Goals as goal

pub returns-in-Ok : goal.returns-in-Ok
returns-in-Ok g c =
    file_carried g.D.Store.Store (g.D.Databases.opens c.args.databases.now) _ _ c.in-Ok.old c.carry_whole.result c.in-Ok.ensures c.carry_whole.ensures

use Rattle.file_commands.proofs.Joined.{paths_joined}
use Rattle.file_commands.proofs.joined_reports.+join_paths.Goals as goal

pub returns-in-Ok : goal.returns-in-Ok
returns-in-Ok g t c =
    paths_joined g.K.Keeping g.D.Store.Store c.args.range.now c.args.register.now (g.D.Databases.opens c.args.databases.now) c.args.paths.now _ c.args.joined
    c.in-Ok.next c.join_paths.result c.in-len1-up.len_at_least c.in-Ok.ensures c.join_paths.ensures

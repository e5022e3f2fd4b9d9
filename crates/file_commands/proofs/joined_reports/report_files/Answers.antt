use Rattle.file_commands.proofs.Joined.{ends_files}
use Rattle.file_commands.proofs.joined_reports.report_files.Goals as goal

pub returns : goal.returns
returns g c =
    ends_files g.D.Store.Store (g.D.Databases.opens c.opened-readable.result) (g.D.Databases.opens c.args.files.now) c.opened-readable.ensures
    c.args.paths.now c.args.register.now c.args.words.now (g.W.Write.contents c.args.output.now) (g.W.Write.contents c.report_paths-ending.new.output)
    (g.W.Write.contents c.flushed.new.output) c.report_paths-ending.result c.flushed.result c.report_paths-ending.ensures c.flushed.ensures.ending c.flushed.ensures.output

use Rattle.file_commands.proofs.Audited.{paths_audited}
use Rattle.file_commands.proofs.audits.+audit_paths.Goals as goal

pub returns-in_ok-fine-in-len1-up : goal.returns-in_ok-fine-in-len1-up
returns-in_ok-fine-in-len1-up g t c =
    paths_audited g.D.Store.Store (g.D.Databases.opens c.args.databases.now) c.args.paths.now _ c.args.so_far c.in_ok-fine-in-len1-up.fine
    c.args.joining.now c.audit_file.new.joining c.audit_paths.new.joining _ _ _ c.audit_paths.result c.in-len1-up.len_at_least
    c.in_ok-fine-in-len1-up.ensures c.audit_paths.ensures

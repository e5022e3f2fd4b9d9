use Rattle.sunreg.proofs.Audited.{more_audited}
use Rattle.sunreg.proofs.commands.audit_files.Goals as goal

pub returns-in-len2-up : goal.returns-in-len2-up
returns-in-len2-up g c =
    more_audited g.D.Store.Store (g.D.Databases.opens c.args.files.now) c.args.seal _ _ c.audit_several-in-len2-up.result
    c.args.paths.now c.in-len2-up.len_at_least c.audit_several-in-len2-up.ensures

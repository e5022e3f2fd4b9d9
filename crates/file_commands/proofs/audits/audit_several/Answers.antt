use Rattle.std.proofs.Common.{sym, subst}
use Rattle.stored_files.specs.declared.ends.ending.Ending.{Ending}
use Rattle.file_commands.specs.JoinedAudits.{EndsSeveral}
use Rattle.file_commands.proofs.Audited.{ends_several}
use Rattle.file_commands.proofs.audits.audit_several.Goals as goal

pub returns : goal.returns
returns g c =
    let had = g.W.Write.contents c.args.output.now in
    let holds = g.W.Write.contents c.audit_files.new.output in
    let all = g.D.Databases.opens c.args.files.now in
    let Q : Ending → Type 0 = λ e. EndsSeveral g.D.Store.Store all c.args.paths.now had holds e in
    subst Q (sym c.ended.ensures) (ends_several g.D.Store.Store (g.D.Databases.opens c.opened.result) all c.opened.ensures c.args.paths.now had holds
    c.audit_files.result c.audit_files.ensures)

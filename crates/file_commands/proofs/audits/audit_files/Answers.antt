use Rattle.std.proofs.Common.{Bool, true, inr, subst}
use Rattle.file_commands.specs.JoinedAudits.{AuditsPaths}
use Rattle.file_commands.proofs.Audited.{several_joined}
use Rattle.file_commands.proofs.audits.audit_files.Goals as goal

pub returns-then-branch : goal.returns-then-branch
returns-then-branch g c =
    let opens = g.D.Databases.opens c.args.databases.now in
    let had = g.W.Write.contents c.args.output.now in
    let printed = g.W.Write.contents c.audit_paths.new.output in
    let P : Bool → Type 0 = λ b. AuditsPaths g.D.Store.Store opens c.args.paths.now true c.new-joining.result c.audit_paths.new.joining had printed b in
    several_joined g.D.Store.Store opens c.args.paths.now c.new-joining.result c.audit_paths.new.joining had printed (g.W.Write.contents c.print_joins.new.output)
    c.print_joins.result c.new-joining.ensures.none c.new-joining.ensures.lines (subst P c.if-branch.true c.in_ok-audit_paths.ensures) c.print_joins.ensures.fine c.print_joins.ensures.reported

pub returns : goal.returns
returns g c =
    let P : Bool → Type 0 = λ b. AuditsPaths g.D.Store.Store (g.D.Databases.opens c.args.databases.now) c.args.paths.now true c.new-joining.result c.audit_paths.new.joining
    (g.W.Write.contents c.args.output.now) (g.W.Write.contents c.audit_paths.new.output) b in
    inr (record { none = c.new-joining.result; all = c.audit_paths.new.joining; audits = subst P c.if-branch.false c.in_ok-audit_paths.ensures })

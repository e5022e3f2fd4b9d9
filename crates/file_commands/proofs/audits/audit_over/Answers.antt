use Rattle.table_audit.proofs.Looking.{looks_then}
use Rattle.file_commands.proofs.Audited.{on_ok, rows_on, tables_audited}
use Rattle.file_commands.proofs.audits.audit_over.Goals as goal

pub returns-clause-looks : goal.returns-clause-looks
returns-clause-looks g c = λ idle.
    let looks = c.in_ok-check_mark.ensures.looks idle in
    looks_then g.S.Store _ _ _ looks (c.audit_marked.ensures.looks (looks.mode idle))

pub returns-clause-audits : goal.returns-clause-audits
returns-clause-audits g c = λ clean content holds.
    let idle = c.in_ok-check_mark.ensures.idle in
    let looks = c.in_ok-check_mark.ensures.looks idle in
    let later = c.audit_marked.ensures.looks (looks.mode idle) in
    tables_audited content c.args.seal _ _ c.audit_marked.result (c.in_ok-check_mark.ensures.marked (later.clean clean) content holds)
    (c.audit_marked.ensures.audits clean content (rows_on g.S.Store _ _ content looks (c.in_ok-check_mark.ensures.ours content holds)))

pub returns-clause-idle : goal.returns-clause-idle
returns-clause-idle g c = on_ok c.audit_marked.result c.in_ok-check_mark.ensures.idle

pub returns-clause-ours : goal.returns-clause-ours
returns-clause-ours g c = on_ok c.audit_marked.result c.in_ok-check_mark.ensures.ours

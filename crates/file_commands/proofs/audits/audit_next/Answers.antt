use Rattle.file_commands.proofs.Audited.{both_true, rows_on}
use Rattle.file_commands.proofs.audits.audit_next.Goals as goal

pub returns : goal.returns
returns g c = λ clean content holds.
    let idle = c.in_ok-audit_over.ensures.idle in
    let looks = c.in_ok-audit_over.ensures.looks idle in
    record {
      audited = c.in_ok-audit_over.field-0;
      audits = c.in_ok-audit_over.ensures.audits (c.join_next.ensures.clean (looks.mode idle) clean) content holds;
      both = both_true c.in_ok-audit_over.field-0 c.args.so_far c.if-not-branch.false c.if-not-so_far.false;
      joins = λ yes. c.in_ok-join_next.ensures.joins clean content (rows_on g.S.Store _ _ content looks (c.in_ok-audit_over.ensures.ours content holds));
    }

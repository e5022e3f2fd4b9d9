use Rattle.std.proofs.Common.{Ok, Err}
use Rattle.table_audit.specs.Meters.{ReportsMeters}
use Rattle.table_audit.specs.Names.{ReportsNames}
use Rattle.table_audit.specs.Polls.{ReportsPolls, ReportsTables}
use Rattle.table_audit.proofs.Looking.{finds_then, passed_on, made}
use Rattle.table_audit.proofs.polls.audit_tables.Goals as goal

pub audit_names-requires-clause-mode : goal.audit_names-requires-clause-mode
audit_names-requires-clause-mode g c = c.in_ok-findings.ensures.finds.looks.mode c.requires.mode

pub audit_polls-requires-clause-mode : goal.audit_polls-requires-clause-mode
audit_polls-requires-clause-mode g c = c.in_ok-audit_names.ensures.finds.looks.mode (c.in_ok-findings.ensures.finds.looks.mode c.requires.mode)

pub returns-in_err-findings-clause-finds : goal.returns-in_err-findings-clause-finds
returns-in_err-findings-clause-finds g c =
    passed_on g.S.Store c.args.conn.now c.audit_meters.new.conn c.in_err-findings.field-0.0 c.from_residual.result _ ReportsTables
    c.in_err-findings.ensures.finds c.from_residual.ensures.1

pub returns-in_err-audit_names-clause-finds : goal.returns-in_err-audit_names-clause-finds
returns-in_err-audit_names-clause-finds g c =
    passed_on g.S.Store c.args.conn.now c.audit_names.new.conn c.in_err-audit_names.field-0.0 c.from_residual-in_err-audit_names.result _ ReportsTables
    (finds_then g.S.Store c.args.conn.now c.audit_meters.new.conn c.audit_names.new.conn c.in_ok-findings.findings (Err c.in_err-audit_names.field-0.0)
    ReportsMeters (λ content _. ReportsNames c.in_ok-findings.findings c.audit_names.new.findings content)
    (λ content _. ReportsNames c.in_ok-findings.findings c.audit_names.new.findings content)
    c.in_ok-findings.ensures.finds c.in_err-audit_names.ensures.finds (λ content b reported names. names))
    c.from_residual-in_err-audit_names.ensures.1

pub returns-in_err-audit_polls-clause-finds : goal.returns-in_err-audit_polls-clause-finds
returns-in_err-audit_polls-clause-finds g c =
    let two = finds_then g.S.Store c.args.conn.now c.audit_meters.new.conn c.audit_names.new.conn c.in_ok-findings.findings (Ok c.in_ok-audit_names.field-0)
    ReportsMeters (λ content _. ReportsNames c.in_ok-findings.findings c.audit_names.new.findings content)
    (λ content _. ReportsNames c.in_ok-findings.findings c.audit_names.new.findings content)
    c.in_ok-findings.ensures.finds c.in_ok-audit_names.ensures.finds (λ content b reported names. names) in
    passed_on g.S.Store c.args.conn.now c.audit_polls.new.conn c.in_err-audit_polls.field-0.0 c.from_residual-in_err-audit_polls.result _ ReportsTables
    (finds_then g.S.Store c.args.conn.now c.audit_names.new.conn c.audit_polls.new.conn c.in_ok-audit_names.field-0 (Err c.in_err-audit_polls.field-0.0)
    (λ content _. ReportsNames c.in_ok-findings.findings c.audit_names.new.findings content)
    (λ content _. ReportsPolls c.audit_names.new.findings c.audit_polls.new.findings content)
    (λ content _. ReportsPolls c.audit_names.new.findings c.audit_polls.new.findings content)
    two c.in_err-audit_polls.ensures.finds (λ content b names polls. polls))
    c.from_residual-in_err-audit_polls.ensures.1

pub returns-clause-finds : goal.returns-clause-finds
returns-clause-finds g c =
    let two = finds_then g.S.Store c.args.conn.now c.audit_meters.new.conn c.audit_names.new.conn c.in_ok-findings.findings (Ok c.in_ok-audit_names.field-0)
    ReportsMeters (λ content _. ReportsNames c.in_ok-findings.findings c.audit_names.new.findings content)
    (λ content _. ReportsMeters content c.in_ok-findings.findings × ReportsNames c.in_ok-findings.findings c.audit_names.new.findings content)
    c.in_ok-findings.ensures.finds c.in_ok-audit_names.ensures.finds (λ content b reported names. (reported, names)) in
    made g.S.Store c.args.conn.now c.audit_polls.new.conn c.in_ok-audit_polls.field-0 c.audit_polls.new.findings _ ReportsTables
    (finds_then g.S.Store c.args.conn.now c.audit_names.new.conn c.audit_polls.new.conn c.in_ok-audit_names.field-0 (Ok c.in_ok-audit_polls.field-0)
    (λ content _. ReportsMeters content c.in_ok-findings.findings × ReportsNames c.in_ok-findings.findings c.audit_names.new.findings content)
    (λ content _. ReportsPolls c.audit_names.new.findings c.audit_polls.new.findings content)
    (λ content _. ReportsTables content c.audit_polls.new.findings)
    two c.in_ok-audit_polls.ensures.finds
    (λ content b both polls. record {
      meters = c.in_ok-findings.findings;
      reported = both.0;
      named = c.audit_names.new.findings;
      names = both.1;
      polls = polls;
    }))
    (λ content reports. reports)

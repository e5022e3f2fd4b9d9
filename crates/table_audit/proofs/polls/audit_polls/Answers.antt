use Rattle.std.proofs.Common.{rules, ◌≡◌, List, sym, ◌∙◌, ap}
use Rattle.sqlite.specs.Order.{Row}
use Rattle.store_tables.specs.Columns.{first_in}
use Rattle.store_tables.specs.Limits.{greatest_place}
use Rattle.table_audit.specs.PollShowing.{ShowsLast}
use Rattle.table_audit.specs.Polls.{ReportsRuns, ReportsUpTo, ReportsPolls}
use Rattle.table_audit.proofs.Looking.{finds_then, passed_on, made}
use Rattle.table_audit.proofs.PollFound.{reports_runs, reports_fault}
use Rattle.table_audit.proofs.polls.audit_polls.Goals as goal

pub returns-in_err-rows-clause-finds : goal.returns-in_err-rows-clause-finds
returns-in_err-rows-clause-finds g c =
    passed_on g.S.Store c.args.conn.now c.last_poll.new.conn c.in_err-rows.field-0.0 c.from_residual.result _ _
    c.in_err-rows.ensures c.from_residual.ensures.1

pub returns-clause-finds : goal.returns-clause-finds
returns-clause-finds g c =
    let same : c.deref.result.now ≡ c.in_ok-rows.rows.items = search rules in
    finds_then g.S.Store c.args.conn.now c.last_poll.new.conn c.audit_runs.new.conn c.in_ok-rows.rows c.audit_runs.result
    (λ content rows. ShowsLast content rows.items)
    (λ content _. ReportsRuns c.unwrap_or-last.result c.count_polls.new.self c.audit_runs.new.findings content)
    (λ content _. ReportsPolls c.args.findings.now c.audit_runs.new.findings content)
    c.in_ok-rows.ensures c.audit_runs.ensures.finds
    (λ content b shown runs. record {
      rows = c.in_ok-rows.rows.items;
      shown = shown;
      reports =
          reports_runs (first_in 1 greatest_place c.in_ok-rows.rows.items) c.in-Ok.found c.unwrap_or-last.result c.args.findings.now c.count_polls.new.self c.audit_runs.new.findings content
          (ap (λ (rs : List Row). first_in 1 greatest_place rs) (sym same) ∙ sym c.in-Ok.ensures.read) c.unwrap_or-last.ensures c.count_polls.ensures runs;
    })

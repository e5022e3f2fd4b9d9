use Rattle.std.proofs.Common.{rules, ◌≡◌, List, None, sym, ap, ◌∙◌}
use Rattle.sqlite.specs.Order.{Row}
use Rattle.store_tables.specs.Columns.{first_in}
use Rattle.store_tables.specs.Limits.{greatest_place}
use Rattle.table_audit.specs.PollShowing.{ShowsLast}
use Rattle.table_audit.proofs.Looking.{finds_then, passed_on, made}
use Rattle.table_seals.specs.PollSealing.{DigestsRuns, DigestsPolls}
use Rattle.table_seals.proofs.PollFound.{reads_runs, reads_fault}
use Rattle.table_seals.proofs.poll_sealing.digest_polls.Goals as goal

pub digest_runs-requires-clause-mode : goal.digest_runs-requires-clause-mode
digest_runs-requires-clause-mode g c = c.in_ok-rows.ensures.looks.mode c.requires

pub returns-in_err-rows-clause-finds : goal.returns-in_err-rows-clause-finds
returns-in_err-rows-clause-finds g c =
    passed_on g.S.Store c.args.conn.now c.last_poll.new.conn c.in_err-rows.field-0.0 c.from_residual.result _ _
    c.in_err-rows.ensures c.from_residual.ensures.1

pub returns-clause-finds : goal.returns-clause-finds
returns-clause-finds g c =
    let same : c.deref.result.now ≡ c.in_ok-rows.rows.items = search rules in
    made g.S.Store c.args.conn.now c.last_poll.new.conn c.in_ok-rows.rows None (λ content rows. ShowsLast content rows.items)
    (DigestsPolls c.args.last c.args.hidden.now) c.in_ok-rows.ensures
    (λ content shown. record {
      polls = None;
      reads = record {
        rows = c.in_ok-rows.rows.items;
        shown = shown;
        reads = reads_fault (first_in 1 greatest_place c.in_ok-rows.rows.items) _ content
            (ap (λ (rs : List Row). first_in 1 greatest_place rs) (sym same) ∙ sym c.in-Err.ensures.read);
      };
      digested = tt;
    })

pub returns-in-Ok-clause-finds : goal.returns-in-Ok-clause-finds
returns-in-Ok-clause-finds g c =
    let same : c.deref.result.now ≡ c.in_ok-rows.rows.items = search rules in
    finds_then g.S.Store c.args.conn.now c.last_poll.new.conn c.digest_runs.new.conn c.in_ok-rows.rows c.digest_runs.result
    (λ content rows. ShowsLast content rows.items) (DigestsRuns c.unwrap_or.result c.args.last c.args.hidden.now)
    (DigestsPolls c.args.last c.args.hidden.now)
    c.in_ok-rows.ensures c.digest_runs.ensures.finds
    (λ content found shown runs. record {
      polls = runs.polls;
      reads = record {
        rows = c.in_ok-rows.rows.items;
        shown = shown;
        reads = reads_runs (first_in 1 greatest_place c.in_ok-rows.rows.items) c.in-Ok.found c.unwrap_or.result content runs.polls
            (ap (λ (rs : List Row). first_in 1 greatest_place rs) (sym same) ∙ sym c.in-Ok.ensures.read) c.unwrap_or.ensures runs.reads;
      };
      digested = runs.digested;
    })

use Rattle.std.proofs.Common.{Ok, Err}
use Rattle.table_audit.specs.PollShowing.{ShowsPolls, ShowsOutcomes, AreRowsOfRun}
use Rattle.table_audit.proofs.Looking.{finds_then, passed_on, made}
use Rattle.table_audit.proofs.poll_queries.run_rows.Goals as goal

pub outcomes-requires-clause-mode : goal.outcomes-requires-clause-mode
outcomes-requires-clause-mode g c = c.in_ok-polls.ensures.looks.mode c.requires.mode

pub returns-in_err-polls : goal.returns-in_err-polls
returns-in_err-polls g c =
    passed_on g.S.Store c.args.conn.now c.polls.new.conn c.in_err-polls.field-0.0 c.from_residual.result _ (AreRowsOfRun c.args.run)
    c.in_err-polls.ensures c.from_residual.ensures.1

pub returns-in_err-outcomes : goal.returns-in_err-outcomes
returns-in_err-outcomes g c =
    passed_on g.S.Store c.args.conn.now c.outcomes.new.conn c.in_err-outcomes.field-0.0 c.from_residual-in_err-outcomes.result _ (AreRowsOfRun c.args.run)
    (finds_then g.S.Store c.args.conn.now c.polls.new.conn c.outcomes.new.conn c.in_ok-polls.polls (Err c.in_err-outcomes.field-0.0)
    (λ content rows. ShowsPolls c.args.run content rows.items) (λ content rows. ShowsOutcomes c.args.run content rows.items) (λ content rows. ShowsOutcomes c.args.run content rows.items)
    c.in_ok-polls.ensures c.in_err-outcomes.ensures (λ content rows h g. g))
    c.from_residual-in_err-outcomes.ensures.1

pub returns : goal.returns
returns g c =
    let two = finds_then g.S.Store c.args.conn.now c.polls.new.conn c.outcomes.new.conn c.in_ok-polls.polls (Ok c.in_ok-outcomes.outcomes)
    (λ content rows. ShowsPolls c.args.run content rows.items) (λ content rows. ShowsOutcomes c.args.run content rows.items)
    (λ content rows. ShowsPolls c.args.run content c.in_ok-polls.polls.items × ShowsOutcomes c.args.run content rows.items)
    c.in_ok-polls.ensures c.in_ok-outcomes.ensures (λ content rows h g. (h, g)) in
    made g.S.Store c.args.conn.now c.outcomes.new.conn c.in_ok-outcomes.outcomes _
    (λ content rows. ShowsPolls c.args.run content c.in_ok-polls.polls.items × ShowsOutcomes c.args.run content rows.items)
    (AreRowsOfRun c.args.run) two (λ content h. record { polls = h.0; outcomes = h.1 })

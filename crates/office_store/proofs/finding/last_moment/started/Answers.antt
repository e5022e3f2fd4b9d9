use Rattle.std.proofs.Common.{Ok, Err, ◌∙◌}
use Rattle.store_tables.specs.Answer.{IsLast, every}
use Rattle.store_tables.specs.Polls.Trees.{polls}
use Rattle.store_tables.specs.Polls.Rows.{poll_columns, start_of, HasStart, IsSoundStarted}
use Rattle.office_store.specs.Finding.Latest.{latest_started, HasReadableMoments}
use Rattle.office_store.proofs.FindingLemmas.Looking.{reported_of}
use Rattle.office_store.proofs.FindingLemmas.Found.{answered, passed_on}
use Rattle.office_store.proofs.FindingLemmas.LatestRows.{IsMoment, polls_tell}
use Rattle.office_store.proofs.finding.last_moment.started.Goals as goal

pub returns-in_err-latest_start : goal.returns-in_err-latest_start
returns-in_err-latest_start g c =
    passed_on g.S.Store c.args.conn.now c.latest_start.new.conn c.in_err-latest_start.field-0.0 c.from_residual-in_err-latest_start.result _ _ _ _
    (reported_of g.S.Store c.args.conn.now c.check_open.new.conn (record { mode = c.in_ok-check_open.ensures.autocommit; opened = c.in_ok-check_open.ensures.opened; kept = c.in_ok-check_open.ensures.kept; survives = c.in_ok-check_open.ensures.survives })
    c.latest_start.new.conn polls poll_columns IsSoundStarted (Err c.in_err-latest_start.field-0.0) (IsLast every HasStart start_of) c.in_err-latest_start.ensures.finds (IsMoment latest_started) HasReadableMoments polls_tell)
    (λ facts sound. sound) c.from_residual-in_err-latest_start.ensures.1

pub returns : goal.returns
returns g c =
    answered g.S.Store c.args.conn.now c.latest_start.new.conn c.in_ok-latest_start.field-0 c.unwrap_or.result _ _ _ _
    (reported_of g.S.Store c.args.conn.now c.check_open.new.conn (record { mode = c.in_ok-check_open.ensures.autocommit; opened = c.in_ok-check_open.ensures.opened; kept = c.in_ok-check_open.ensures.kept; survives = c.in_ok-check_open.ensures.survives })
    c.latest_start.new.conn polls poll_columns IsSoundStarted (Ok c.in_ok-latest_start.field-0) (IsLast every HasStart start_of) c.in_ok-latest_start.ensures.finds (IsMoment latest_started) HasReadableMoments polls_tell)
    (λ facts h. c.unwrap_or.ensures ∙ h)

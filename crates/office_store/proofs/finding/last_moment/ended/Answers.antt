use Rattle.std.proofs.Common.{Ok, Err, ◌∙◌}
use Rattle.store_tables.specs.Answer.{IsLast, every}
use Rattle.store_tables.specs.Polls.Trees.{outcomes}
use Rattle.store_tables.specs.Polls.Rows.{outcome_columns, outcome_moment, HasOutcomeMoment, IsSoundOutcome}
use Rattle.office_store.specs.Finding.Latest.{latest_ended, HasReadableMoments}
use Rattle.office_store.proofs.FindingLemmas.Looking.{reported_of}
use Rattle.office_store.proofs.FindingLemmas.Found.{answered, passed_on}
use Rattle.office_store.proofs.FindingLemmas.LatestRows.{IsMoment, outcomes_tell}
use Rattle.office_store.proofs.finding.last_moment.ended.Goals as goal

pub returns-in_err-latest_outcome : goal.returns-in_err-latest_outcome
returns-in_err-latest_outcome g c =
    passed_on g.S.Store c.args.conn.now c.latest_outcome.new.conn c.in_err-latest_outcome.field-0.0 c.from_residual-in_err-latest_outcome.result _ _ _ _
    (reported_of g.S.Store c.args.conn.now c.check_open.new.conn (record { mode = c.in_ok-check_open.ensures.autocommit; opened = c.in_ok-check_open.ensures.opened; kept = c.in_ok-check_open.ensures.kept; survives = c.in_ok-check_open.ensures.survives })
    c.latest_outcome.new.conn outcomes outcome_columns IsSoundOutcome (Err c.in_err-latest_outcome.field-0.0) (IsLast every HasOutcomeMoment outcome_moment) c.in_err-latest_outcome.ensures.finds (IsMoment latest_ended) HasReadableMoments outcomes_tell)
    (λ facts sound. sound) c.from_residual-in_err-latest_outcome.ensures.1

pub returns : goal.returns
returns g c =
    answered g.S.Store c.args.conn.now c.latest_outcome.new.conn c.in_ok-latest_outcome.field-0 c.unwrap_or.result _ _ _ _
    (reported_of g.S.Store c.args.conn.now c.check_open.new.conn (record { mode = c.in_ok-check_open.ensures.autocommit; opened = c.in_ok-check_open.ensures.opened; kept = c.in_ok-check_open.ensures.kept; survives = c.in_ok-check_open.ensures.survives })
    c.latest_outcome.new.conn outcomes outcome_columns IsSoundOutcome (Ok c.in_ok-latest_outcome.field-0) (IsLast every HasOutcomeMoment outcome_moment) c.in_ok-latest_outcome.ensures.finds (IsMoment latest_ended) HasReadableMoments outcomes_tell)
    (λ facts h. c.unwrap_or.ensures ∙ h)

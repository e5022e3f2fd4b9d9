use Rattle.std.proofs.Common.{Ok, Err, ◌∙◌}
use Rattle.store_tables.specs.Answer.{IsLast, every}
use Rattle.store_tables.specs.Polls.Trees.{holds}
use Rattle.store_tables.specs.Polls.Rows.{hold_columns, hold_moment, HasHoldMoment, IsSoundHeld}
use Rattle.office_store.specs.Finding.Latest.{latest_held, HasReadableMoments}
use Rattle.office_store.proofs.FindingLemmas.Looking.{reported_of}
use Rattle.office_store.proofs.FindingLemmas.Found.{answered, passed_on}
use Rattle.office_store.proofs.FindingLemmas.LatestRows.{IsMoment, holds_tell}
use Rattle.office_store.proofs.finding.last_moment.held.Goals as goal

pub returns-in_err-latest_hold : goal.returns-in_err-latest_hold
returns-in_err-latest_hold g c =
    passed_on g.S.Store c.args.conn.now c.latest_hold.new.conn c.in_err-latest_hold.field-0.0 c.from_residual-in_err-latest_hold.result _ _ _ _
    (reported_of g.S.Store c.args.conn.now c.check_open.new.conn (record { mode = c.in_ok-check_open.ensures.autocommit; opened = c.in_ok-check_open.ensures.opened; kept = c.in_ok-check_open.ensures.kept; survives = c.in_ok-check_open.ensures.survives })
    c.latest_hold.new.conn holds hold_columns IsSoundHeld (Err c.in_err-latest_hold.field-0.0) (IsLast every HasHoldMoment hold_moment) c.in_err-latest_hold.ensures.finds (IsMoment latest_held) HasReadableMoments holds_tell)
    (λ facts sound. sound) c.from_residual-in_err-latest_hold.ensures.1

pub returns : goal.returns
returns g c =
    answered g.S.Store c.args.conn.now c.latest_hold.new.conn c.in_ok-latest_hold.field-0 c.unwrap_or.result _ _ _ _
    (reported_of g.S.Store c.args.conn.now c.check_open.new.conn (record { mode = c.in_ok-check_open.ensures.autocommit; opened = c.in_ok-check_open.ensures.opened; kept = c.in_ok-check_open.ensures.kept; survives = c.in_ok-check_open.ensures.survives })
    c.latest_hold.new.conn holds hold_columns IsSoundHeld (Ok c.in_ok-latest_hold.field-0) (IsLast every HasHoldMoment hold_moment) c.in_ok-latest_hold.ensures.finds (IsMoment latest_held) HasReadableMoments holds_tell)
    (λ facts h. c.unwrap_or.ensures ∙ h)

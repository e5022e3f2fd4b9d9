use Rattle.std.proofs.Common.{Ok, Err, ◌∙◌}
use Rattle.store_tables.specs.Answer.{IsLast, every}
use Rattle.store_tables.specs.Polls.Trees.{replies}
use Rattle.store_tables.specs.Polls.Rows.{reply_columns, reply_moment, HasReplyMoment, IsSoundKept}
use Rattle.office_store.specs.Finding.Latest.{latest_replied, HasReadableMoments}
use Rattle.office_store.proofs.FindingLemmas.Looking.{reported_of}
use Rattle.office_store.proofs.FindingLemmas.Found.{answered, passed_on}
use Rattle.office_store.proofs.FindingLemmas.LatestRows.{IsMoment, replies_tell}
use Rattle.office_store.proofs.finding.last_moment.replied.Goals as goal

pub returns-in_err-latest_reply : goal.returns-in_err-latest_reply
returns-in_err-latest_reply g c =
    passed_on g.S.Store c.args.conn.now c.latest_reply.new.conn c.in_err-latest_reply.field-0.0 c.from_residual-in_err-latest_reply.result _ _ _ _
    (reported_of g.S.Store c.args.conn.now c.check_open.new.conn (record { mode = c.in_ok-check_open.ensures.autocommit; opened = c.in_ok-check_open.ensures.opened; kept = c.in_ok-check_open.ensures.kept; survives = c.in_ok-check_open.ensures.survives })
    c.latest_reply.new.conn replies reply_columns IsSoundKept (Err c.in_err-latest_reply.field-0.0) (IsLast every HasReplyMoment reply_moment) c.in_err-latest_reply.ensures.finds (IsMoment latest_replied) HasReadableMoments replies_tell)
    (λ facts sound. sound) c.from_residual-in_err-latest_reply.ensures.1

pub returns : goal.returns
returns g c =
    answered g.S.Store c.args.conn.now c.latest_reply.new.conn c.in_ok-latest_reply.field-0 c.unwrap_or.result _ _ _ _
    (reported_of g.S.Store c.args.conn.now c.check_open.new.conn (record { mode = c.in_ok-check_open.ensures.autocommit; opened = c.in_ok-check_open.ensures.opened; kept = c.in_ok-check_open.ensures.kept; survives = c.in_ok-check_open.ensures.survives })
    c.latest_reply.new.conn replies reply_columns IsSoundKept (Ok c.in_ok-latest_reply.field-0) (IsLast every HasReplyMoment reply_moment) c.in_ok-latest_reply.ensures.finds (IsMoment latest_replied) HasReadableMoments replies_tell)
    (λ facts h. c.unwrap_or.ensures ∙ h)

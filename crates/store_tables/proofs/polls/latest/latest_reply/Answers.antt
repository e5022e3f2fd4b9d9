use Rattle.std.proofs.Common.{ap, ◌∙◌}
use Rattle.store_tables.specs.Answer.{LastFirst, every}
use Rattle.store_tables.specs.Limits.{latest_moment}
use Rattle.store_tables.specs.Columns.{first_in}
use Rattle.store_tables.proofs.Selects.{found_none, last_some}
use Rattle.store_tables.proofs.LookUps.{at_most, looked_number, refused}
use Rattle.store_tables.specs.Polls.Rows.{HasReplyMoment, IsSoundKept, reply_columns, reply_moment, reply_moment_shown}
use Rattle.store_tables.specs.Polls.Trees.{replies}
use Rattle.store_tables.proofs.PollsLemmas.ReadRows as reading
use Rattle.store_tables.proofs.polls.latest.latest_reply.Goals as goal

pub returns-clause-finds : goal.returns-clause-finds
returns-clause-finds g c =
    looked_number g.S.Store c.args.conn.now c.reply_rows.new.conn replies reply_columns IsSoundKept c.in_ok-rows.ensures.asks every (LastFirst reply_moment) reply_moment_shown c.in_ok-rows.rows.items c.in_ok-rows.ensures.shows _
    0 latest_moment reply_moment reading.reads_reply_moment (found_none every HasReplyMoment (LastFirst reply_moment)) (last_some every HasReplyMoment reply_moment) c.first_whole.result (c.first_whole.ensures.read ∙ ap (first_in 0 latest_moment) c.deref.ensures.value)

pub returns-clause-sound : goal.returns-clause-sound
returns-clause-sound g c = at_most 0 latest_moment c.first_whole.result c.first_whole.ensures.bounds

pub returns-in_err-rows-clause-finds : goal.returns-in_err-rows-clause-finds
returns-in_err-rows-clause-finds g c =
    refused g.S.Store c.args.conn.now c.reply_rows.new.conn replies reply_columns IsSoundKept _ c.in_err-rows.ensures.asks c.in_err-rows.field-0.0 c.from_residual.result c.in_err-rows.ensures.shows c.from_residual.ensures.1

use Rattle.std.proofs.Common.{ap, ◌∙◌}
use Rattle.store_tables.specs.Answer.{LastFirst, every}
use Rattle.store_tables.specs.Limits.{greatest_place}
use Rattle.store_tables.specs.Columns.{first_in}
use Rattle.store_tables.proofs.Selects.{found_none, last_some}
use Rattle.store_tables.proofs.LookUps.{looked_number, refused}
use Rattle.store_tables.specs.Polls.Rows.{HasNumber, IsSoundStarted, number_shown, poll_columns, poll_number}
use Rattle.store_tables.specs.Polls.Trees.{polls}
use Rattle.store_tables.proofs.PollsLemmas.ReadRows as reading
use Rattle.store_tables.proofs.polls.polls.last_poll.Goals as goal

pub returns-clause-finds : goal.returns-clause-finds
returns-clause-finds g c =
    looked_number g.S.Store c.args.conn.now c.last_rows.new.conn polls poll_columns IsSoundStarted c.in_ok-rows.ensures.asks every (LastFirst poll_number) number_shown c.in_ok-rows.rows.items c.in_ok-rows.ensures.shows _
    1 greatest_place poll_number reading.reads_poll_number (found_none every HasNumber (LastFirst poll_number)) (last_some every HasNumber poll_number) c.first_whole.result (c.first_whole.ensures.read ∙ ap (first_in 1 greatest_place) c.deref.ensures.value)

pub returns-clause-sound : goal.returns-clause-sound
returns-clause-sound g c = c.first_whole.ensures.bounds

pub returns-in_err-rows-clause-finds : goal.returns-in_err-rows-clause-finds
returns-in_err-rows-clause-finds g c =
    refused g.S.Store c.args.conn.now c.last_rows.new.conn polls poll_columns IsSoundStarted _ c.in_err-rows.ensures.asks c.in_err-rows.field-0.0 c.from_residual.result c.in_err-rows.ensures.shows c.from_residual.ensures.1

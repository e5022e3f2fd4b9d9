use Rattle.std.proofs.Common.{ap, ◌∙◌}
use Rattle.store_tables.specs.Answer.{LastFirst, every}
use Rattle.store_tables.specs.Limits.{latest_moment}
use Rattle.store_tables.specs.Columns.{first_in}
use Rattle.store_tables.proofs.Selects.{found_none, last_some}
use Rattle.store_tables.proofs.LookUps.{at_most, looked_number, refused}
use Rattle.store_tables.specs.Polls.Rows.{HasOutcomeMoment, IsSoundOutcome, outcome_columns, outcome_moment, outcome_moment_shown}
use Rattle.store_tables.specs.Polls.Trees.{outcomes}
use Rattle.store_tables.proofs.PollsLemmas.ReadRows as reading
use Rattle.store_tables.proofs.polls.latest.latest_outcome.Goals as goal

pub returns-clause-finds : goal.returns-clause-finds
returns-clause-finds g c =
    looked_number g.S.Store c.args.conn.now c.outcome_rows.new.conn outcomes outcome_columns IsSoundOutcome c.in_ok-rows.ensures.asks every (LastFirst outcome_moment) outcome_moment_shown c.in_ok-rows.rows.items c.in_ok-rows.ensures.shows _
    0 latest_moment outcome_moment reading.reads_outcome_moment (found_none every HasOutcomeMoment (LastFirst outcome_moment)) (last_some every HasOutcomeMoment outcome_moment) c.first_whole.result (c.first_whole.ensures.read ∙ ap (first_in 0 latest_moment) c.deref.ensures.value)

pub returns-clause-sound : goal.returns-clause-sound
returns-clause-sound g c = at_most 0 latest_moment c.first_whole.result c.first_whole.ensures.bounds

pub returns-in_err-rows-clause-finds : goal.returns-in_err-rows-clause-finds
returns-in_err-rows-clause-finds g c =
    refused g.S.Store c.args.conn.now c.outcome_rows.new.conn outcomes outcome_columns IsSoundOutcome _ c.in_err-rows.ensures.asks c.in_err-rows.field-0.0 c.from_residual.result c.in_err-rows.ensures.shows c.from_residual.ensures.1

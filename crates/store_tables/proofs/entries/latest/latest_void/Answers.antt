use Rattle.std.proofs.Common.{ap, ◌∙◌}
use Rattle.store_tables.specs.Answer.{LastFirst, every}
use Rattle.store_tables.specs.Limits.{latest_moment}
use Rattle.store_tables.specs.Columns.{first_in}
use Rattle.store_tables.proofs.Selects.{found_none, last_some}
use Rattle.store_tables.proofs.LookUps.{at_most, looked_number, refused}
use Rattle.store_tables.specs.Entries.Rows.{voided_columns}
use Rattle.store_tables.specs.Entries.Latest.{HasVoidMoment, IsTimelyVoid, void_moment, void_moment_shown}
use Rattle.store_tables.specs.Entries.Trees.{voids}
use Rattle.store_tables.proofs.EntriesLemmas.ReadRows as reading
use Rattle.store_tables.proofs.entries.latest.latest_void.Goals as goal

pub returns-clause-finds : goal.returns-clause-finds
returns-clause-finds g c =
    looked_number g.S.Store c.args.conn.now c.void_moments.new.conn voids voided_columns IsTimelyVoid c.in_ok-rows.ensures.asks every (LastFirst void_moment) void_moment_shown c.in_ok-rows.rows.items c.in_ok-rows.ensures.shows _
    0 latest_moment void_moment reading.reads_void_moment (found_none every HasVoidMoment (LastFirst void_moment)) (last_some every HasVoidMoment void_moment) c.first_whole.result (c.first_whole.ensures.read ∙ ap (first_in 0 latest_moment) c.deref.ensures.value)

pub returns-clause-sound : goal.returns-clause-sound
returns-clause-sound g c = at_most 0 latest_moment c.first_whole.result c.first_whole.ensures.bounds

pub returns-in_err-rows-clause-finds : goal.returns-in_err-rows-clause-finds
returns-in_err-rows-clause-finds g c =
    refused g.S.Store c.args.conn.now c.void_moments.new.conn voids voided_columns IsTimelyVoid _ c.in_err-rows.ensures.asks c.in_err-rows.field-0.0 c.from_residual.result c.in_err-rows.ensures.shows c.from_residual.ensures.1

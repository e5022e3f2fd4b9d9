use Rattle.std.proofs.Common.{ap, ◌∙◌}
use Rattle.store_tables.specs.Answer.{LastFirst, every}
use Rattle.store_tables.specs.Limits.{latest_moment}
use Rattle.store_tables.specs.Columns.{first_in}
use Rattle.store_tables.proofs.Selects.{found_none, last_some}
use Rattle.store_tables.proofs.LookUps.{at_most, looked_number, refused}
use Rattle.store_tables.specs.Entries.Rows.{IsSoundEntered, entry_columns}
use Rattle.store_tables.specs.Entries.Latest.{HasEntryMoment, entry_moment, entry_moment_shown}
use Rattle.store_tables.specs.Entries.Trees.{entries}
use Rattle.store_tables.proofs.EntriesLemmas.ReadRows as reading
use Rattle.store_tables.proofs.entries.latest.latest_entry.Goals as goal

pub returns-clause-finds : goal.returns-clause-finds
returns-clause-finds g c =
    looked_number g.S.Store c.args.conn.now c.entry_moments.new.conn entries entry_columns IsSoundEntered c.in_ok-rows.ensures.asks every (LastFirst entry_moment) entry_moment_shown c.in_ok-rows.rows.items c.in_ok-rows.ensures.shows _
    0 latest_moment entry_moment reading.reads_entry_moment (found_none every HasEntryMoment (LastFirst entry_moment)) (last_some every HasEntryMoment entry_moment) c.first_whole.result (c.first_whole.ensures.read ∙ ap (first_in 0 latest_moment) c.deref.ensures.value)

pub returns-clause-sound : goal.returns-clause-sound
returns-clause-sound g c = at_most 0 latest_moment c.first_whole.result c.first_whole.ensures.bounds

pub returns-in_err-rows-clause-finds : goal.returns-in_err-rows-clause-finds
returns-in_err-rows-clause-finds g c =
    refused g.S.Store c.args.conn.now c.entry_moments.new.conn entries entry_columns IsSoundEntered _ c.in_err-rows.ensures.asks c.in_err-rows.field-0.0 c.from_residual.result c.in_err-rows.ensures.shows c.from_residual.ensures.1

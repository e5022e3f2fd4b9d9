-- Definitions of when the tables of the store encode a list of records. The rules for records (for
-- example, device names are unique) accepted these records one after another.
use Rattle.std.specs.Prelude.{ℕ, pos, List, [], ◌∷◌, map}
use Rattle.std.specs.List.{filter}
use Rattle.std.specs.List.Sorted.{IsPermutation}
use Rattle.sqlite.specs.declared.types.Value.TheVariants.{Null, Int, Text}
use Rattle.sqlite.specs.Order.{Row}
use Rattle.office_events.specs.declared.facts.Fact.{Fact}
use Rattle.office_books.specs.Facts.{devices_in, registers_in, openings_in, holds_in, voids_in, replies_in, polls_in, ended_in}
use Rattle.office_books.specs.Intervals.{rows_of_meter}
use Rattle.office_books.specs.Lawful.{AreLawful}
use Rattle.store_tables.specs.Content.{Content, HasRows}
use Rattle.store_tables.specs.Devices.Trees as list_tree
use Rattle.store_tables.specs.Devices.Rows.{Listed, device_columns, point_columns, register_columns, is_point_of}
use Rattle.store_tables.specs.Meters.Trees as meter_tree
use Rattle.store_tables.specs.Meters.Rows.{installed_columns, ranged_columns}
use Rattle.store_tables.specs.Entries.Trees as entry_tree
use Rattle.store_tables.specs.Entries.Rows.{Entered, entry_columns, voided_columns, is_of as is_entry_of}
use Rattle.office_store.specs.Intervals.Trees as interval_tree
use Rattle.office_store.specs.Intervals.Rows.{Interval, interval_columns, is_of as is_interval_of}
use Rattle.store_tables.specs.Polls.Trees as poll_tree
use Rattle.store_tables.specs.Polls.Rows.{poll_columns, outcome_columns, hold_columns, reply_columns}
use Rattle.office_store.specs.Rows.{placed, placed_on, added, listed, points_of, registered, installed_row, ranged, entries_of, voided, interval_of, started, outcome_row, held_row, kept}

-- The number of the B-tree that stores the table `meta`. Its one row has the version of the file
-- and the time zone of the civil days.
abbrev pub meta_tree : ℕ
meta_tree = 0

-- The columns of the only row of the table `meta` in a file of version 3: the version and the time
-- zone.
abbrev pub meta_columns : (zone : List ℕ) → Row
meta_columns zone = Int (pos 1) ∷ Null ∷ Int (pos 3) ∷ Text zone ∷ []

-- True if the rows of `points` encode each device's latest list of SunSpec points in the records,
-- in the order of that list.
pub record ArePoints (facts : List Fact) (content : Content) : Type 0 where
  pub rows : List Listed
  pub there : HasRows list_tree.points point_columns rows content
  pub each : (device : List ℕ)
      → IsPermutation (filter (is_point_of device) rows)
      (placed_on (listed device) 0 (points_of facts device))

-- True if the rows of `entries` encode all entries of each meter in the records, from its opening
-- (made at installation).
pub record AreEntries (facts : List Fact) (content : Content) : Type 0 where
  pub rows : List Entered
  pub there : HasRows entry_tree.entries entry_columns rows content
  pub each : (meter : List ℕ)
      → IsPermutation (filter (is_entry_of meter) rows) (entries_of facts meter)

-- True if the rows of `intervals` encode the energy of each meter by quarter hours, as computed
-- from the records.
pub record AreIntervals (facts : List Fact) (content : Content) : Type 0 where
  pub rows : List Interval
  pub there : HasRows interval_tree.intervals interval_columns rows content
  pub each : (meter : List ℕ)
      → IsPermutation (filter (is_interval_of meter) rows)
      (map (interval_of meter) (rows_of_meter facts meter))

-- True if the tables encode the time zone `zone` and the records `facts`. The records are listed
-- latest first, and the rules for records accepted each record after the earlier ones.
pub record AreOf (zone : List ℕ) (facts : List Fact) (content : Content) : Type 0 where
  pub lawful : AreLawful facts
  pub meta : HasRows meta_tree meta_columns (zone ∷ []) content
  pub devices : HasRows list_tree.devices device_columns (placed added (devices_in facts)) content
  pub points : ArePoints facts content
  pub registers : HasRows list_tree.registers register_columns
      (placed registered (registers_in facts)) content
  pub installations : HasRows meter_tree.installations installed_columns
      (placed (installed_row facts) (openings_in facts)) content
  pub ranges : HasRows meter_tree.ranges ranged_columns (map ranged (openings_in facts)) content
  pub entries : AreEntries facts content
  pub voids : HasRows entry_tree.voids voided_columns (map voided (voids_in facts)) content
  pub polls : HasRows poll_tree.polls poll_columns (map started (polls_in facts)) content
  pub holds : HasRows poll_tree.holds hold_columns (placed held_row (holds_in facts)) content
  pub outcomes : HasRows poll_tree.outcomes outcome_columns (map outcome_row (ended_in facts))
      content
  pub intervals : AreIntervals facts content
  pub replies : HasRows poll_tree.replies reply_columns (map kept (replies_in facts)) content

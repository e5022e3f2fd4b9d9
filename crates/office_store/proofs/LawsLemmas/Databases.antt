-- Proofs that two lists of records are equal up to order if one database encodes both lists.
use Rattle.std.proofs.Common.{ℕ, List, [], ◌∷◌, map, refl}
use Rattle.std.proofs.lemmas.List.Sorted.{IsPermutation-sym, IsPermutation-trans}
use Rattle.sqlite.specs.Order.{Row}
use Rattle.sqlite.specs.Effect.{Database}
use Rattle.office_events.specs.declared.facts.Fact.{Fact}
use Rattle.office_books.specs.Facts.{devices_in, registers_in, openings_in, holds_in, voids_in, replies_in, polls_in, ended_in}
use Rattle.store_tables.specs.Schema.{books_schema, meta_table, devices_table, points_table, registers_table, installations_table, entries_table, polls_table, holds_table, outcomes_table, intervals_table, replies_table, ranges_table, voids_table}
use Rattle.store_tables.specs.Content.{Content, HasTree, AreTables, HasRows}
use Rattle.store_tables.proofs.Frames.{tree_at}
use Rattle.store_tables.specs.Devices.Trees as list_tree
use Rattle.store_tables.specs.Devices.Rows.{device_columns, point_columns, register_columns}
use Rattle.store_tables.specs.Meters.Trees as meter_tree
use Rattle.store_tables.specs.Meters.Rows.{installed_columns, ranged_columns}
use Rattle.store_tables.specs.Entries.Trees as entry_tree
use Rattle.store_tables.specs.Entries.Rows.{entry_columns, voided_columns}
use Rattle.office_store.specs.Intervals.Trees as interval_tree
use Rattle.office_store.specs.Intervals.Rows.{interval_columns}
use Rattle.store_tables.specs.Polls.Trees as poll_tree
use Rattle.store_tables.specs.Polls.Rows.{poll_columns, outcome_columns, hold_columns, reply_columns}
use Rattle.office_store.specs.Rows.{placed, added, registered, installed_row, ranged, voided, started, outcome_row, held_row, kept}
use Rattle.office_store.specs.Tables.{meta_tree, meta_columns, AreOf}
use Rattle.office_store.specs.Laws.Laws.{TablesTellTheirFacts, DatabasesTellTheirFacts}

-- Lemmas on two contents that the tables of one database have. The contents have the same rows,
-- possibly in another order, so they encode the same records.
module _ (db : Database) (content after : Content) (had : AreTables db content) (has : AreTables db after) where
  same_rows : {X : Type 0} (tree : ℕ) (columns : X → Row) (rows : List X) → HasTree books_schema.tables tree → HasRows tree columns rows content → HasRows tree columns rows after
  same_rows tree columns rows there are =
      IsPermutation-trans (map columns rows) (content tree) (after tree) are
      (IsPermutation-trans (content tree) _ (after tree) (IsPermutation-sym _ (content tree) (had.rows tree there)) (has.rows tree there))

  reported_again : (zone : List ℕ) (facts : List Fact) → AreOf zone facts content → AreOf zone facts after
  reported_again zone facts a = record {
    lawful = a.lawful;
    meta = same_rows meta_tree meta_columns (zone ∷ []) (tree_at books_schema.tables 0 meta_table refl) a.meta;
    devices = same_rows list_tree.devices device_columns (placed added (devices_in facts)) (tree_at books_schema.tables 1 devices_table refl) a.devices;
    points = record {
      rows = a.points.rows;
      there = same_rows list_tree.points point_columns a.points.rows (tree_at books_schema.tables 2 points_table refl) a.points.there;
      each = a.points.each;
    };
    registers = same_rows list_tree.registers register_columns (placed registered (registers_in facts)) (tree_at books_schema.tables 3 registers_table refl) a.registers;
    installations =
        same_rows meter_tree.installations installed_columns (placed (installed_row facts) (openings_in facts)) (tree_at books_schema.tables 4 installations_table refl) a.installations;
    ranges = same_rows meter_tree.ranges ranged_columns (map ranged (openings_in facts)) (tree_at books_schema.tables 11 ranges_table refl) a.ranges;
    entries = record {
      rows = a.entries.rows;
      there = same_rows entry_tree.entries entry_columns a.entries.rows (tree_at books_schema.tables 5 entries_table refl) a.entries.there;
      each = a.entries.each;
    };
    voids = same_rows entry_tree.voids voided_columns (map voided (voids_in facts)) (tree_at books_schema.tables 12 voids_table refl) a.voids;
    polls = same_rows poll_tree.polls poll_columns (map started (polls_in facts)) (tree_at books_schema.tables 6 polls_table refl) a.polls;
    holds = same_rows poll_tree.holds hold_columns (placed held_row (holds_in facts)) (tree_at books_schema.tables 7 holds_table refl) a.holds;
    outcomes = same_rows poll_tree.outcomes outcome_columns (map outcome_row (ended_in facts)) (tree_at books_schema.tables 8 outcomes_table refl) a.outcomes;
    intervals = record {
      rows = a.intervals.rows;
      there = same_rows interval_tree.intervals interval_columns a.intervals.rows (tree_at books_schema.tables 9 intervals_table refl) a.intervals.there;
      each = a.intervals.each;
    };
    replies = same_rows poll_tree.replies reply_columns (map kept (replies_in facts)) (tree_at books_schema.tables 10 replies_table refl) a.replies;
  }

pub databases_give_their_records : TablesTellTheirFacts → DatabasesTellTheirFacts
databases_give_their_records law zone others_zone facts others db a b =
    law zone others_zone facts others a.content a.are (reported_again db b.content a.content b.tables a.tables others_zone others b.are)

-- Proofs that a file that was just created encodes no records, and that opening a file of any
-- version keeps its records.
use Rattle.std.proofs.Common.{◌≡◌, ◌≢◌, ◌==◌, ◌⊎◌, inl, inr, ◌||◌, Bool, true, false, ℕ, List, [], ◌∷◌, ◌++◌, map, take, drop, sym, subst, refl, ◌∙◌, IsPermutation, arith}
use Rattle.std.specs.Prelude.{All}
use Rattle.std.specs.List.{list_any}
use Rattle.std.proofs.lemmas.Bool.Decides.{nat_tests}
use Rattle.std.proofs.lemmas.List.Elements.{All-head, All-tail}
use Rattle.std.proofs.lemmas.List.Sorted.{IsPermutation-refl}
use Rattle.sqlite.specs.Order.{Row}
use Rattle.sqlite.specs.Table.{Table}
use Rattle.sqlite.specs.Effect.{Database}
use Rattle.office_events.specs.declared.facts.Opening.{Opening}
use Rattle.office_events.specs.declared.facts.Fact.{Fact}
use Rattle.office_books.specs.Facts.{devices_in, registers_in, openings_in, holds_in, voids_in, replies_in, polls_in, ended_in}
use Rattle.store_tables.specs.Content.{Content, HasRows, HasTree}
use Rattle.store_tables.specs.Schema.{books_schema}
use Rattle.store_tables.specs.Devices.Trees as list_tree
use Rattle.store_tables.specs.Devices.Rows.{device_columns, point_columns, register_columns}
use Rattle.store_tables.specs.Meters.Trees as meter_tree
use Rattle.store_tables.specs.Meters.Rows.{installed_columns, ranged_columns}
use Rattle.store_tables.specs.Entries.Trees as entry_tree
use Rattle.store_tables.specs.Entries.Rows.{entry_columns, voided_columns}
use Rattle.office_store.specs.Intervals.Trees as interval_tree
use Rattle.office_store.specs.Intervals.Rows.{interval_columns}
use Rattle.store_tables.specs.Polls.Trees as poll_tree
use Rattle.store_tables.specs.Polls.Rows.{poll_columns, outcome_columns, hold_columns, reply_columns}
use Rattle.store_tables.specs.declared.layouts.Layout.{Layout}
use Rattle.store_tables.specs.declared.layouts.Layout.TheVariants.{First, Second, Third}
use Rattle.store_tables.specs.Layouts.{first_tables, schema_of}
use Rattle.store_tables.specs.Upgrade.{full_range, IsBrought}
use Rattle.office_store.specs.Rows.{placed, added, registered, installed_row, ranged, voided, started, outcome_row, held_row, kept}
use Rattle.office_store.proofs.Recorded.{stay, points_stay, entries_stay, intervals_stay}
use Rattle.office_store.specs.Laws.Files.{HasFullRange, HasFactsIn, NewFilesHaveNone, NewestFilesHaveTheirs, OpenedFilesKeepTheirs}

none : {X : Type 0} (tree : ℕ) (columns : X → Row) (content : Content) → content tree ≡ [] → HasRows tree columns [] content
none tree columns content empty = subst (IsPermutation []) (sym empty) (IsPermutation-refl [])

pub new_files_have_none : NewFilesHaveNone
new_files_have_none zone content new = record {
  lawful = tt;
  meta = new.marked;
  devices = none list_tree.devices device_columns content (new.empty 1 (λ is. omega (arith, is)));
  points = record {
    rows = [];
    there = none list_tree.points point_columns content (new.empty 3 (λ is. omega (arith, is)));
    each = λ device. IsPermutation-refl [];
  };
  registers = none list_tree.registers register_columns content (new.empty 5 (λ is. omega (arith, is)));
  installations = none meter_tree.installations installed_columns content (new.empty 7 (λ is. omega (arith, is)));
  ranges = none meter_tree.ranges ranged_columns content (new.empty 18 (λ is. omega (arith, is)));
  entries = record {
    rows = [];
    there = none entry_tree.entries entry_columns content (new.empty 9 (λ is. omega (arith, is)));
    each = λ meter. IsPermutation-refl [];
  };
  voids = none entry_tree.voids voided_columns content (new.empty 20 (λ is. omega (arith, is)));
  polls = none poll_tree.polls poll_columns content (new.empty 11 (λ is. omega (arith, is)));
  holds = none poll_tree.holds hold_columns content (new.empty 12 (λ is. omega (arith, is)));
  outcomes = none poll_tree.outcomes outcome_columns content (new.empty 13 (λ is. omega (arith, is)));
  intervals = record {
    rows = [];
    there = none interval_tree.intervals interval_columns content (new.empty 14 (λ is. omega (arith, is)));
    each = λ meter. IsPermutation-refl [];
  };
  replies = none poll_tree.replies reply_columns content (new.empty 16 (λ is. omega (arith, is)));
}

-- Lemmas on the tables of the three versions of the database file: every version has the tables of
-- version 1.

either : (b c : Bool) → (b || c) ≡ true → (b ≡ true) ⊎ (c ≡ true)
either true c is = inl refl
either false c is = inr is

same_tree : (a b : ℕ) → (a == b) ≡ true → b ≡ a
same_tree a b is = grind (arith, nat_tests)

other_tree : (a b : ℕ) → (a == b) ≡ false → a ≢ b
other_tree a b off is = grind (arith, nat_tests)

-- If a search by number finds the B-tree `t` in a list of tables, then a table of the list has this
-- B-tree.
has_tree : (tables : List Table) (t : ℕ) → list_any (λ (x : Table). x.tree == t) tables ≡ true → HasTree tables t
has_tree [] t is = absurd (cc)
has_tree (x ∷ tables) t is = elim (either (x.tree == t) (list_any (λ (y : Table). y.tree == t) tables) is) [
  | inl here ↦ inl (same_tree x.tree t here)
  | inr there ↦ inr (has_tree tables t there)
]

-- If tables are appended to a list of tables, the new list still has the B-trees of all tables in
-- the old list.
widened : (tables more : List Table) (t : ℕ) → HasTree tables t → HasTree (tables ++ more) t
widened [] more t has = absurd has
widened (x ∷ tables) more t (inl is) = inl is
widened (x ∷ tables) more t (inr there) = inr (widened tables more t there)

-- Every version of the database file has all tables of version 1.
in_each : (layout : Layout) (t : ℕ) → HasTree (first_tables 11).tables t → HasTree (schema_of layout).tables t
in_each First t has = has
in_each Second t has = widened (first_tables 11).tables (take 1 (drop 11 books_schema.tables)) t has
in_each Third t has = widened (first_tables 11).tables (drop 11 books_schema.tables) t has

-- If each meter's counter has 2^32 values, the rows of `ranges` that an upgrade inserts equal the
-- recorded ranges of the counters.
full_ranges : (facts : List Fact) (openings : List Opening) → All HasFullRange openings
    → map full_range (placed (installed_row facts) openings) ≡ map ranged openings
full_ranges facts [] full = refl
full_ranges facts (opening ∷ openings) full =
    let here : 4294967296 ≡ opening.range = sym (All-head HasFullRange opening openings full) in
    let rest = full_ranges facts openings (All-tail HasFullRange opening openings full) in
    λ i. record { meter = opening.meter; range = here i } ∷ rest i

-- Lemmas that after a database file of any version was opened, the tables encode the records of the
-- file.

has_ranges : (layout : Layout) (zone : List ℕ) (facts : List Fact) (db : Database) (it : HasFactsIn layout zone facts db) (after : Content)
    → IsBrought layout zone it.content after → HasRows meter_tree.ranges ranged_columns (map ranged (openings_in facts)) after
has_ranges First zone facts db it after brought =
    let rows = placed (installed_row facts) (openings_in facts) in
    let there = it.same meter_tree.installations (has_tree (schema_of First).tables 7 refl) (other_tree 7 0 refl) in
    subst (λ rs. HasRows meter_tree.ranges ranged_columns rs after) (full_ranges facts (openings_in facts) it.fit.0)
    (brought.with_ranges rows (stay meter_tree.installations installed_columns rows it.newest it.content there it.are.installations))
has_ranges Second zone facts db it after brought =
    let there = it.same meter_tree.ranges (has_tree (schema_of Second).tables 18 refl) (other_tree 18 0 refl) in
    stay meter_tree.ranges ranged_columns (map ranged (openings_in facts)) it.newest after (brought.with_ranges ∙ there) it.are.ranges
has_ranges Third zone facts db it after brought =
    let there = it.same meter_tree.ranges (has_tree (schema_of Third).tables 18 refl) (other_tree 18 0 refl) in
    stay meter_tree.ranges ranged_columns (map ranged (openings_in facts)) it.newest after (brought.with_ranges ∙ there) it.are.ranges

has_no_voids : (facts : List Fact) (after : Content) → voids_in facts ≡ [] → after entry_tree.voids ≡ []
    → HasRows entry_tree.voids voided_columns (map voided (voids_in facts)) after
has_no_voids facts after none_in empty =
    subst (λ vs. HasRows entry_tree.voids voided_columns (map voided vs) after) (sym none_in) (none entry_tree.voids voided_columns after empty)

has_voids : (layout : Layout) (zone : List ℕ) (facts : List Fact) (db : Database) (it : HasFactsIn layout zone facts db) (after : Content)
    → IsBrought layout zone it.content after → HasRows entry_tree.voids voided_columns (map voided (voids_in facts)) after
has_voids First zone facts db it after brought = has_no_voids facts after it.fit.1 brought.with_voids
has_voids Second zone facts db it after brought = has_no_voids facts after it.fit brought.with_voids
has_voids Third zone facts db it after brought =
    let there = it.same entry_tree.voids (has_tree (schema_of Third).tables 20 refl) (other_tree 20 0 refl) in
    stay entry_tree.voids voided_columns (map voided (voids_in facts)) it.newest after (brought.with_voids ∙ there) it.are.voids

pub opened_files_keep_theirs : OpenedFilesKeepTheirs
opened_files_keep_theirs layout zone facts db it after brought =
    let a = it.are in
    let carried = λ (t : ℕ) (there : list_any (λ (x : Table). x.tree == t) (first_tables 11).tables ≡ true) (off : (t == 0) ≡ false) (on : (t == 18) ≡ false) (away : (t == 20) ≡ false).
    brought.others t (other_tree t 0 off) (other_tree t 18 on) (other_tree t 20 away) ∙ it.same t (in_each layout t (has_tree (first_tables 11).tables t there)) (other_tree t 0 off) in
    record {
      lawful = a.lawful;
      meta = brought.marked;
      devices = stay list_tree.devices device_columns (placed added (devices_in facts)) it.newest after (carried 1 refl refl refl refl) a.devices;
      points = points_stay facts facts it.newest after (carried 3 refl refl refl refl) (λ device. refl) a.points;
      registers = stay list_tree.registers register_columns (placed registered (registers_in facts)) it.newest after (carried 5 refl refl refl refl) a.registers;
      installations = stay meter_tree.installations installed_columns (placed (installed_row facts) (openings_in facts)) it.newest after (carried 7 refl refl refl refl) a.installations;
      ranges = has_ranges layout zone facts db it after brought;
      entries = entries_stay facts facts it.newest after (carried 9 refl refl refl refl) (λ meter. refl) a.entries;
      voids = has_voids layout zone facts db it after brought;
      polls = stay poll_tree.polls poll_columns (map started (polls_in facts)) it.newest after (carried 11 refl refl refl refl) a.polls;
      holds = stay poll_tree.holds hold_columns (placed held_row (holds_in facts)) it.newest after (carried 12 refl refl refl refl) a.holds;
      outcomes = stay poll_tree.outcomes outcome_columns (map outcome_row (ended_in facts)) it.newest after (carried 13 refl refl refl refl) a.outcomes;
      intervals = intervals_stay facts facts it.newest after (carried 14 refl refl refl refl) (λ meter. refl) a.intervals;
      replies = stay poll_tree.replies reply_columns (map kept (replies_in facts)) it.newest after (carried 16 refl refl refl refl) a.replies;
    }

-- Suppose that opening a file keeps its records. Then two definitions of the records that a file of
-- version 3 encodes agree: `HasFactsIn` (for files of any version) and `HasFacts` (for current
-- tables).
pub newest_files_have_theirs : OpenedFilesKeepTheirs → NewestFilesHaveTheirs
newest_files_have_theirs keep zone facts db = (
  λ it. record {
    content = it.content;
    tables = it.file.tables;
    are = keep Third zone facts db it it.content (record { marked = it.file.marked; with_ranges = refl; with_voids = refl; others = λ t off on away. refl });
  },
  λ has. record {
    content = has.content;
    file = record { tables = has.tables; marked = has.are.meta };
    newest = has.content;
    are = has.are;
    same = λ t there off. refl;
    fit = tt;
  },
)

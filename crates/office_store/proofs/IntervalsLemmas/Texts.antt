-- The SQL statements on `intervals` (energy by quarter hour), and what SQLite's parser returns for
-- these statements.
use Rattle.std.proofs.Common.{◌≡◌, List, [], ◌∷◌, codes, ℕ, pos, negsuc, false, Some, None, inl, inr, refl}
use Rattle.sqlite.specs.declared.types.Value.TheVariants.{Null, Int, Text}
use Rattle.sqlite.specs.Order.{Row}
use Rattle.sqlite.specs.Tree.{Trees}
use Rattle.sqlite.specs.Program.{overlay}
use Rattle.sqlite_sql.specs.Program.{QueryOverflows}
use Rattle.sqlite.specs.Term.{Term, lit, col}
use Rattle.sqlite.specs.Query.{Query, inner, end}
use Rattle.sqlite.specs.Source.TheVariants.{Values}
use Rattle.sqlite.specs.Command.TheVariants.{Select, Insert, InsertOr, Delete}
use Rattle.sqlite_schema.specs.declared.command.Conflict.TheVariants.{Abort}
use Rattle.sqlite_schema.specs.declared.command.Upsert.{Upsert}
use Rattle.sqlite_sql.specs.Term.{op2}
use Rattle.sqlite_sql.specs.declared.ops.BinaryOp.TheVariants.{Compare, Arith}
use Rattle.sqlite_sql.specs.declared.ops.CompareOp.TheVariants.{Eq}
use Rattle.sqlite_sql.specs.declared.ops.ArithOp.TheVariants.{Add}
use Rattle.sqlite.specs.Collation.TheVariants.{Binary}
use Rattle.sqlite_tied.specs.Compute.{everything}
use Rattle.sqlite_value.specs.declared.keys.Key.{Key}
use Rattle.sqlite.specs.Listing.{understood, reads_listing}
use Rattle.sqlite.proofs.Callers.{IsPlain, command_of}
use Rattle.store_tables.specs.Schema.{books_schema}
use Rattle.store_tables.proofs.Failures.{Suits, suits_scan}
use Rattle.store_tables.proofs.Scans.{scan, no_limit, is_param, rising}
use Rattle.office_store.proofs.StreamsLemmas.Compared.{is_at_least, is_below}

-- Lemmas on the SQL text of `add_share` (an upsert that adds energy to a row of `intervals`), and
-- on what SQLite parses from this text.

abbrev pub add_share : List ℕ
add_share = codes "INSERT INTO intervals (meter, start, mwh) VALUES (?1, ?2, ?3) ON CONFLICT (meter, start) DO UPDATE SET mwh = mwh + excluded.mwh"

abbrev pub add_share_terms : List Term
add_share_terms = lit Null ∷ col 0 0 ∷ col 0 1 ∷ col 0 2 ∷ []

-- The WHERE clause of the update in an upsert: it selects the existing row by its rowid.
abbrev pub add_share_tests : List Term
add_share_tests = is_param 0 3 ∷ []

abbrev pub add_share_news : List Term
add_share_news = col 1 0 ∷ col 1 1 ∷ col 1 2 ∷ op2 (Arith Add) (col 1 3) (col 0 7) ∷ []

abbrev pub add_share_query : Query
add_share_query = scan 14 add_share_tests (col 1 0 ∷ add_share_news) [] no_limit

abbrev pub add_share_clause : Upsert
add_share_clause = record { target = Some (1 ∷ 2 ∷ []); update = Some (record { lets = []; body = add_share_query }) }

pub add_share_is : command_of (understood books_schema add_share) ≡ InsertOr 9 Abort (Values add_share_terms 4) (add_share_clause ∷ [])
unfolding understood everything
add_share_is = refl

pub add_share_plain : IsPlain (understood books_schema add_share)
unfolding understood everything
add_share_plain = (refl, refl)

-- Lemmas on the SQL text of `insert_row` (an INSERT into `intervals`), and on what SQLite parses
-- from this text.

abbrev pub insert_row : List ℕ
insert_row = codes "INSERT INTO intervals (meter, start, mwh) VALUES (?1, ?2, ?3)"

abbrev pub insert_row_terms : List Term
insert_row_terms = lit Null ∷ col 0 0 ∷ col 0 1 ∷ col 0 2 ∷ []

pub insert_row_is : command_of (understood books_schema insert_row) ≡ Insert 9 (Values insert_row_terms 4)
unfolding understood everything
insert_row_is = refl

pub insert_row_plain : IsPlain (understood books_schema insert_row)
unfolding understood everything
insert_row_plain = (refl, refl)

-- Lemmas on the SQL text of `drop_rows` (a DELETE of a meter's rows of `intervals`), and on what
-- SQLite parses from this text.

abbrev pub drop_rows : List ℕ
drop_rows = codes "DELETE FROM intervals WHERE meter = ?1"

abbrev pub drop_rows_tests : List Term
drop_rows_tests = is_param 1 0 ∷ []

pub drop_rows_is : command_of (understood books_schema drop_rows) ≡ Delete 9 (record { lets = []; body = scan 14 drop_rows_tests (col 1 0 ∷ []) [] no_limit })
unfolding understood everything
drop_rows_is = refl

pub drop_rows_plain : IsPlain (understood books_schema drop_rows)
unfolding understood everything
drop_rows_plain = (refl, refl)

-- Lemmas on the SQL text of `meter_intervals` (a SELECT of a meter's energy by quarter hour), and
-- on what SQLite parses from this text.

abbrev pub meter_intervals : List ℕ
meter_intervals = codes "SELECT start, mwh FROM intervals WHERE meter = ?1 ORDER BY start"

abbrev pub meter_intervals_tests : List Term
meter_intervals_tests = is_param 1 0 ∷ []

abbrev pub shares_project : List Term
shares_project = col 1 2 ∷ col 1 3 ∷ []

abbrev pub meter_intervals_order : List (Term × Key)
meter_intervals_order = (col 1 2, rising) ∷ []

abbrev pub names : List (List ℕ)
names = codes "start" ∷ codes "mwh" ∷ []

pub meter_intervals_is : command_of (understood books_schema meter_intervals) ≡ Select (record { lets = []; body = scan 14 meter_intervals_tests shares_project meter_intervals_order no_limit }) names
unfolding understood everything
meter_intervals_is = refl

pub meter_intervals_unlisted : reads_listing books_schema meter_intervals ≡ false
unfolding understood everything
meter_intervals_unlisted = refl

pub meter_intervals_plain : IsPlain (understood books_schema meter_intervals)
unfolding understood everything
meter_intervals_plain = (refl, refl)

pub meter_intervals_suits : (meter : List ℕ) → Suits books_schema meter_intervals (Text meter ∷ [])
unfolding understood everything
meter_intervals_suits meter = suits_scan 14 meter_intervals_tests shares_project meter_intervals_order no_limit meter_intervals names (Text meter ∷ []) (refl, refl, refl) meter_intervals_plain meter_intervals_unlisted meter_intervals_is refl

-- Lemmas on the SQL text of `meter_intervals_between` (a SELECT of a meter's energy in a time
-- span), and on what SQLite parses from this text.

abbrev pub meter_between : List ℕ
meter_between = codes "SELECT start, mwh FROM intervals WHERE meter = ?1 AND start >= ?2 AND start < ?3 ORDER BY start"

abbrev pub meter_between_tests : List Term
meter_between_tests = is_param 1 0 ∷ is_at_least 1 2 1 ∷ is_below 1 2 2 ∷ []

pub meter_between_is : command_of (understood books_schema meter_between) ≡ Select (record { lets = []; body = scan 14 meter_between_tests shares_project meter_intervals_order no_limit }) names
unfolding understood everything
meter_between_is = refl

pub meter_between_unlisted : reads_listing books_schema meter_between ≡ false
unfolding understood everything
meter_between_unlisted = refl

pub meter_between_plain : IsPlain (understood books_schema meter_between)
unfolding understood everything
meter_between_plain = (refl, refl)

pub meter_between_suits : (meter : List ℕ) (from till : ℕ) → Suits books_schema meter_between (Text meter ∷ Int (pos from) ∷ Int (pos till) ∷ [])
unfolding understood everything
meter_between_suits meter from till =
    suits_scan 14 meter_between_tests shares_project meter_intervals_order no_limit meter_between names (Text meter ∷ Int (pos from) ∷ Int (pos till) ∷ []) (refl, refl, refl) meter_between_plain meter_between_unlisted meter_between_is refl

-- Lemmas on the SQL text of `register_intervals` (a SELECT of the energy of an accounting
-- register's meters), and on what SQLite parses from this text.

abbrev pub register_intervals : List ℕ
register_intervals = codes "SELECT intervals.start, intervals.mwh FROM installations JOIN intervals ON intervals.meter = installations.meter WHERE installations.register = ?1 ORDER BY installations.place, intervals.start"

abbrev pub register_intervals_tests : List Term
register_intervals_tests = op2 (Compare Eq Binary) (col 2 1) (col 1 2) ∷ is_param 3 0 ∷ []

abbrev pub register_intervals_project : List Term
register_intervals_project = col 2 2 ∷ col 2 3 ∷ []

abbrev pub register_intervals_order : List (Term × Key)
register_intervals_order = (col 1 0, rising) ∷ (col 2 2, rising) ∷ []

-- The query that joins `installations` and `intervals` to read the energy of an accounting register
-- (a named energy counter). The query orders its rows by the meter's index, then by start.
abbrev pub joined : (tests : List Term) → Query
joined tests = record {
  from = inner 7 (inner 14 end);
  filter = tests;
  group = None;
  project = register_intervals_project;
  distinct = false;
  collations = [];
  order = register_intervals_order;
  limit = lit (Int (negsuc 0));
  offset = lit (Int (pos 0));
}

abbrev pub register_intervals_query : Query
register_intervals_query = joined register_intervals_tests

pub register_intervals_is : command_of (understood books_schema register_intervals) ≡ Select (record { lets = []; body = register_intervals_query }) names
unfolding understood everything
register_intervals_is = refl

pub register_intervals_unlisted : reads_listing books_schema register_intervals ≡ false
unfolding understood everything
register_intervals_unlisted = refl

pub register_intervals_plain : IsPlain (understood books_schema register_intervals)
unfolding understood everything
register_intervals_plain = (refl, refl)

join_flows : (params : Row) (db : Trees) → QueryOverflows register_intervals_query (overlay db []) params → ⊥
join_flows params db (inl sum) = sum
join_flows params db (inr row) = row.4.4

pub register_intervals_suits : (register : List ℕ) → Suits books_schema register_intervals (Text register ∷ [])
unfolding understood everything
register_intervals_suits register = record {
  query = register_intervals_query;
  names = names;
  whole = (refl, refl, refl);
  plain = register_intervals_plain;
  unlisted = register_intervals_unlisted;
  is = register_intervals_is;
  typed = refl;
  flows = join_flows (Text register ∷ []);
}

-- Lemmas on the SQL text of `register_intervals_between` (`register_intervals`, limited to a time
-- span), and on what SQLite parses from this text.

abbrev pub register_between : List ℕ
register_between = codes "SELECT intervals.start, intervals.mwh FROM installations JOIN intervals ON intervals.meter = installations.meter WHERE installations.register = ?1 AND intervals.start >= ?2 AND intervals.start < ?3 ORDER BY installations.place, intervals.start"

abbrev pub register_between_tests : List Term
register_between_tests = op2 (Compare Eq Binary) (col 2 1) (col 1 2) ∷ is_param 3 0 ∷ is_at_least 2 2 1 ∷ is_below 2 2 2 ∷ []

abbrev pub register_between_query : Query
register_between_query = joined register_between_tests

pub register_between_is : command_of (understood books_schema register_between) ≡ Select (record { lets = []; body = register_between_query }) names
unfolding understood everything
register_between_is = refl

pub register_between_unlisted : reads_listing books_schema register_between ≡ false
unfolding understood everything
register_between_unlisted = refl

pub register_between_plain : IsPlain (understood books_schema register_between)
unfolding understood everything
register_between_plain = (refl, refl)

between_flows : (params : Row) (db : Trees) → QueryOverflows register_between_query (overlay db []) params → ⊥
between_flows params db (inl sum) = sum
between_flows params db (inr row) = row.4.4

pub register_between_suits : (register : List ℕ) (from till : ℕ) → Suits books_schema register_between (Text register ∷ Int (pos from) ∷ Int (pos till) ∷ [])
unfolding understood everything
register_between_suits register from till = record {
  query = register_between_query;
  names = names;
  whole = (refl, refl, refl);
  plain = register_between_plain;
  unlisted = register_between_unlisted;
  is = register_between_is;
  typed = refl;
  flows = between_flows (Text register ∷ Int (pos from) ∷ Int (pos till) ∷ []);
}

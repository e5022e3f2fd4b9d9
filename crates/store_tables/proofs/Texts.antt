-- The SQL statements that create and open a file, and the commands that SQLite's parser builds from
-- their texts.
use Rattle.std.proofs.Common.{◌≡◌, ℕ, pos, List, [], ◌∷◌, codes, false, Ok, refl}
use Rattle.sqlite.specs.declared.types.Value.TheVariants.{Null, Int}
use Rattle.sqlite.specs.Term.{Term, lit, col}
use Rattle.sqlite.specs.Source.TheVariants.{Values}
use Rattle.sqlite.specs.Command.TheVariants.{CreateTable, Insert, Select, Update}
use Rattle.sqlite.specs.Compile.{table_defined_by}
use Rattle.sqlite_tied.specs.Compute.{everything}
use Rattle.sqlite.specs.Listing.{understood, reads_listing}
use Rattle.sqlite.proofs.Callers.{IsPlain, command_of, statement_of}
use Rattle.sqlite.specs.Table.{Table}
use Rattle.store_tables.proofs.Failures.{Suits, suits_scan}
use Rattle.store_tables.proofs.Scans.{scan, no_limit}
use Rattle.store_tables.specs.Schema.{books_schema, meta_table, devices_table, points_table, registers_table, installations_table, entries_table, polls_table, holds_table, outcomes_table, intervals_table, replies_table, ranges_table, voids_table}
use Rattle.store_tables.specs.declared.layouts.Layout.{Layout}
use Rattle.store_tables.specs.declared.layouts.Layout.TheVariants.{First, Second, Third}
use Rattle.store_tables.specs.Layouts.{first_tables, schema_of}

abbrev pub IsCreate : ℕ → List ℕ → Table → Type 0
IsCreate n text table = (command_of (understood (first_tables n) text) ≡ CreateTable) × (statement_of text (understood (first_tables n) text) ≡ text) × (table_defined_by text ≡ Ok (record table { tree = 0 }))

abbrev pub meta : List ℕ
meta = codes "CREATE TABLE meta (id INTEGER NOT NULL PRIMARY KEY, version INTEGER NOT NULL, zone TEXT NOT NULL) STRICT"

pub meta_is : IsCreate 0 meta meta_table
unfolding understood everything
meta_is = (refl, refl, refl)

pub meta_plain : IsPlain (understood (first_tables 0) meta)
unfolding understood everything
meta_plain = (refl, refl)

abbrev pub devices : List ℕ
devices = codes "CREATE TABLE devices (place INTEGER NOT NULL PRIMARY KEY, name TEXT NOT NULL UNIQUE, unit INTEGER NOT NULL, timeout INTEGER NOT NULL, \"window\" INTEGER NOT NULL) STRICT"

pub devices_is : IsCreate 1 devices devices_table
unfolding understood everything
devices_is = (refl, refl, refl)

pub devices_plain : IsPlain (understood (first_tables 1) devices)
unfolding understood everything
devices_plain = (refl, refl)

abbrev pub points : List ℕ
points = codes "CREATE TABLE points (device TEXT NOT NULL, place INTEGER NOT NULL, name TEXT NOT NULL, function INTEGER NOT NULL, area INTEGER NOT NULL, address INTEGER NOT NULL, kind TEXT NOT NULL, scale TEXT NOT NULL, PRIMARY KEY (device, place), FOREIGN KEY (device) REFERENCES devices (name)) STRICT"

pub points_is : IsCreate 2 points points_table
unfolding understood everything
points_is = (refl, refl, refl)

pub points_plain : IsPlain (understood (first_tables 2) points)
unfolding understood everything
points_plain = (refl, refl)

abbrev pub registers : List ℕ
registers = codes "CREATE TABLE registers (place INTEGER NOT NULL PRIMARY KEY, name TEXT NOT NULL UNIQUE, device TEXT NOT NULL, function INTEGER NOT NULL, address INTEGER NOT NULL, scale_kind INTEGER NOT NULL, scale INTEGER NOT NULL, FOREIGN KEY (device) REFERENCES devices (name)) STRICT"

pub registers_is : IsCreate 3 registers registers_table
unfolding understood everything
registers_is = (refl, refl, refl)

pub registers_plain : IsPlain (understood (first_tables 3) registers)
unfolding understood everything
registers_plain = (refl, refl)

abbrev pub installations : List ℕ
installations = codes "CREATE TABLE installations (place INTEGER NOT NULL PRIMARY KEY, meter TEXT NOT NULL UNIQUE, register TEXT NOT NULL, ceiling INTEGER NOT NULL, ended INTEGER NOT NULL, last_moment INTEGER NOT NULL, last_raw INTEGER NOT NULL, last_sf INTEGER NOT NULL, total INTEGER NOT NULL, FOREIGN KEY (register) REFERENCES registers (name)) STRICT"

pub installations_is : IsCreate 4 installations installations_table
unfolding understood everything
installations_is = (refl, refl, refl)

pub installations_plain : IsPlain (understood (first_tables 4) installations)
unfolding understood everything
installations_plain = (refl, refl)

abbrev pub entries : List ℕ
entries = codes "CREATE TABLE entries (meter TEXT NOT NULL, place INTEGER NOT NULL, kind INTEGER NOT NULL, moment INTEGER NOT NULL, raw INTEGER NOT NULL, rolls INTEGER NOT NULL, \"after\" INTEGER NOT NULL, sf INTEGER NOT NULL, PRIMARY KEY (meter, place), FOREIGN KEY (meter) REFERENCES installations (meter)) STRICT"

pub entries_is : IsCreate 5 entries entries_table
unfolding understood everything
entries_is = (refl, refl, refl)

pub entries_plain : IsPlain (understood (first_tables 5) entries)
unfolding understood everything
entries_plain = (refl, refl)

abbrev pub polls : List ℕ
polls = codes "CREATE TABLE polls (poll INTEGER NOT NULL PRIMARY KEY, device TEXT NOT NULL, unit INTEGER NOT NULL, started INTEGER NOT NULL, tid INTEGER NOT NULL, function INTEGER NOT NULL, address INTEGER NOT NULL, count INTEGER NOT NULL, FOREIGN KEY (device) REFERENCES devices (name)) STRICT"

pub polls_is : IsCreate 6 polls polls_table
unfolding understood everything
polls_is = (refl, refl, refl)

pub polls_plain : IsPlain (understood (first_tables 6) polls)
unfolding understood everything
polls_plain = (refl, refl)

abbrev pub holds : List ℕ
holds = codes "CREATE TABLE holds (place INTEGER NOT NULL PRIMARY KEY, meter TEXT NOT NULL, poll INTEGER NOT NULL, moment INTEGER NOT NULL, raw INTEGER NOT NULL, sf INTEGER NOT NULL, cause INTEGER NOT NULL, FOREIGN KEY (meter) REFERENCES installations (meter), FOREIGN KEY (poll) REFERENCES polls (poll)) STRICT"

pub holds_is : IsCreate 7 holds holds_table
unfolding understood everything
holds_is = (refl, refl, refl)

pub holds_plain : IsPlain (understood (first_tables 7) holds)
unfolding understood everything
holds_plain = (refl, refl)

abbrev pub outcomes : List ℕ
outcomes = codes "CREATE TABLE outcomes (poll INTEGER NOT NULL PRIMARY KEY, moment INTEGER NOT NULL, outcome INTEGER NOT NULL, code INTEGER NOT NULL, FOREIGN KEY (poll) REFERENCES polls (poll)) STRICT"

pub outcomes_is : IsCreate 8 outcomes outcomes_table
unfolding understood everything
outcomes_is = (refl, refl, refl)

pub outcomes_plain : IsPlain (understood (first_tables 8) outcomes)
unfolding understood everything
outcomes_plain = (refl, refl)

abbrev pub intervals : List ℕ
intervals = codes "CREATE TABLE intervals (meter TEXT NOT NULL, start INTEGER NOT NULL, mwh INTEGER NOT NULL, PRIMARY KEY (meter, start), FOREIGN KEY (meter) REFERENCES installations (meter)) STRICT"

pub intervals_is : IsCreate 9 intervals intervals_table
unfolding understood everything
intervals_is = (refl, refl, refl)

pub intervals_plain : IsPlain (understood (first_tables 9) intervals)
unfolding understood everything
intervals_plain = (refl, refl)

abbrev pub replies : List ℕ
replies = codes "CREATE TABLE replies (caller TEXT NOT NULL, number INTEGER NOT NULL, request BLOB NOT NULL, kind TEXT NOT NULL, moment INTEGER NOT NULL, PRIMARY KEY (caller, number)) STRICT"

pub replies_is : IsCreate 10 replies replies_table
unfolding understood everything
replies_is = (refl, refl, refl)

pub replies_plain : IsPlain (understood (first_tables 10) replies)
unfolding understood everything
replies_plain = (refl, refl)

abbrev pub ranges : List ℕ
ranges = codes "CREATE TABLE ranges (meter TEXT NOT NULL PRIMARY KEY, \"range\" INTEGER NOT NULL, FOREIGN KEY (meter) REFERENCES installations (meter)) STRICT"

pub ranges_is : IsCreate 11 ranges ranges_table
unfolding understood everything
ranges_is = (refl, refl, refl)

pub ranges_plain : IsPlain (understood (first_tables 11) ranges)
unfolding understood everything
ranges_plain = (refl, refl)

abbrev pub voids : List ℕ
voids = codes "CREATE TABLE voids (meter TEXT NOT NULL, place INTEGER NOT NULL, moment INTEGER NOT NULL, PRIMARY KEY (meter, place), FOREIGN KEY (meter, place) REFERENCES entries (meter, place)) STRICT"

pub voids_is : IsCreate 12 voids voids_table
unfolding understood everything
voids_is = (refl, refl, refl)

pub voids_plain : IsPlain (understood (first_tables 12) voids)
unfolding understood everything
voids_plain = (refl, refl)

-- The SQL texts on the table `meta`, and the commands that SQLite's parser builds from these texts.

abbrev pub insert_meta : List ℕ
insert_meta = codes "INSERT INTO meta (id, version, zone) VALUES (1, 3, ?1)"

abbrev pub insert_meta_terms : List Term
insert_meta_terms = lit (Int (pos 1)) ∷ lit Null ∷ lit (Int (pos 3)) ∷ col 0 0 ∷ []

pub insert_meta_is : command_of (understood books_schema insert_meta) ≡ Insert 0 (Values insert_meta_terms 4)
unfolding understood everything
insert_meta_is = refl

pub insert_meta_plain : IsPlain (understood books_schema insert_meta)
unfolding understood everything
insert_meta_plain = (refl, refl)

abbrev pub set_version : List ℕ
set_version = codes "UPDATE meta SET version = 3"

abbrev pub set_version_news : List Term
set_version_news = col 1 0 ∷ lit Null ∷ lit (Int (pos 3)) ∷ col 1 3 ∷ []

pub set_version_is : command_of (understood books_schema set_version) ≡ Update 0 (record { lets = []; body = scan 0 [] (col 1 0 ∷ set_version_news) [] no_limit })
unfolding understood everything
set_version_is = refl

pub set_version_plain : IsPlain (understood books_schema set_version)
unfolding understood everything
set_version_plain = (refl, refl)

abbrev pub meta_rows : List ℕ
meta_rows = codes "SELECT version, zone FROM meta"

abbrev pub meta_rows_project : List Term
meta_rows_project = col 1 2 ∷ col 1 3 ∷ []

abbrev pub meta_rows_names : List (List ℕ)
meta_rows_names = codes "version" ∷ codes "zone" ∷ []

pub meta_rows_is : (layout : Layout) → command_of (understood (schema_of layout) meta_rows) ≡ Select (record { lets = []; body = scan 0 [] meta_rows_project [] no_limit }) meta_rows_names
unfolding understood everything
meta_rows_is First = refl
meta_rows_is Second = refl
meta_rows_is Third = refl

pub meta_rows_unlisted : (layout : Layout) → reads_listing (schema_of layout) meta_rows ≡ false
unfolding understood everything
meta_rows_unlisted First = refl
meta_rows_unlisted Second = refl
meta_rows_unlisted Third = refl

pub meta_rows_plain : (layout : Layout) → IsPlain (understood (schema_of layout) meta_rows)
unfolding understood everything
meta_rows_plain First = (refl, refl)
meta_rows_plain Second = (refl, refl)
meta_rows_plain Third = (refl, refl)

pub meta_rows_suits : (layout : Layout) → Suits (schema_of layout) meta_rows []
unfolding understood everything
meta_rows_suits First = suits_scan 0 [] meta_rows_project [] no_limit meta_rows meta_rows_names [] (refl, refl, refl) (meta_rows_plain First) (meta_rows_unlisted First) (meta_rows_is First) refl
meta_rows_suits Second = suits_scan 0 [] meta_rows_project [] no_limit meta_rows meta_rows_names [] (refl, refl, refl) (meta_rows_plain Second) (meta_rows_unlisted Second) (meta_rows_is Second) refl
meta_rows_suits Third = suits_scan 0 [] meta_rows_project [] no_limit meta_rows meta_rows_names [] (refl, refl, refl) (meta_rows_plain Third) (meta_rows_unlisted Third) (meta_rows_is Third) refl

-- The SQL text of the query for the names of meters, and the command that SQLite's parser builds
-- from this text.

abbrev pub meter_rows : List ℕ
meter_rows = codes "SELECT meter FROM installations"

abbrev pub meter_rows_project : List Term
meter_rows_project = col 1 2 ∷ []

abbrev pub meter_rows_names : List (List ℕ)
meter_rows_names = codes "meter" ∷ []

pub meter_rows_is : command_of (understood (schema_of First) meter_rows) ≡ Select (record { lets = []; body = scan 7 [] meter_rows_project [] no_limit }) meter_rows_names
unfolding understood everything
meter_rows_is = refl

pub meter_rows_unlisted : reads_listing (schema_of First) meter_rows ≡ false
unfolding understood everything
meter_rows_unlisted = refl

pub meter_rows_plain : IsPlain (understood (schema_of First) meter_rows)
unfolding understood everything
meter_rows_plain = (refl, refl)

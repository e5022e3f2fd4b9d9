-- The SQL statements on the tables `entries` and `voids`, and the commands that SQLite's parser
-- builds from their texts.
use Rattle.std.proofs.Common.{◌≡◌, List, [], ◌∷◌, codes, ℕ, false, refl, pos}
use Rattle.sqlite.specs.declared.types.Value.TheVariants.{Null, Int, Text}
use Rattle.sqlite.specs.Term.{Term, lit, col}
use Rattle.sqlite.specs.Source.TheVariants.{Values}
use Rattle.sqlite.specs.Command.TheVariants.{Insert, Select, Update}
use Rattle.sqlite_tied.specs.Compute.{everything}
use Rattle.sqlite.specs.Listing.{understood, reads_listing}
use Rattle.sqlite.proofs.Callers.{IsPlain, command_of}
use Rattle.store_tables.specs.Schema.{books_schema}
use Rattle.store_tables.proofs.Failures.{Suits, suits_scan}
use Rattle.store_tables.proofs.Scans.{scan, no_limit, one, is_param, falling, rising}

-- The text of the SQL statement `insert_entry`, which adds a row to `entries`, and the command that
-- SQLite's parser builds from this text.

abbrev pub insert_entry : List ℕ
insert_entry = codes "INSERT INTO entries (meter, place, kind, moment, raw, rolls, \"after\", sf) VALUES (?1, ?2, ?3, ?4, ?5, ?6, ?7, ?8)"

abbrev pub insert_entry_terms : List Term
insert_entry_terms = lit Null ∷ col 0 0 ∷ col 0 1 ∷ col 0 2 ∷ col 0 3 ∷ col 0 4 ∷ col 0 5 ∷ col 0 6 ∷ col 0 7 ∷ []

pub insert_entry_is : command_of (understood books_schema insert_entry) ≡ Insert 5 (Values insert_entry_terms 9)
unfolding understood everything
insert_entry_is = refl

pub insert_entry_plain : IsPlain (understood books_schema insert_entry)
unfolding understood everything
insert_entry_plain = (refl, refl)

-- The text of the SQL statement `set_rollovers`, which sets the rollovers of a meter entry, and the
-- command that SQLite's parser builds from this text.

abbrev pub set_rollovers : List ℕ
set_rollovers = codes "UPDATE entries SET rolls = ?3 WHERE meter = ?1 AND place = ?2"

abbrev pub roll_entry_tests : List Term
roll_entry_tests = is_param 1 0 ∷ is_param 2 1 ∷ []

abbrev pub roll_entry_news : List Term
roll_entry_news = col 1 0 ∷ col 1 1 ∷ col 1 2 ∷ col 1 3 ∷ col 1 4 ∷ col 1 5 ∷ col 0 2 ∷ col 1 7 ∷ col 1 8 ∷ []

pub roll_entry_is : command_of (understood books_schema set_rollovers) ≡ Update 5 (record { lets = []; body = scan 9 roll_entry_tests (col 1 0 ∷ roll_entry_news) [] no_limit })
unfolding understood everything
roll_entry_is = refl

pub roll_entry_plain : IsPlain (understood books_schema set_rollovers)
unfolding understood everything
roll_entry_plain = (refl, refl)

-- The text of the SQL statement `entry_at`, which selects a meter's entry by index, and the command
-- that SQLite's parser builds from this text.

abbrev pub entry_at : List ℕ
entry_at = codes "SELECT place, kind, moment, raw, rolls, \"after\", sf FROM entries WHERE meter = ?1 AND place = ?2 LIMIT 1"

abbrev pub entry_at_tests : List Term
entry_at_tests = is_param 1 0 ∷ is_param 2 1 ∷ []

abbrev pub entry_at_project : List Term
entry_at_project = col 1 2 ∷ col 1 3 ∷ col 1 4 ∷ col 1 5 ∷ col 1 6 ∷ col 1 7 ∷ col 1 8 ∷ []

abbrev pub entry_at_names : List (List ℕ)
entry_at_names = codes "place" ∷ codes "kind" ∷ codes "moment" ∷ codes "raw" ∷ codes "rolls" ∷ codes "after" ∷ codes "sf" ∷ []

pub entry_at_is : command_of (understood books_schema entry_at) ≡ Select (record { lets = []; body = scan 9 entry_at_tests entry_at_project [] one }) entry_at_names
unfolding understood everything
entry_at_is = refl

pub entry_at_unlisted : reads_listing books_schema entry_at ≡ false
unfolding understood everything
entry_at_unlisted = refl

pub entry_at_plain : IsPlain (understood books_schema entry_at)
unfolding understood everything
entry_at_plain = (refl, refl)

pub entry_at_suits : (meter : List ℕ) (place : ℕ) → Suits books_schema entry_at (Text meter ∷ Int (pos place) ∷ [])
unfolding understood everything
entry_at_suits meter place = suits_scan 9 entry_at_tests entry_at_project [] one entry_at entry_at_names (Text meter ∷ Int (pos place) ∷ []) (refl, refl, refl) entry_at_plain entry_at_unlisted entry_at_is refl

-- The text of the SQL statement `last_place`, which selects the greatest index of a meter's
-- entries, and the command that SQLite's parser builds from this text.

abbrev pub last_place : List ℕ
last_place = codes "SELECT place FROM entries WHERE meter = ?1 ORDER BY place DESC LIMIT 1"

abbrev pub last_place_tests : List Term
last_place_tests = is_param 1 0 ∷ []

abbrev pub last_place_project : List Term
last_place_project = col 1 2 ∷ []

abbrev pub last_place_names : List (List ℕ)
last_place_names = codes "place" ∷ []

pub last_place_is : command_of (understood books_schema last_place) ≡ Select (record { lets = []; body = scan 9 last_place_tests last_place_project ((col 1 2, falling) ∷ []) one }) last_place_names
unfolding understood everything
last_place_is = refl

pub last_place_unlisted : reads_listing books_schema last_place ≡ false
unfolding understood everything
last_place_unlisted = refl

pub last_place_plain : IsPlain (understood books_schema last_place)
unfolding understood everything
last_place_plain = (refl, refl)

pub last_place_suits : (meter : List ℕ) → Suits books_schema last_place (Text meter ∷ [])
unfolding understood everything
last_place_suits meter = suits_scan 9 last_place_tests last_place_project ((col 1 2, falling) ∷ []) one last_place last_place_names (Text meter ∷ []) (refl, refl, refl) last_place_plain last_place_unlisted last_place_is refl

-- The text of the SQL statement `entry_rows`, which selects all entries of a meter, and the command
-- that SQLite's parser builds from this text.

abbrev pub entry_rows : List ℕ
entry_rows = codes "SELECT place, kind, moment, raw, rolls, \"after\", sf FROM entries WHERE meter = ?1 ORDER BY place"

abbrev pub entry_rows_tests : List Term
entry_rows_tests = is_param 1 0 ∷ []

abbrev pub entry_rows_project : List Term
entry_rows_project = col 1 2 ∷ col 1 3 ∷ col 1 4 ∷ col 1 5 ∷ col 1 6 ∷ col 1 7 ∷ col 1 8 ∷ []

abbrev pub entry_rows_names : List (List ℕ)
entry_rows_names = codes "place" ∷ codes "kind" ∷ codes "moment" ∷ codes "raw" ∷ codes "rolls" ∷ codes "after" ∷ codes "sf" ∷ []

pub entry_rows_is : command_of (understood books_schema entry_rows) ≡ Select (record { lets = []; body = scan 9 entry_rows_tests entry_rows_project ((col 1 2, rising) ∷ []) no_limit }) entry_rows_names
unfolding understood everything
entry_rows_is = refl

pub entry_rows_unlisted : reads_listing books_schema entry_rows ≡ false
unfolding understood everything
entry_rows_unlisted = refl

pub entry_rows_plain : IsPlain (understood books_schema entry_rows)
unfolding understood everything
entry_rows_plain = (refl, refl)

pub entry_rows_suits : (meter : List ℕ) → Suits books_schema entry_rows (Text meter ∷ [])
unfolding understood everything
entry_rows_suits meter = suits_scan 9 entry_rows_tests entry_rows_project ((col 1 2, rising) ∷ []) no_limit entry_rows entry_rows_names (Text meter ∷ []) (refl, refl, refl) entry_rows_plain entry_rows_unlisted entry_rows_is refl

-- The text of the SQL statement `insert_void`, which adds a row to `voids`, and the command that
-- SQLite's parser builds from this text.

abbrev pub insert_void : List ℕ
insert_void = codes "INSERT INTO voids (meter, place, moment) VALUES (?1, ?2, ?3)"

abbrev pub insert_void_terms : List Term
insert_void_terms = lit Null ∷ col 0 0 ∷ col 0 1 ∷ col 0 2 ∷ []

pub insert_void_is : command_of (understood books_schema insert_void) ≡ Insert 12 (Values insert_void_terms 4)
unfolding understood everything
insert_void_is = refl

pub insert_void_plain : IsPlain (understood books_schema insert_void)
unfolding understood everything
insert_void_plain = (refl, refl)

-- The text of the SQL statement `void_rows`, which selects the indices of a meter's cancelled
-- entries, and the command that SQLite's parser builds from this text.

abbrev pub void_rows : List ℕ
void_rows = codes "SELECT place FROM voids WHERE meter = ?1 ORDER BY place"

abbrev pub void_rows_tests : List Term
void_rows_tests = is_param 1 0 ∷ []

abbrev pub void_rows_project : List Term
void_rows_project = col 1 2 ∷ []

abbrev pub void_rows_names : List (List ℕ)
void_rows_names = codes "place" ∷ []

pub void_rows_is : command_of (understood books_schema void_rows) ≡ Select (record { lets = []; body = scan 20 void_rows_tests void_rows_project ((col 1 2, rising) ∷ []) no_limit }) void_rows_names
unfolding understood everything
void_rows_is = refl

pub void_rows_unlisted : reads_listing books_schema void_rows ≡ false
unfolding understood everything
void_rows_unlisted = refl

pub void_rows_plain : IsPlain (understood books_schema void_rows)
unfolding understood everything
void_rows_plain = (refl, refl)

pub void_rows_suits : (meter : List ℕ) → Suits books_schema void_rows (Text meter ∷ [])
unfolding understood everything
void_rows_suits meter = suits_scan 20 void_rows_tests void_rows_project ((col 1 2, rising) ∷ []) no_limit void_rows void_rows_names (Text meter ∷ []) (refl, refl, refl) void_rows_plain void_rows_unlisted void_rows_is refl

-- The text of the SQL statement `latest_entry`, which selects the latest timestamp in `entries`,
-- and the command that SQLite's parser builds from this text.

abbrev pub latest_entry : List ℕ
latest_entry = codes "SELECT moment FROM entries ORDER BY moment DESC LIMIT 1"

abbrev pub latest_entry_tests : List Term
latest_entry_tests = []

abbrev pub latest_entry_project : List Term
latest_entry_project = col 1 4 ∷ []

abbrev pub latest_entry_names : List (List ℕ)
latest_entry_names = codes "moment" ∷ []

pub latest_entry_is : command_of (understood books_schema latest_entry) ≡ Select (record { lets = []; body = scan 9 latest_entry_tests latest_entry_project ((col 1 4, falling) ∷ []) one }) latest_entry_names
unfolding understood everything
latest_entry_is = refl

pub latest_entry_unlisted : reads_listing books_schema latest_entry ≡ false
unfolding understood everything
latest_entry_unlisted = refl

pub latest_entry_plain : IsPlain (understood books_schema latest_entry)
unfolding understood everything
latest_entry_plain = (refl, refl)

pub latest_entry_suits : Suits books_schema latest_entry ([])
unfolding understood everything
latest_entry_suits = suits_scan 9 latest_entry_tests latest_entry_project ((col 1 4, falling) ∷ []) one latest_entry latest_entry_names ([]) (refl, refl, refl) latest_entry_plain latest_entry_unlisted latest_entry_is refl

-- The text of the SQL statement `latest_void`, which selects the latest timestamp in `voids`, and
-- the command that SQLite's parser builds from this text.

abbrev pub latest_void : List ℕ
latest_void = codes "SELECT moment FROM voids ORDER BY moment DESC LIMIT 1"

abbrev pub latest_void_tests : List Term
latest_void_tests = []

abbrev pub latest_void_project : List Term
latest_void_project = col 1 3 ∷ []

abbrev pub latest_void_names : List (List ℕ)
latest_void_names = codes "moment" ∷ []

pub latest_void_is : command_of (understood books_schema latest_void) ≡ Select (record { lets = []; body = scan 20 latest_void_tests latest_void_project ((col 1 3, falling) ∷ []) one }) latest_void_names
unfolding understood everything
latest_void_is = refl

pub latest_void_unlisted : reads_listing books_schema latest_void ≡ false
unfolding understood everything
latest_void_unlisted = refl

pub latest_void_plain : IsPlain (understood books_schema latest_void)
unfolding understood everything
latest_void_plain = (refl, refl)

pub latest_void_suits : Suits books_schema latest_void ([])
unfolding understood everything
latest_void_suits = suits_scan 20 latest_void_tests latest_void_project ((col 1 3, falling) ∷ []) one latest_void latest_void_names ([]) (refl, refl, refl) latest_void_plain latest_void_unlisted latest_void_is refl

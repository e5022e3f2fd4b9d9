-- Lemmas that SQLite parses each SQL query of the audit into the expected SELECT: its table, test
-- of rows, columns and order.
use Rattle.std.proofs.Common.{◌≡◌, List, [], ◌∷◌, codes, ℕ, ℤ, false, refl}
use Rattle.sqlite.specs.declared.types.Value.TheVariants.{Int, Text}
use Rattle.sqlite.specs.Collation.TheVariants.{Binary}
use Rattle.sqlite_sql.specs.Term.{op2}
use Rattle.sqlite_sql.specs.declared.ops.BinaryOp.TheVariants.{Compare}
use Rattle.sqlite_sql.specs.declared.ops.CompareOp.TheVariants.{Ge, Le}
use Rattle.sqlite.specs.Term.{Term, col}
use Rattle.sqlite.specs.Command.TheVariants.{Select}
use Rattle.sqlite_tied.specs.Compute.{everything}
use Rattle.sqlite.specs.Listing.{understood, reads_listing}
use Rattle.sqlite.proofs.Callers.{IsPlain, command_of}
use Rattle.store_tables.specs.Schema.{books_schema}
use Rattle.store_tables.proofs.Failures.{Suits, suits_scan}
use Rattle.store_tables.proofs.Scans.{scan, no_limit, one, is_param, rising, falling}

-- The SQL condition that a row's first column equals the meter's name, which is the query's first
-- parameter.
abbrev pub of_meter : List Term
of_meter = is_param 1 0 ∷ []

-- Lemmas: SQLite's parser builds the expected SELECT from the text of the query for the range of a
-- meter's counter, and a database of the program can answer this query.

abbrev pub range_rows : List ℕ
range_rows = codes "SELECT \"range\" FROM ranges WHERE meter = ?1"

abbrev pub range_project : List Term
range_project = col 1 2 ∷ []

abbrev pub range_names : List (List ℕ)
range_names = codes "range" ∷ []

pub range_rows_is : command_of (understood books_schema range_rows) ≡ Select (record { lets = []; body = scan 18 of_meter range_project [] no_limit }) range_names
unfolding understood everything
range_rows_is = refl

pub range_rows_unlisted : reads_listing books_schema range_rows ≡ false
unfolding understood everything
range_rows_unlisted = refl

pub range_rows_plain : IsPlain (understood books_schema range_rows)
unfolding understood everything
range_rows_plain = (refl, refl)

pub range_rows_suits : (meter : List ℕ) → Suits books_schema range_rows (Text meter ∷ [])
unfolding understood everything
range_rows_suits meter = suits_scan 18 of_meter range_project [] no_limit range_rows range_names (Text meter ∷ []) (refl, refl, refl) range_rows_plain range_rows_unlisted range_rows_is refl

-- Lemmas on the meaning of the SQL query for a meter's voids (cancellations of entries).

abbrev pub void_rows : List ℕ
void_rows = codes "SELECT place, moment FROM voids WHERE meter = ?1 ORDER BY place"

abbrev pub void_project : List Term
void_project = col 1 2 ∷ col 1 3 ∷ []

abbrev pub void_names : List (List ℕ)
void_names = codes "place" ∷ codes "moment" ∷ []

pub void_rows_is : command_of (understood books_schema void_rows) ≡ Select (record { lets = []; body = scan 20 of_meter void_project ((col 1 2, rising) ∷ []) no_limit }) void_names
unfolding understood everything
void_rows_is = refl

pub void_rows_unlisted : reads_listing books_schema void_rows ≡ false
unfolding understood everything
void_rows_unlisted = refl

pub void_rows_plain : IsPlain (understood books_schema void_rows)
unfolding understood everything
void_rows_plain = (refl, refl)

pub void_rows_suits : (meter : List ℕ) → Suits books_schema void_rows (Text meter ∷ [])
unfolding understood everything
void_rows_suits meter = suits_scan 20 of_meter void_project ((col 1 2, rising) ∷ []) no_limit void_rows void_names (Text meter ∷ []) (refl, refl, refl) void_rows_plain void_rows_unlisted void_rows_is refl

-- Lemmas on the meaning of the SQL query for a meter's energy by quarter hours.

abbrev pub share_rows : List ℕ
share_rows = codes "SELECT start, mwh FROM intervals WHERE meter = ?1 ORDER BY start"

abbrev pub share_project : List Term
share_project = col 1 2 ∷ col 1 3 ∷ []

abbrev pub share_names : List (List ℕ)
share_names = codes "start" ∷ codes "mwh" ∷ []

pub share_rows_is : command_of (understood books_schema share_rows) ≡ Select (record { lets = []; body = scan 14 of_meter share_project ((col 1 2, rising) ∷ []) no_limit }) share_names
unfolding understood everything
share_rows_is = refl

pub share_rows_unlisted : reads_listing books_schema share_rows ≡ false
unfolding understood everything
share_rows_unlisted = refl

pub share_rows_plain : IsPlain (understood books_schema share_rows)
unfolding understood everything
share_rows_plain = (refl, refl)

pub share_rows_suits : (meter : List ℕ) → Suits books_schema share_rows (Text meter ∷ [])
unfolding understood everything
share_rows_suits meter = suits_scan 14 of_meter share_project ((col 1 2, rising) ∷ []) no_limit share_rows share_names (Text meter ∷ []) (refl, refl, refl) share_rows_plain share_rows_unlisted share_rows_is refl

-- Lemmas on the meaning of the SQL query for all rows of `installations`.

abbrev pub installation_rows : List ℕ
installation_rows = codes "SELECT place, meter, register, ceiling, ended, last_moment, last_raw, last_sf, total FROM installations ORDER BY place"

abbrev pub installation_project : List Term
installation_project = col 1 0 ∷ col 1 2 ∷ col 1 3 ∷ col 1 4 ∷ col 1 5 ∷ col 1 6 ∷ col 1 7 ∷ col 1 8 ∷ col 1 9 ∷ []

abbrev pub installation_names : List (List ℕ)
installation_names =
    codes "place" ∷ codes "meter" ∷ codes "register" ∷ codes "ceiling" ∷ codes "ended" ∷ codes "last_moment" ∷ codes "last_raw"
    ∷ codes "last_sf" ∷ codes "total" ∷ []

pub installation_rows_is : command_of (understood books_schema installation_rows) ≡ Select (record { lets = []; body = scan 7 [] installation_project ((col 1 0, rising) ∷ []) no_limit }) installation_names
unfolding understood everything
installation_rows_is = refl

pub installation_rows_unlisted : reads_listing books_schema installation_rows ≡ false
unfolding understood everything
installation_rows_unlisted = refl

pub installation_rows_plain : IsPlain (understood books_schema installation_rows)
unfolding understood everything
installation_rows_plain = (refl, refl)

pub installation_rows_suits : Suits books_schema installation_rows []
unfolding understood everything
installation_rows_suits = suits_scan 7 [] installation_project ((col 1 0, rising) ∷ []) no_limit installation_rows installation_names [] (refl, refl, refl) installation_rows_plain installation_rows_unlisted installation_rows_is refl

-- Lemmas on the meaning of the SQL query for the rows of the table `meta`.

abbrev pub mark_rows : List ℕ
mark_rows = codes "SELECT id, version, zone FROM meta ORDER BY id"

abbrev pub mark_project : List Term
mark_project = col 1 0 ∷ col 1 2 ∷ col 1 3 ∷ []

abbrev pub mark_names : List (List ℕ)
mark_names = codes "id" ∷ codes "version" ∷ codes "zone" ∷ []

pub mark_rows_is : command_of (understood books_schema mark_rows) ≡ Select (record { lets = []; body = scan 0 [] mark_project ((col 1 0, rising) ∷ []) no_limit }) mark_names
unfolding understood everything
mark_rows_is = refl

pub mark_rows_unlisted : reads_listing books_schema mark_rows ≡ false
unfolding understood everything
mark_rows_unlisted = refl

pub mark_rows_plain : IsPlain (understood books_schema mark_rows)
unfolding understood everything
mark_rows_plain = (refl, refl)

pub mark_rows_suits : Suits books_schema mark_rows []
unfolding understood everything
mark_rows_suits = suits_scan 0 [] mark_project ((col 1 0, rising) ∷ []) no_limit mark_rows mark_names [] (refl, refl, refl) mark_rows_plain mark_rows_unlisted mark_rows_is refl

-- Lemmas: SQLite's parser builds the expected SELECT from the text of the query for the greatest
-- poll number, and a database of the program can answer this query.

abbrev pub last_poll : List ℕ
last_poll = codes "SELECT poll FROM polls ORDER BY poll DESC LIMIT 1"

abbrev pub last_project : List Term
last_project = col 1 0 ∷ []

abbrev pub last_names : List (List ℕ)
last_names = codes "poll" ∷ []

pub last_poll_is : command_of (understood books_schema last_poll) ≡ Select (record { lets = []; body = scan 11 [] last_project ((col 1 0, falling) ∷ []) one }) last_names
unfolding understood everything
last_poll_is = refl

pub last_poll_unlisted : reads_listing books_schema last_poll ≡ false
unfolding understood everything
last_poll_unlisted = refl

pub last_poll_plain : IsPlain (understood books_schema last_poll)
unfolding understood everything
last_poll_plain = (refl, refl)

pub last_poll_suits : Suits books_schema last_poll []
unfolding understood everything
last_poll_suits = suits_scan 11 [] last_project ((col 1 0, falling) ∷ []) one last_poll last_names [] (refl, refl, refl) last_poll_plain last_poll_unlisted last_poll_is refl

-- The SQL condition that selects rows with poll numbers in a range.

abbrev pub in_run : List Term
in_run = op2 (Compare Ge Binary) (col 1 0) (col 0 0) ∷ op2 (Compare Le Binary) (col 1 0) (col 0 1) ∷ []

-- Lemmas on the meaning of the SQL query for the polls with numbers in a range.

abbrev pub poll_rows : List ℕ
poll_rows = codes "SELECT poll, unit, started, tid, function, address, count, device FROM polls WHERE poll >= ?1 AND poll <= ?2 ORDER BY poll"

abbrev pub poll_project : List Term
poll_project = col 1 0 ∷ col 1 3 ∷ col 1 4 ∷ col 1 5 ∷ col 1 6 ∷ col 1 7 ∷ col 1 8 ∷ col 1 2 ∷ []

abbrev pub poll_names : List (List ℕ)
poll_names = codes "poll" ∷ codes "unit" ∷ codes "started" ∷ codes "tid" ∷ codes "function" ∷ codes "address" ∷ codes "count" ∷ codes "device" ∷ []

pub poll_rows_is : command_of (understood books_schema poll_rows) ≡ Select (record { lets = []; body = scan 11 in_run poll_project ((col 1 0, rising) ∷ []) no_limit }) poll_names
unfolding understood everything
poll_rows_is = refl

pub poll_rows_unlisted : reads_listing books_schema poll_rows ≡ false
unfolding understood everything
poll_rows_unlisted = refl

pub poll_rows_plain : IsPlain (understood books_schema poll_rows)
unfolding understood everything
poll_rows_plain = (refl, refl)

pub poll_rows_suits : (low high : ℤ) → Suits books_schema poll_rows (Int low ∷ Int high ∷ [])
unfolding understood everything
poll_rows_suits low high = suits_scan 11 in_run poll_project ((col 1 0, rising) ∷ []) no_limit poll_rows poll_names (Int low ∷ Int high ∷ []) (refl, refl, refl) poll_rows_plain poll_rows_unlisted poll_rows_is refl

-- Lemmas: SQLite's parser builds the expected SELECT from the text of the query for the outcomes of
-- polls with numbers in a range. A database of the program can answer this query.

abbrev pub outcome_rows : List ℕ
outcome_rows = codes "SELECT poll, moment, outcome, code FROM outcomes WHERE poll >= ?1 AND poll <= ?2 ORDER BY poll"

abbrev pub outcome_project : List Term
outcome_project = col 1 0 ∷ col 1 2 ∷ col 1 3 ∷ col 1 4 ∷ []

abbrev pub outcome_names : List (List ℕ)
outcome_names = codes "poll" ∷ codes "moment" ∷ codes "outcome" ∷ codes "code" ∷ []

pub outcome_rows_is : command_of (understood books_schema outcome_rows) ≡ Select (record { lets = []; body = scan 13 in_run outcome_project ((col 1 0, rising) ∷ []) no_limit }) outcome_names
unfolding understood everything
outcome_rows_is = refl

pub outcome_rows_unlisted : reads_listing books_schema outcome_rows ≡ false
unfolding understood everything
outcome_rows_unlisted = refl

pub outcome_rows_plain : IsPlain (understood books_schema outcome_rows)
unfolding understood everything
outcome_rows_plain = (refl, refl)

pub outcome_rows_suits : (low high : ℤ) → Suits books_schema outcome_rows (Int low ∷ Int high ∷ [])
unfolding understood everything
outcome_rows_suits low high = suits_scan 13 in_run outcome_project ((col 1 0, rising) ∷ []) no_limit outcome_rows outcome_names (Int low ∷ Int high ∷ []) (refl, refl, refl) outcome_rows_plain outcome_rows_unlisted outcome_rows_is refl

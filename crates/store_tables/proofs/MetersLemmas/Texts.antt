-- The SQL statements on the tables `installations` and `ranges`, and the commands that SQLite's
-- parser builds from their texts.
use Rattle.std.proofs.Common.{◌≡◌, pos, List, [], ◌∷◌, codes, ℕ, false, refl}
use Rattle.sqlite.specs.declared.types.Value.TheVariants.{Null, Int, Text}
use Rattle.sqlite.specs.Term.{Term, lit, col}
use Rattle.sqlite.specs.Source.TheVariants.{Values}
use Rattle.sqlite.specs.Command.TheVariants.{Insert, Select, Update}
use Rattle.sqlite_tied.specs.Compute.{everything}
use Rattle.sqlite.specs.Listing.{understood, reads_listing}
use Rattle.sqlite.proofs.Callers.{IsPlain, command_of}
use Rattle.store_tables.specs.Schema.{books_schema}
use Rattle.store_tables.proofs.Failures.{Suits, suits_scan}
use Rattle.store_tables.proofs.Scans.{scan, no_limit, one, is_param, falling}

-- The text of the SQL statement `insert_installation`, which adds a row to `installations`, and the
-- command that SQLite's parser builds from this text.

abbrev pub insert_installation : List ℕ
insert_installation = codes "INSERT INTO installations (place, meter, register, ceiling, ended, last_moment, last_raw, last_sf, total) VALUES (?1, ?2, ?3, ?4, ?5, ?6, ?7, ?8, ?9)"

abbrev pub insert_installation_terms : List Term
insert_installation_terms = col 0 0 ∷ lit Null ∷ col 0 1 ∷ col 0 2 ∷ col 0 3 ∷ col 0 4 ∷ col 0 5 ∷ col 0 6 ∷ col 0 7 ∷ col 0 8 ∷ []

pub insert_installation_is : command_of (understood books_schema insert_installation) ≡ Insert 4 (Values insert_installation_terms 10)
unfolding understood everything
insert_installation_is = refl

pub insert_installation_plain : IsPlain (understood books_schema insert_installation)
unfolding understood everything
insert_installation_plain = (refl, refl)

-- The text of the SQL statement `update_last`, which sets a meter's last entry and total energy,
-- and the command that SQLite's parser builds from this text.

abbrev pub update_last : List ℕ
update_last = codes "UPDATE installations SET last_moment = ?2, last_raw = ?3, last_sf = ?4, total = ?5 WHERE meter = ?1"

abbrev pub move_installation_tests : List Term
move_installation_tests = is_param 2 0 ∷ []

abbrev pub move_installation_news : List Term
move_installation_news = col 1 0 ∷ lit Null ∷ col 1 2 ∷ col 1 3 ∷ col 1 4 ∷ col 1 5 ∷ col 0 1 ∷ col 0 2 ∷ col 0 3 ∷ col 0 4 ∷ []

pub move_installation_is : command_of (understood books_schema update_last) ≡ Update 4 (record { lets = []; body = scan 7 move_installation_tests (col 1 0 ∷ move_installation_news) [] no_limit })
unfolding understood everything
move_installation_is = refl

pub move_installation_plain : IsPlain (understood books_schema update_last)
unfolding understood everything
move_installation_plain = (refl, refl)

-- The text of the SQL statement `close_installation`, which marks a meter as closed, and the
-- command that SQLite's parser builds from this text.

abbrev pub close_installation : List ℕ
close_installation = codes "UPDATE installations SET ended = 1 WHERE meter = ?1"

abbrev pub end_installation_tests : List Term
end_installation_tests = is_param 2 0 ∷ []

abbrev pub end_installation_news : List Term
end_installation_news = col 1 0 ∷ lit Null ∷ col 1 2 ∷ col 1 3 ∷ col 1 4 ∷ lit (Int (pos 1)) ∷ col 1 6 ∷ col 1 7 ∷ col 1 8 ∷ col 1 9 ∷ []

pub end_installation_is : command_of (understood books_schema close_installation) ≡ Update 4 (record { lets = []; body = scan 7 end_installation_tests (col 1 0 ∷ end_installation_news) [] no_limit })
unfolding understood everything
end_installation_is = refl

pub end_installation_plain : IsPlain (understood books_schema close_installation)
unfolding understood everything
end_installation_plain = (refl, refl)

-- The text of the SQL statement `installation_of`, which selects a meter by name, and the command
-- that SQLite's parser builds from this text.

abbrev pub installation_of : List ℕ
installation_of = codes "SELECT place, meter, register, ceiling, ended, last_moment, last_raw, last_sf, total FROM installations WHERE meter = ?1 LIMIT 1"

abbrev pub installation_of_tests : List Term
installation_of_tests = is_param 2 0 ∷ []

abbrev pub installation_of_project : List Term
installation_of_project = col 1 0 ∷ col 1 2 ∷ col 1 3 ∷ col 1 4 ∷ col 1 5 ∷ col 1 6 ∷ col 1 7 ∷ col 1 8 ∷ col 1 9 ∷ []

abbrev pub installation_of_names : List (List ℕ)
installation_of_names = codes "place" ∷ codes "meter" ∷ codes "register" ∷ codes "ceiling" ∷ codes "ended" ∷ codes "last_moment" ∷ codes "last_raw" ∷ codes "last_sf" ∷ codes "total" ∷ []

pub installation_of_is : command_of (understood books_schema installation_of) ≡ Select (record { lets = []; body = scan 7 installation_of_tests installation_of_project [] one }) installation_of_names
unfolding understood everything
installation_of_is = refl

pub installation_of_unlisted : reads_listing books_schema installation_of ≡ false
unfolding understood everything
installation_of_unlisted = refl

pub installation_of_plain : IsPlain (understood books_schema installation_of)
unfolding understood everything
installation_of_plain = (refl, refl)

pub installation_of_suits : (meter : List ℕ) → Suits books_schema installation_of (Text meter ∷ [])
unfolding understood everything
installation_of_suits meter = suits_scan 7 installation_of_tests installation_of_project [] one installation_of installation_of_names (Text meter ∷ []) (refl, refl, refl) installation_of_plain installation_of_unlisted installation_of_is refl

-- The text of the SQL statement `installation_at`, which selects an accounting register's latest
-- meter, and the command that SQLite's parser builds from this text.

abbrev pub installation_at : List ℕ
installation_at = codes "SELECT place, meter, register, ceiling, ended, last_moment, last_raw, last_sf, total FROM installations WHERE register = ?1 ORDER BY place DESC LIMIT 1"

abbrev pub installation_at_tests : List Term
installation_at_tests = is_param 3 0 ∷ []

abbrev pub installation_at_project : List Term
installation_at_project = col 1 0 ∷ col 1 2 ∷ col 1 3 ∷ col 1 4 ∷ col 1 5 ∷ col 1 6 ∷ col 1 7 ∷ col 1 8 ∷ col 1 9 ∷ []

abbrev pub installation_at_names : List (List ℕ)
installation_at_names = codes "place" ∷ codes "meter" ∷ codes "register" ∷ codes "ceiling" ∷ codes "ended" ∷ codes "last_moment" ∷ codes "last_raw" ∷ codes "last_sf" ∷ codes "total" ∷ []

pub installation_at_is : command_of (understood books_schema installation_at) ≡ Select (record { lets = []; body = scan 7 installation_at_tests installation_at_project ((col 1 0, falling) ∷ []) one }) installation_at_names
unfolding understood everything
installation_at_is = refl

pub installation_at_unlisted : reads_listing books_schema installation_at ≡ false
unfolding understood everything
installation_at_unlisted = refl

pub installation_at_plain : IsPlain (understood books_schema installation_at)
unfolding understood everything
installation_at_plain = (refl, refl)

pub installation_at_suits : (register : List ℕ) → Suits books_schema installation_at (Text register ∷ [])
unfolding understood everything
installation_at_suits register = suits_scan 7 installation_at_tests installation_at_project ((col 1 0, falling) ∷ []) one installation_at installation_at_names (Text register ∷ []) (refl, refl, refl) installation_at_plain installation_at_unlisted installation_at_is refl

-- The text of the SQL statement `last_installation`, which selects the greatest index in
-- `installations`, and the command that SQLite's parser builds from this text.

abbrev pub last_installation : List ℕ
last_installation = codes "SELECT place FROM installations ORDER BY place DESC LIMIT 1"

abbrev pub last_installation_tests : List Term
last_installation_tests = []

abbrev pub last_installation_project : List Term
last_installation_project = col 1 0 ∷ []

abbrev pub last_installation_names : List (List ℕ)
last_installation_names = codes "place" ∷ []

pub last_installation_is : command_of (understood books_schema last_installation) ≡ Select (record { lets = []; body = scan 7 last_installation_tests last_installation_project ((col 1 0, falling) ∷ []) one }) last_installation_names
unfolding understood everything
last_installation_is = refl

pub last_installation_unlisted : reads_listing books_schema last_installation ≡ false
unfolding understood everything
last_installation_unlisted = refl

pub last_installation_plain : IsPlain (understood books_schema last_installation)
unfolding understood everything
last_installation_plain = (refl, refl)

pub last_installation_suits : Suits books_schema last_installation ([])
unfolding understood everything
last_installation_suits = suits_scan 7 last_installation_tests last_installation_project ((col 1 0, falling) ∷ []) one last_installation last_installation_names ([]) (refl, refl, refl) last_installation_plain last_installation_unlisted last_installation_is refl

-- The text of the SQL statement `insert_range`, which adds a row to `ranges`, and the command that
-- SQLite's parser builds from this text.

abbrev pub insert_range : List ℕ
insert_range = codes "INSERT INTO ranges (meter, \"range\") VALUES (?1, ?2)"

abbrev pub insert_range_terms : List Term
insert_range_terms = lit Null ∷ col 0 0 ∷ col 0 1 ∷ []

pub insert_range_is : command_of (understood books_schema insert_range) ≡ Insert 11 (Values insert_range_terms 3)
unfolding understood everything
insert_range_is = refl

pub insert_range_plain : IsPlain (understood books_schema insert_range)
unfolding understood everything
insert_range_plain = (refl, refl)

-- The text of the SQL statement `range_of`, which selects the range of a meter's counter, and the
-- command that SQLite's parser builds from this text.

abbrev pub range_of : List ℕ
range_of = codes "SELECT \"range\" FROM ranges WHERE meter = ?1 LIMIT 1"

abbrev pub range_of_tests : List Term
range_of_tests = is_param 1 0 ∷ []

abbrev pub range_of_project : List Term
range_of_project = col 1 2 ∷ []

abbrev pub range_of_names : List (List ℕ)
range_of_names = codes "range" ∷ []

pub range_of_is : command_of (understood books_schema range_of) ≡ Select (record { lets = []; body = scan 18 range_of_tests range_of_project [] one }) range_of_names
unfolding understood everything
range_of_is = refl

pub range_of_unlisted : reads_listing books_schema range_of ≡ false
unfolding understood everything
range_of_unlisted = refl

pub range_of_plain : IsPlain (understood books_schema range_of)
unfolding understood everything
range_of_plain = (refl, refl)

pub range_of_suits : (meter : List ℕ) → Suits books_schema range_of (Text meter ∷ [])
unfolding understood everything
range_of_suits meter = suits_scan 18 range_of_tests range_of_project [] one range_of range_of_names (Text meter ∷ []) (refl, refl, refl) range_of_plain range_of_unlisted range_of_is refl

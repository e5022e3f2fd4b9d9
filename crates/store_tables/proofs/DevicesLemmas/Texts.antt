-- The SQL statements on the tables `devices`, `points` and `registers`, and the commands that
-- SQLite's parser builds from their texts.
use Rattle.std.proofs.Common.{◌≡◌, List, [], ◌∷◌, codes, ℕ, false, refl, pos}
use Rattle.sqlite.specs.declared.types.Value.TheVariants.{Null, Text}
use Rattle.sqlite.specs.Term.{Term, lit, col}
use Rattle.sqlite.specs.Source.TheVariants.{Values}
use Rattle.sqlite.specs.Command.TheVariants.{Insert, Select, Delete}
use Rattle.sqlite_tied.specs.Compute.{everything}
use Rattle.sqlite.specs.Listing.{understood, reads_listing}
use Rattle.sqlite.proofs.Callers.{IsPlain, command_of}
use Rattle.store_tables.specs.Schema.{books_schema}
use Rattle.store_tables.proofs.Failures.{Suits, suits_scan}
use Rattle.store_tables.proofs.Scans.{scan, no_limit, one, is_param, rising, falling}

-- The text of the SQL statement `insert_device`, which adds a row to `devices`, and the command
-- that SQLite's parser builds from this text.

abbrev pub insert_device : List ℕ
insert_device = codes "INSERT INTO devices (place, name, unit, timeout, \"window\") VALUES (?1, ?2, ?3, ?4, ?5)"

abbrev pub insert_device_terms : List Term
insert_device_terms = col 0 0 ∷ lit Null ∷ col 0 1 ∷ col 0 2 ∷ col 0 3 ∷ col 0 4 ∷ []

pub insert_device_is : command_of (understood books_schema insert_device) ≡ Insert 1 (Values insert_device_terms 6)
unfolding understood everything
insert_device_is = refl

pub insert_device_plain : IsPlain (understood books_schema insert_device)
unfolding understood everything
insert_device_plain = (refl, refl)

-- The text of the SQL statement `insert_point`, which adds a row to `points`, and the command that
-- SQLite's parser builds from this text.

abbrev pub insert_point : List ℕ
insert_point = codes "INSERT INTO points (device, place, name, function, area, address, kind, scale) VALUES (?1, ?2, ?3, ?4, ?5, ?6, ?7, ?8)"

abbrev pub insert_point_terms : List Term
insert_point_terms = lit Null ∷ col 0 0 ∷ col 0 1 ∷ col 0 2 ∷ col 0 3 ∷ col 0 4 ∷ col 0 5 ∷ col 0 6 ∷ col 0 7 ∷ []

pub insert_point_is : command_of (understood books_schema insert_point) ≡ Insert 2 (Values insert_point_terms 9)
unfolding understood everything
insert_point_is = refl

pub insert_point_plain : IsPlain (understood books_schema insert_point)
unfolding understood everything
insert_point_plain = (refl, refl)

-- The text of the SQL statement `delete_points`, which deletes a device's points, and the command
-- that SQLite's parser builds from this text.

abbrev pub delete_points : List ℕ
delete_points = codes "DELETE FROM points WHERE device = ?1"

abbrev pub drop_points_tests : List Term
drop_points_tests = is_param 1 0 ∷ []

pub drop_points_is : command_of (understood books_schema delete_points) ≡ Delete 2 (record { lets = []; body = scan 3 drop_points_tests (col 1 0 ∷ []) [] no_limit })
unfolding understood everything
drop_points_is = refl

pub drop_points_plain : IsPlain (understood books_schema delete_points)
unfolding understood everything
drop_points_plain = (refl, refl)

-- The text of the SQL statement `insert_register`, which adds a row to `registers`, and the command
-- that SQLite's parser builds from this text.

abbrev pub insert_register : List ℕ
insert_register = codes "INSERT INTO registers (place, name, device, function, address, scale_kind, scale) VALUES (?1, ?2, ?3, ?4, ?5, ?6, ?7)"

abbrev pub insert_register_terms : List Term
insert_register_terms = col 0 0 ∷ lit Null ∷ col 0 1 ∷ col 0 2 ∷ col 0 3 ∷ col 0 4 ∷ col 0 5 ∷ col 0 6 ∷ []

pub insert_register_is : command_of (understood books_schema insert_register) ≡ Insert 3 (Values insert_register_terms 8)
unfolding understood everything
insert_register_is = refl

pub insert_register_plain : IsPlain (understood books_schema insert_register)
unfolding understood everything
insert_register_plain = (refl, refl)

-- The text of the SQL statement `device_rows`, which selects all devices, and the command that
-- SQLite's parser builds from this text.

abbrev pub device_rows : List ℕ
device_rows = codes "SELECT place, name, unit, timeout, \"window\" FROM devices ORDER BY place"

abbrev pub device_rows_tests : List Term
device_rows_tests = []

abbrev pub device_rows_project : List Term
device_rows_project = col 1 0 ∷ col 1 2 ∷ col 1 3 ∷ col 1 4 ∷ col 1 5 ∷ []

abbrev pub device_rows_names : List (List ℕ)
device_rows_names = codes "place" ∷ codes "name" ∷ codes "unit" ∷ codes "timeout" ∷ codes "window" ∷ []

pub device_rows_is : command_of (understood books_schema device_rows) ≡ Select (record { lets = []; body = scan 1 device_rows_tests device_rows_project ((col 1 0, rising) ∷ []) no_limit }) device_rows_names
unfolding understood everything
device_rows_is = refl

pub device_rows_unlisted : reads_listing books_schema device_rows ≡ false
unfolding understood everything
device_rows_unlisted = refl

pub device_rows_plain : IsPlain (understood books_schema device_rows)
unfolding understood everything
device_rows_plain = (refl, refl)

pub device_rows_suits : Suits books_schema device_rows ([])
unfolding understood everything
device_rows_suits = suits_scan 1 device_rows_tests device_rows_project ((col 1 0, rising) ∷ []) no_limit device_rows device_rows_names ([]) (refl, refl, refl) device_rows_plain device_rows_unlisted device_rows_is refl

-- The text of the SQL statement `last_device`, which selects the greatest index in `devices`, and
-- the command that SQLite's parser builds from this text.

abbrev pub last_device : List ℕ
last_device = codes "SELECT place FROM devices ORDER BY place DESC LIMIT 1"

abbrev pub last_device_tests : List Term
last_device_tests = []

abbrev pub last_device_project : List Term
last_device_project = col 1 0 ∷ []

abbrev pub last_device_names : List (List ℕ)
last_device_names = codes "place" ∷ []

pub last_device_is : command_of (understood books_schema last_device) ≡ Select (record { lets = []; body = scan 1 last_device_tests last_device_project ((col 1 0, falling) ∷ []) one }) last_device_names
unfolding understood everything
last_device_is = refl

pub last_device_unlisted : reads_listing books_schema last_device ≡ false
unfolding understood everything
last_device_unlisted = refl

pub last_device_plain : IsPlain (understood books_schema last_device)
unfolding understood everything
last_device_plain = (refl, refl)

pub last_device_suits : Suits books_schema last_device ([])
unfolding understood everything
last_device_suits = suits_scan 1 last_device_tests last_device_project ((col 1 0, falling) ∷ []) one last_device last_device_names ([]) (refl, refl, refl) last_device_plain last_device_unlisted last_device_is refl

-- The text of the SQL statement `point_rows`, which selects the points of a device, and the command
-- that SQLite's parser builds from this text.

abbrev pub point_rows : List ℕ
point_rows = codes "SELECT place, name, function, area, address, kind, scale FROM points WHERE device = ?1 ORDER BY place"

abbrev pub point_rows_tests : List Term
point_rows_tests = is_param 1 0 ∷ []

abbrev pub point_rows_project : List Term
point_rows_project = col 1 2 ∷ col 1 3 ∷ col 1 4 ∷ col 1 5 ∷ col 1 6 ∷ col 1 7 ∷ col 1 8 ∷ []

abbrev pub point_rows_names : List (List ℕ)
point_rows_names = codes "place" ∷ codes "name" ∷ codes "function" ∷ codes "area" ∷ codes "address" ∷ codes "kind" ∷ codes "scale" ∷ []

pub point_rows_is : command_of (understood books_schema point_rows) ≡ Select (record { lets = []; body = scan 3 point_rows_tests point_rows_project ((col 1 2, rising) ∷ []) no_limit }) point_rows_names
unfolding understood everything
point_rows_is = refl

pub point_rows_unlisted : reads_listing books_schema point_rows ≡ false
unfolding understood everything
point_rows_unlisted = refl

pub point_rows_plain : IsPlain (understood books_schema point_rows)
unfolding understood everything
point_rows_plain = (refl, refl)

pub point_rows_suits : (device : List ℕ) → Suits books_schema point_rows (Text device ∷ [])
unfolding understood everything
point_rows_suits device = suits_scan 3 point_rows_tests point_rows_project ((col 1 2, rising) ∷ []) no_limit point_rows point_rows_names (Text device ∷ []) (refl, refl, refl) point_rows_plain point_rows_unlisted point_rows_is refl

-- The text of the SQL statement `register_of`, which selects an accounting register (a named energy
-- counter) by name, and the command that SQLite's parser builds from this text.

abbrev pub register_of : List ℕ
register_of = codes "SELECT place, name, device, function, address, scale_kind, scale FROM registers WHERE name = ?1 LIMIT 1"

abbrev pub register_of_tests : List Term
register_of_tests = is_param 2 0 ∷ []

abbrev pub register_of_project : List Term
register_of_project = col 1 0 ∷ col 1 2 ∷ col 1 3 ∷ col 1 4 ∷ col 1 5 ∷ col 1 6 ∷ col 1 7 ∷ []

abbrev pub register_of_names : List (List ℕ)
register_of_names = codes "place" ∷ codes "name" ∷ codes "device" ∷ codes "function" ∷ codes "address" ∷ codes "scale_kind" ∷ codes "scale" ∷ []

pub register_of_is : command_of (understood books_schema register_of) ≡ Select (record { lets = []; body = scan 5 register_of_tests register_of_project [] one }) register_of_names
unfolding understood everything
register_of_is = refl

pub register_of_unlisted : reads_listing books_schema register_of ≡ false
unfolding understood everything
register_of_unlisted = refl

pub register_of_plain : IsPlain (understood books_schema register_of)
unfolding understood everything
register_of_plain = (refl, refl)

pub register_of_suits : (name : List ℕ) → Suits books_schema register_of (Text name ∷ [])
unfolding understood everything
register_of_suits name = suits_scan 5 register_of_tests register_of_project [] one register_of register_of_names (Text name ∷ []) (refl, refl, refl) register_of_plain register_of_unlisted register_of_is refl

-- The text of the SQL statement `register_rows`, which selects a device's accounting registers
-- (named energy counters), and the command that SQLite's parser builds from this text.

abbrev pub register_rows : List ℕ
register_rows = codes "SELECT place, name, device, function, address, scale_kind, scale FROM registers WHERE device = ?1 ORDER BY place"

abbrev pub register_rows_tests : List Term
register_rows_tests = is_param 3 0 ∷ []

abbrev pub register_rows_project : List Term
register_rows_project = col 1 0 ∷ col 1 2 ∷ col 1 3 ∷ col 1 4 ∷ col 1 5 ∷ col 1 6 ∷ col 1 7 ∷ []

abbrev pub register_rows_names : List (List ℕ)
register_rows_names = codes "place" ∷ codes "name" ∷ codes "device" ∷ codes "function" ∷ codes "address" ∷ codes "scale_kind" ∷ codes "scale" ∷ []

pub register_rows_is : command_of (understood books_schema register_rows) ≡ Select (record { lets = []; body = scan 5 register_rows_tests register_rows_project ((col 1 0, rising) ∷ []) no_limit }) register_rows_names
unfolding understood everything
register_rows_is = refl

pub register_rows_unlisted : reads_listing books_schema register_rows ≡ false
unfolding understood everything
register_rows_unlisted = refl

pub register_rows_plain : IsPlain (understood books_schema register_rows)
unfolding understood everything
register_rows_plain = (refl, refl)

pub register_rows_suits : (device : List ℕ) → Suits books_schema register_rows (Text device ∷ [])
unfolding understood everything
register_rows_suits device = suits_scan 5 register_rows_tests register_rows_project ((col 1 0, rising) ∷ []) no_limit register_rows register_rows_names (Text device ∷ []) (refl, refl, refl) register_rows_plain register_rows_unlisted register_rows_is refl

-- The text of the SQL statement `places_of`, which selects the indices of a device's rows in
-- `registers`, and the command that SQLite's parser builds from this text.

abbrev pub places_of : List ℕ
places_of = codes "SELECT place FROM registers WHERE device = ?1"

abbrev pub places_of_tests : List Term
places_of_tests = is_param 3 0 ∷ []

abbrev pub places_of_project : List Term
places_of_project = col 1 0 ∷ []

abbrev pub places_of_names : List (List ℕ)
places_of_names = codes "place" ∷ []

pub places_of_is : command_of (understood books_schema places_of) ≡ Select (record { lets = []; body = scan 5 places_of_tests places_of_project [] no_limit }) places_of_names
unfolding understood everything
places_of_is = refl

pub places_of_unlisted : reads_listing books_schema places_of ≡ false
unfolding understood everything
places_of_unlisted = refl

pub places_of_plain : IsPlain (understood books_schema places_of)
unfolding understood everything
places_of_plain = (refl, refl)

pub places_of_suits : (device : List ℕ) → Suits books_schema places_of (Text device ∷ [])
unfolding understood everything
places_of_suits device = suits_scan 5 places_of_tests places_of_project [] no_limit places_of places_of_names (Text device ∷ []) (refl, refl, refl) places_of_plain places_of_unlisted places_of_is refl

-- The text of the SQL statement `last_register`, which selects the greatest index in `registers`,
-- and the command that SQLite's parser builds from this text.

abbrev pub last_register : List ℕ
last_register = codes "SELECT place FROM registers ORDER BY place DESC LIMIT 1"

abbrev pub last_register_tests : List Term
last_register_tests = []

abbrev pub last_register_project : List Term
last_register_project = col 1 0 ∷ []

abbrev pub last_register_names : List (List ℕ)
last_register_names = codes "place" ∷ []

pub last_register_is : command_of (understood books_schema last_register) ≡ Select (record { lets = []; body = scan 5 last_register_tests last_register_project ((col 1 0, falling) ∷ []) one }) last_register_names
unfolding understood everything
last_register_is = refl

pub last_register_unlisted : reads_listing books_schema last_register ≡ false
unfolding understood everything
last_register_unlisted = refl

pub last_register_plain : IsPlain (understood books_schema last_register)
unfolding understood everything
last_register_plain = (refl, refl)

pub last_register_suits : Suits books_schema last_register ([])
unfolding understood everything
last_register_suits = suits_scan 5 last_register_tests last_register_project ((col 1 0, falling) ∷ []) one last_register last_register_names ([]) (refl, refl, refl) last_register_plain last_register_unlisted last_register_is refl

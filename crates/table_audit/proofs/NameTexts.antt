-- Lemmas on the meaning of the audit's SQL queries for devices, points and registers.
use Rattle.std.proofs.Common.{◌≡◌, List, [], ◌∷◌, codes, ℕ, false, refl}
use Rattle.sqlite.specs.Term.{Term, col}
use Rattle.sqlite.specs.Command.TheVariants.{Select}
use Rattle.sqlite_tied.specs.Compute.{everything}
use Rattle.sqlite.specs.Listing.{understood, reads_listing}
use Rattle.sqlite.proofs.Callers.{IsPlain, command_of}
use Rattle.store_tables.specs.Schema.{books_schema}
use Rattle.store_tables.proofs.Failures.{Suits, suits_scan}
use Rattle.store_tables.proofs.Scans.{scan, no_limit, rising}

-- Lemmas on the meaning of the SQL query for all devices.

abbrev pub device_rows : List ℕ
device_rows = codes "SELECT place, name, unit, timeout, \"window\" FROM devices ORDER BY place"

abbrev pub device_project : List Term
device_project = col 1 0 ∷ col 1 2 ∷ col 1 3 ∷ col 1 4 ∷ col 1 5 ∷ []

abbrev pub device_names : List (List ℕ)
device_names = codes "place" ∷ codes "name" ∷ codes "unit" ∷ codes "timeout" ∷ codes "window" ∷ []

pub device_rows_is : command_of (understood books_schema device_rows) ≡ Select (record { lets = []; body = scan 1 [] device_project ((col 1 0, rising) ∷ []) no_limit }) device_names
unfolding understood everything
device_rows_is = refl

pub device_rows_unlisted : reads_listing books_schema device_rows ≡ false
unfolding understood everything
device_rows_unlisted = refl

pub device_rows_plain : IsPlain (understood books_schema device_rows)
unfolding understood everything
device_rows_plain = (refl, refl)

pub device_rows_suits : Suits books_schema device_rows []
unfolding understood everything
device_rows_suits = suits_scan 1 [] device_project ((col 1 0, rising) ∷ []) no_limit device_rows device_names [] (refl, refl, refl) device_rows_plain device_rows_unlisted device_rows_is refl

-- Lemmas on the meaning of the SQL query for the names of all points.

abbrev pub point_rows : List ℕ
point_rows = codes "SELECT place, name FROM points ORDER BY device, place"

abbrev pub point_project : List Term
point_project = col 1 2 ∷ col 1 3 ∷ []

abbrev pub point_names : List (List ℕ)
point_names = codes "place" ∷ codes "name" ∷ []

pub point_rows_is : command_of (understood books_schema point_rows) ≡ Select (record { lets = []; body = scan 3 [] point_project ((col 1 1, rising) ∷ (col 1 2, rising) ∷ []) no_limit }) point_names
unfolding understood everything
point_rows_is = refl

pub point_rows_unlisted : reads_listing books_schema point_rows ≡ false
unfolding understood everything
point_rows_unlisted = refl

pub point_rows_plain : IsPlain (understood books_schema point_rows)
unfolding understood everything
point_rows_plain = (refl, refl)

pub point_rows_suits : Suits books_schema point_rows []
unfolding understood everything
point_rows_suits = suits_scan 3 [] point_project ((col 1 1, rising) ∷ (col 1 2, rising) ∷ []) no_limit point_rows point_names [] (refl, refl, refl) point_rows_plain point_rows_unlisted point_rows_is refl

-- Lemmas on the meaning of the SQL query for all registers.

abbrev pub register_rows : List ℕ
register_rows = codes "SELECT place, name, device, function, address, scale_kind, scale FROM registers ORDER BY place"

abbrev pub register_project : List Term
register_project = col 1 0 ∷ col 1 2 ∷ col 1 3 ∷ col 1 4 ∷ col 1 5 ∷ col 1 6 ∷ col 1 7 ∷ []

abbrev pub register_names : List (List ℕ)
register_names = codes "place" ∷ codes "name" ∷ codes "device" ∷ codes "function" ∷ codes "address" ∷ codes "scale_kind" ∷ codes "scale" ∷ []

pub register_rows_is : command_of (understood books_schema register_rows) ≡ Select (record { lets = []; body = scan 5 [] register_project ((col 1 0, rising) ∷ []) no_limit }) register_names
unfolding understood everything
register_rows_is = refl

pub register_rows_unlisted : reads_listing books_schema register_rows ≡ false
unfolding understood everything
register_rows_unlisted = refl

pub register_rows_plain : IsPlain (understood books_schema register_rows)
unfolding understood everything
register_rows_plain = (refl, refl)

pub register_rows_suits : Suits books_schema register_rows []
unfolding understood everything
register_rows_suits = suits_scan 5 [] register_project ((col 1 0, rising) ∷ []) no_limit register_rows register_names [] (refl, refl, refl) register_rows_plain register_rows_unlisted register_rows_is refl

-- The SQL text of the query for the meters of an accounting register (a named energy counter), and
-- proofs about the rows that the query returns.
use Rattle.std.proofs.Common.{◌≡◌, ℕ, bytes_eq, List, [], ◌∷◌, codes, false, refl}
use Rattle.sqlite.specs.declared.types.Value.TheVariants.{Text}
use Rattle.sqlite.specs.Order.{Row}
use Rattle.sqlite.specs.State.{State, Shown}
use Rattle.sqlite.specs.Term.{Term, col}
use Rattle.sqlite.specs.Command.TheVariants.{Select}
use Rattle.sqlite_tied.specs.Compute.{everything}
use Rattle.sqlite_value.specs.declared.keys.Key.{Key}
use Rattle.sqlite.specs.Listing.{understood, reads_listing}
use Rattle.sqlite.proofs.Callers.{IsPlain, command_of}
use Rattle.store_tables.specs.Schema.{books_schema, installations_table}
use Rattle.store_tables.specs.Content.{Content, AreTables, HasRows}
use Rattle.store_tables.specs.Answer.{FirstFirst}
use Rattle.store_tables.specs.Asking.{Shows}
use Rattle.store_tables.specs.Meters.Rows.{Installed, installed_columns, installed_place, installed_shown, is_at}
use Rattle.store_tables.specs.Meters.Trees.{installations}
use Rattle.store_tables.proofs.Failures.{Suits, suits_scan}
use Rattle.store_tables.proofs.Frames.{tree_at}
use Rattle.store_tables.proofs.Scans.{scan, no_limit, is_param, rising, text_is, and_true}
use Rattle.store_tables.proofs.Selects.{selects, in_order}

abbrev pub meters_at : List ℕ
meters_at = codes "SELECT place, meter, register, ceiling, ended, last_moment, last_raw, last_sf, total FROM installations WHERE register = ?1 ORDER BY place"

abbrev pub meters_at_tests : List Term
meters_at_tests = is_param 3 0 ∷ []

abbrev pub meters_at_project : List Term
meters_at_project = col 1 0 ∷ col 1 2 ∷ col 1 3 ∷ col 1 4 ∷ col 1 5 ∷ col 1 6 ∷ col 1 7 ∷ col 1 8 ∷ col 1 9 ∷ []

abbrev pub meters_at_order : List (Term × Key)
meters_at_order = (col 1 0, rising) ∷ []

abbrev pub meters_at_names : List (List ℕ)
meters_at_names = codes "place" ∷ codes "meter" ∷ codes "register" ∷ codes "ceiling" ∷ codes "ended" ∷ codes "last_moment" ∷ codes "last_raw" ∷ codes "last_sf" ∷ codes "total" ∷ []

pub meters_at_is : command_of (understood books_schema meters_at) ≡ Select (record { lets = []; body = scan 7 meters_at_tests meters_at_project meters_at_order no_limit }) meters_at_names
unfolding understood everything
meters_at_is = refl

pub meters_at_unlisted : reads_listing books_schema meters_at ≡ false
unfolding understood everything
meters_at_unlisted = refl

pub meters_at_plain : IsPlain (understood books_schema meters_at)
unfolding understood everything
meters_at_plain = (refl, refl)

pub meters_at_suits : (register : List ℕ) → Suits books_schema meters_at (Text register ∷ [])
unfolding understood everything
meters_at_suits register = suits_scan 7 meters_at_tests meters_at_project meters_at_order no_limit meters_at meters_at_names (Text register ∷ []) (refl, refl, refl) meters_at_plain meters_at_unlisted meters_at_is refl

pub meters_shown : (register : List ℕ) (old new : State) (content : Content) (xs : List Installed) (rows : List Row) → AreTables old.now content → HasRows installations installed_columns xs content
    → Shown meters_at (Text register ∷ []) old new rows → Shows (is_at register) (FirstFirst installed_place) installed_shown xs rows
meters_shown register old new content xs rows has are h =
    selects installations meters_at_tests meters_at_project meters_at_order no_limit (Text register ∷ []) installed_columns (is_at register) installed_shown (FirstFirst installed_place)
    (λ n x. rw (text_is x.register register, and_true (bytes_eq x.register register)) refl) (λ n x. refl) (λ m n x y le. in_order x.row.place y.row.place le)
    old new meters_at meters_at_names content xs rows (tree_at books_schema.tables 4 installations_table refl) has are meters_at_is meters_at_unlisted meters_at_plain h

-- Proofs that the queries on the tables `devices`, `points` and `registers` return exactly the rows
-- that their conditions select, in the order of the queries.
use Rattle.std.proofs.Common.{ℕ, bytes_eq, List, [], ◌∷◌, refl}
use Rattle.sqlite.specs.declared.types.Value.TheVariants.{Text}
use Rattle.sqlite.specs.Order.{Row}
use Rattle.sqlite.specs.Term.{col}
use Rattle.sqlite.specs.State.{State, Shown}
use Rattle.store_tables.specs.Schema.{books_schema, devices_table, points_table, registers_table}
use Rattle.store_tables.specs.Content.{Content, AreTables, HasRows}
use Rattle.store_tables.specs.Answer.{AnyOrder, LastFirst, FirstFirst, every}
use Rattle.store_tables.specs.Asking.{Shows, ShowsFirst}
use Rattle.store_tables.proofs.Frames.{tree_at}
use Rattle.store_tables.proofs.Scans.{text_is, and_true, no_limit, one, rising, falling}
use Rattle.store_tables.proofs.Selects.{selects, in_order}
use Rattle.store_tables.specs.Devices.Rows.{Added, device_columns, device_shown, device_place, device_place_shown, Listed, point_columns, point_shown, point_place, is_point_of, Registered, register_columns, register_shown, register_place, register_place_shown, is_register, is_register_of}
use Rattle.store_tables.specs.Devices.Trees.{devices, points, registers}
use Rattle.store_tables.proofs.DevicesLemmas.Texts as text

pub device_rows : (old new : State) (content : Content) (xs : List Added) (rows : List Row) → AreTables old.now content → HasRows devices device_columns xs content
    → Shown text.device_rows ([]) old new rows → Shows (every) (FirstFirst device_place) device_shown xs rows
device_rows old new content xs rows has are h =
    selects devices text.device_rows_tests text.device_rows_project ((col 1 0, rising) ∷ []) no_limit ([]) device_columns (every) device_shown (FirstFirst device_place)
    (λ n x. refl) (λ n x. refl) (λ m n x y le. in_order x.row.place y.row.place le)
    old new text.device_rows text.device_rows_names content xs rows (tree_at books_schema.tables 1 devices_table refl) has are text.device_rows_is text.device_rows_unlisted text.device_rows_plain h

pub last_device : (old new : State) (content : Content) (xs : List Added) (rows : List Row) → AreTables old.now content → HasRows devices device_columns xs content
    → Shown text.last_device ([]) old new rows → ShowsFirst (every) (LastFirst device_place) device_place_shown xs rows
last_device old new content xs rows has are h =
    selects devices text.last_device_tests text.last_device_project ((col 1 0, falling) ∷ []) one ([]) device_columns (every) device_place_shown (LastFirst device_place)
    (λ n x. refl) (λ n x. refl) (λ m n x y le. in_order y.row.place x.row.place le)
    old new text.last_device text.last_device_names content xs rows (tree_at books_schema.tables 1 devices_table refl) has are text.last_device_is text.last_device_unlisted text.last_device_plain h

pub point_rows : (device : List ℕ) (old new : State) (content : Content) (xs : List Listed) (rows : List Row) → AreTables old.now content → HasRows points point_columns xs content
    → Shown text.point_rows (Text device ∷ []) old new rows → Shows (is_point_of device) (FirstFirst point_place) point_shown xs rows
point_rows device old new content xs rows has are h =
    selects points text.point_rows_tests text.point_rows_project ((col 1 2, rising) ∷ []) no_limit (Text device ∷ []) point_columns (is_point_of device) point_shown (FirstFirst point_place)
    (λ n x. rw (text_is x.device device, and_true (bytes_eq x.device device)) refl) (λ n x. refl) (λ m n x y le. in_order x.row.place y.row.place le)
    old new text.point_rows text.point_rows_names content xs rows (tree_at books_schema.tables 2 points_table refl) has are text.point_rows_is text.point_rows_unlisted text.point_rows_plain h

pub register_of : (name : List ℕ) (old new : State) (content : Content) (xs : List Registered) (rows : List Row) → AreTables old.now content → HasRows registers register_columns xs content
    → Shown text.register_of (Text name ∷ []) old new rows → ShowsFirst (is_register name) (AnyOrder) register_shown xs rows
register_of name old new content xs rows has are h =
    selects registers text.register_of_tests text.register_of_project [] one (Text name ∷ []) register_columns (is_register name) register_shown (AnyOrder)
    (λ n x. rw (text_is x.name name, and_true (bytes_eq x.name name)) refl) (λ n x. refl) (λ m n x y le. tt)
    old new text.register_of text.register_of_names content xs rows (tree_at books_schema.tables 3 registers_table refl) has are text.register_of_is text.register_of_unlisted text.register_of_plain h

pub register_rows : (device : List ℕ) (old new : State) (content : Content) (xs : List Registered) (rows : List Row) → AreTables old.now content → HasRows registers register_columns xs content
    → Shown text.register_rows (Text device ∷ []) old new rows → Shows (is_register_of device) (FirstFirst register_place) register_shown xs rows
register_rows device old new content xs rows has are h =
    selects registers text.register_rows_tests text.register_rows_project ((col 1 0, rising) ∷ []) no_limit (Text device ∷ []) register_columns (is_register_of device) register_shown (FirstFirst register_place)
    (λ n x. rw (text_is x.device device, and_true (bytes_eq x.device device)) refl) (λ n x. refl) (λ m n x y le. in_order x.row.place y.row.place le)
    old new text.register_rows text.register_rows_names content xs rows (tree_at books_schema.tables 3 registers_table refl) has are text.register_rows_is text.register_rows_unlisted text.register_rows_plain h

pub places_of : (device : List ℕ) (old new : State) (content : Content) (xs : List Registered) (rows : List Row) → AreTables old.now content → HasRows registers register_columns xs content
    → Shown text.places_of (Text device ∷ []) old new rows → Shows (is_register_of device) (AnyOrder) register_place_shown xs rows
places_of device old new content xs rows has are h =
    selects registers text.places_of_tests text.places_of_project [] no_limit (Text device ∷ []) register_columns (is_register_of device) register_place_shown (AnyOrder)
    (λ n x. rw (text_is x.device device, and_true (bytes_eq x.device device)) refl) (λ n x. refl) (λ m n x y le. tt)
    old new text.places_of text.places_of_names content xs rows (tree_at books_schema.tables 3 registers_table refl) has are text.places_of_is text.places_of_unlisted text.places_of_plain h

pub last_register : (old new : State) (content : Content) (xs : List Registered) (rows : List Row) → AreTables old.now content → HasRows registers register_columns xs content
    → Shown text.last_register ([]) old new rows → ShowsFirst (every) (LastFirst register_place) register_place_shown xs rows
last_register old new content xs rows has are h =
    selects registers text.last_register_tests text.last_register_project ((col 1 0, falling) ∷ []) one ([]) register_columns (every) register_place_shown (LastFirst register_place)
    (λ n x. refl) (λ n x. refl) (λ m n x y le. in_order y.row.place x.row.place le)
    old new text.last_register text.last_register_names content xs rows (tree_at books_schema.tables 3 registers_table refl) has are text.last_register_is text.last_register_unlisted text.last_register_plain h

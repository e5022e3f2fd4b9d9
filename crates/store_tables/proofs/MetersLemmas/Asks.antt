-- Proofs of what the queries on the tables `installations` and `ranges` return.
use Rattle.std.proofs.Common.{ℕ, bytes_eq, List, [], ◌∷◌, refl}
use Rattle.sqlite.specs.declared.types.Value.TheVariants.{Text}
use Rattle.sqlite.specs.Order.{Row}
use Rattle.sqlite.specs.State.{State, Shown}
use Rattle.store_tables.specs.Schema.{books_schema, installations_table, ranges_table}
use Rattle.store_tables.specs.Content.{Content, AreTables, HasRows}
use Rattle.store_tables.specs.Answer.{AnyOrder, LastFirst, every}
use Rattle.store_tables.specs.Asking.{ShowsFirst}
use Rattle.store_tables.proofs.Frames.{tree_at}
use Rattle.store_tables.proofs.Scans.{falling, text_is, and_true, one}
use Rattle.store_tables.proofs.Selects.{selects, in_order}
use Rattle.store_tables.specs.Meters.Rows.{Installed, installed_columns, installed_shown, installed_place_shown, installed_place, is_meter, is_at, Ranged, ranged_columns, range_shown, is_range_of}
use Rattle.store_tables.specs.Meters.Trees.{installations, ranges}
use Rattle.store_tables.proofs.MetersLemmas.Texts as text

pub installation_of : (meter : List ℕ) (old new : State) (content : Content) (xs : List Installed) (rows : List Row) → AreTables old.now content → HasRows installations installed_columns xs content
    → Shown text.installation_of (Text meter ∷ []) old new rows → ShowsFirst (is_meter meter) (AnyOrder) installed_shown xs rows
installation_of meter old new content xs rows has are h =
    selects installations text.installation_of_tests text.installation_of_project [] one (Text meter ∷ []) installed_columns (is_meter meter) installed_shown (AnyOrder)
    (λ n x. rw (text_is x.meter meter, and_true (bytes_eq x.meter meter)) refl) (λ n x. refl) (λ m n x y le. tt)
    old new text.installation_of text.installation_of_names content xs rows (tree_at books_schema.tables 4 installations_table refl) has are text.installation_of_is text.installation_of_unlisted text.installation_of_plain h

pub installation_at : (register : List ℕ) (old new : State) (content : Content) (xs : List Installed) (rows : List Row) → AreTables old.now content → HasRows installations installed_columns xs content
    → Shown text.installation_at (Text register ∷ []) old new rows → ShowsFirst (is_at register) (LastFirst installed_place) installed_shown xs rows
installation_at register old new content xs rows has are h =
    selects installations text.installation_at_tests text.installation_at_project ((Rattle.sqlite.specs.Term.col 1 0, falling) ∷ []) one (Text register ∷ []) installed_columns (is_at register) installed_shown (LastFirst installed_place)
    (λ n x. rw (text_is x.register register, and_true (bytes_eq x.register register)) refl) (λ n x. refl) (λ m n x y le. in_order y.row.place x.row.place le)
    old new text.installation_at text.installation_at_names content xs rows (tree_at books_schema.tables 4 installations_table refl) has are text.installation_at_is text.installation_at_unlisted text.installation_at_plain h

pub last_installation : (old new : State) (content : Content) (xs : List Installed) (rows : List Row) → AreTables old.now content → HasRows installations installed_columns xs content
    → Shown text.last_installation ([]) old new rows → ShowsFirst (every) (LastFirst installed_place) installed_place_shown xs rows
last_installation old new content xs rows has are h =
    selects installations text.last_installation_tests text.last_installation_project ((Rattle.sqlite.specs.Term.col 1 0, falling) ∷ []) one ([]) installed_columns (every) installed_place_shown (LastFirst installed_place)
    (λ n x. refl) (λ n x. refl) (λ m n x y le. in_order y.row.place x.row.place le)
    old new text.last_installation text.last_installation_names content xs rows (tree_at books_schema.tables 4 installations_table refl) has are text.last_installation_is text.last_installation_unlisted text.last_installation_plain h

pub range_of : (meter : List ℕ) (old new : State) (content : Content) (xs : List Ranged) (rows : List Row) → AreTables old.now content → HasRows ranges ranged_columns xs content
    → Shown text.range_of (Text meter ∷ []) old new rows → ShowsFirst (is_range_of meter) (AnyOrder) range_shown xs rows
range_of meter old new content xs rows has are h =
    selects ranges text.range_of_tests text.range_of_project [] one (Text meter ∷ []) ranged_columns (is_range_of meter) range_shown (AnyOrder)
    (λ n x. rw (text_is x.meter meter, and_true (bytes_eq x.meter meter)) refl) (λ n x. refl) (λ m n x y le. tt)
    old new text.range_of text.range_of_names content xs rows (tree_at books_schema.tables 11 ranges_table refl) has are text.range_of_is text.range_of_unlisted text.range_of_plain h

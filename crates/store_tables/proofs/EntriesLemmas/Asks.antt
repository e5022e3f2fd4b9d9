-- Proofs of what the queries on the tables `entries` and `voids` return.
use Rattle.std.proofs.Common.{ℕ, ◌==◌, pos, bytes_eq, List, [], ◌∷◌, refl}
use Rattle.sqlite.specs.declared.types.Value.TheVariants.{Int, Text}
use Rattle.sqlite.specs.Order.{Row}
use Rattle.sqlite.specs.State.{State, Shown}
use Rattle.store_tables.specs.Schema.{books_schema, entries_table, voids_table}
use Rattle.store_tables.specs.Content.{Content, AreTables, HasRows}
use Rattle.store_tables.specs.Answer.{AnyOrder, LastFirst, FirstFirst, every}
use Rattle.store_tables.specs.Asking.{Shows, ShowsFirst}
use Rattle.store_tables.proofs.Frames.{tree_at}
use Rattle.store_tables.proofs.Scans.{falling, rising, text_is, number_is, and_true, no_limit, one}
use Rattle.store_tables.proofs.Selects.{selects, in_order}
use Rattle.store_tables.specs.Entries.Rows.{Entered, entry_columns, entry_shown, place_shown, entry_place, is_entry, is_of, Voided, voided_columns, voided_shown, voided_place, is_void_of}
use Rattle.store_tables.specs.Entries.Latest.{entry_moment, entry_moment_shown, void_moment, void_moment_shown}
use Rattle.store_tables.specs.Entries.Trees.{entries, voids}
use Rattle.store_tables.proofs.EntriesLemmas.Texts as text

pub entry_at : (meter : List ℕ) (place : ℕ) (old new : State) (content : Content) (xs : List Entered) (rows : List Row) → AreTables old.now content → HasRows entries entry_columns xs content
    → Shown text.entry_at (Text meter ∷ Int (pos place) ∷ []) old new rows → ShowsFirst (is_entry meter place) (AnyOrder) entry_shown xs rows
entry_at meter place old new content xs rows has are h =
    selects entries text.entry_at_tests text.entry_at_project [] one (Text meter ∷ Int (pos place) ∷ []) entry_columns (is_entry meter place) entry_shown (AnyOrder)
    (λ n x. rw (text_is x.meter meter, number_is x.entry.place place, and_true (x.entry.place == place)) refl) (λ n x. refl) (λ m n x y le. tt)
    old new text.entry_at text.entry_at_names content xs rows (tree_at books_schema.tables 5 entries_table refl) has are text.entry_at_is text.entry_at_unlisted text.entry_at_plain h

pub last_place : (meter : List ℕ) (old new : State) (content : Content) (xs : List Entered) (rows : List Row) → AreTables old.now content → HasRows entries entry_columns xs content
    → Shown text.last_place (Text meter ∷ []) old new rows → ShowsFirst (is_of meter) (LastFirst entry_place) place_shown xs rows
last_place meter old new content xs rows has are h =
    selects entries text.last_place_tests text.last_place_project ((Rattle.sqlite.specs.Term.col 1 2, falling) ∷ []) one (Text meter ∷ []) entry_columns (is_of meter) place_shown (LastFirst entry_place)
    (λ n x. rw (text_is x.meter meter, and_true (bytes_eq x.meter meter)) refl) (λ n x. refl) (λ m n x y le. in_order y.entry.place x.entry.place le)
    old new text.last_place text.last_place_names content xs rows (tree_at books_schema.tables 5 entries_table refl) has are text.last_place_is text.last_place_unlisted text.last_place_plain h

pub entry_rows : (meter : List ℕ) (old new : State) (content : Content) (xs : List Entered) (rows : List Row) → AreTables old.now content → HasRows entries entry_columns xs content
    → Shown text.entry_rows (Text meter ∷ []) old new rows → Shows (is_of meter) (FirstFirst entry_place) entry_shown xs rows
entry_rows meter old new content xs rows has are h =
    selects entries text.entry_rows_tests text.entry_rows_project ((Rattle.sqlite.specs.Term.col 1 2, rising) ∷ []) no_limit (Text meter ∷ []) entry_columns (is_of meter) entry_shown (FirstFirst entry_place)
    (λ n x. rw (text_is x.meter meter, and_true (bytes_eq x.meter meter)) refl) (λ n x. refl) (λ m n x y le. in_order x.entry.place y.entry.place le)
    old new text.entry_rows text.entry_rows_names content xs rows (tree_at books_schema.tables 5 entries_table refl) has are text.entry_rows_is text.entry_rows_unlisted text.entry_rows_plain h

pub void_rows : (meter : List ℕ) (old new : State) (content : Content) (xs : List Voided) (rows : List Row) → AreTables old.now content → HasRows voids voided_columns xs content
    → Shown text.void_rows (Text meter ∷ []) old new rows → Shows (is_void_of meter) (FirstFirst voided_place) voided_shown xs rows
void_rows meter old new content xs rows has are h =
    selects voids text.void_rows_tests text.void_rows_project ((Rattle.sqlite.specs.Term.col 1 2, rising) ∷ []) no_limit (Text meter ∷ []) voided_columns (is_void_of meter) voided_shown (FirstFirst voided_place)
    (λ n x. rw (text_is x.meter meter, and_true (bytes_eq x.meter meter)) refl) (λ n x. refl) (λ m n x y le. in_order x.place y.place le)
    old new text.void_rows text.void_rows_names content xs rows (tree_at books_schema.tables 12 voids_table refl) has are text.void_rows_is text.void_rows_unlisted text.void_rows_plain h

pub latest_entry : (old new : State) (content : Content) (xs : List Entered) (rows : List Row) → AreTables old.now content → HasRows entries entry_columns xs content
    → Shown text.latest_entry [] old new rows → ShowsFirst every (LastFirst entry_moment) entry_moment_shown xs rows
latest_entry old new content xs rows has are h =
    selects entries text.latest_entry_tests text.latest_entry_project ((Rattle.sqlite.specs.Term.col 1 4, falling) ∷ []) one [] entry_columns every entry_moment_shown (LastFirst entry_moment)
    (λ n x. refl) (λ n x. refl) (λ m n x y le. in_order y.entry.moment x.entry.moment le)
    old new text.latest_entry text.latest_entry_names content xs rows (tree_at books_schema.tables 5 entries_table refl) has are text.latest_entry_is text.latest_entry_unlisted text.latest_entry_plain h

pub latest_void : (old new : State) (content : Content) (xs : List Voided) (rows : List Row) → AreTables old.now content → HasRows voids voided_columns xs content
    → Shown text.latest_void [] old new rows → ShowsFirst every (LastFirst void_moment) void_moment_shown xs rows
latest_void old new content xs rows has are h =
    selects voids text.latest_void_tests text.latest_void_project ((Rattle.sqlite.specs.Term.col 1 3, falling) ∷ []) one [] voided_columns every void_moment_shown (LastFirst void_moment)
    (λ n x. refl) (λ n x. refl) (λ m n x y le. in_order y.moment x.moment le)
    old new text.latest_void text.latest_void_names content xs rows (tree_at books_schema.tables 12 voids_table refl) has are text.latest_void_is text.latest_void_unlisted text.latest_void_plain h

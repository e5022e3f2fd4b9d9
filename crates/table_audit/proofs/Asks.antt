-- Lemmas on the result rows of the audit's SQL queries. The columns of the queried tables may have
-- any values.
use Rattle.std.proofs.Common.{◌≡◌, ℕ, true, ◌&&◌, List, [], ◌∷◌, IsPermutation, refl, sym, ap, subst, ◌∙◌, map-id}
use Rattle.std.specs.Ordering.{is_gt}
use Rattle.std.proofs.lemmas.List.Sorted.{IsPermutation-refl}
use Rattle.sqlite.specs.declared.types.Value.{Value}
use Rattle.sqlite.specs.declared.types.Value.TheVariants.{Null, Int, Real, Text, Blob}
use Rattle.sqlite.specs.Order.{Row, column}
use Rattle.sqlite_value.specs.Order.{value_cmp}
use Rattle.sqlite_value.proofs.OrderLemmas.{then-Equal}
use Rattle.sqlite.specs.Ops.{binary, is_true}
use Rattle.sqlite_sql.specs.declared.ops.BinaryOp.TheVariants.{Compare}
use Rattle.sqlite_sql.specs.declared.ops.CompareOp.TheVariants.{Eq}
use Rattle.sqlite.specs.Collation.TheVariants.{Binary}
use Rattle.sqlite.specs.Term.{col}
use Rattle.sqlite.specs.State.{State, Shown}
use Rattle.store_tables.specs.Schema.{books_schema, meta_table, installations_table, entries_table, voids_table, ranges_table, intervals_table}
use Rattle.store_tables.specs.Content.{Content, AreTables, HasRows}
use Rattle.store_tables.specs.Answer.{AnyOrder, every}
use Rattle.store_tables.specs.Asking.{Shows}
use Rattle.store_tables.specs.Entries.Trees as entry_tree
use Rattle.store_tables.specs.Meta.{meta}
use Rattle.store_tables.specs.Meters.Trees as meter_tree
use Rattle.store_tables.proofs.Frames.{tree_at}
use Rattle.store_tables.proofs.Scans.{rising, text_is, and_true, no_limit}
use Rattle.store_tables.proofs.Selects.{selects}
use Rattle.store_tables.proofs.EntriesLemmas.Texts as entry_text
use Rattle.table_audit.specs.FileMark.{mark_shown}
use Rattle.table_audit.specs.Looking.{itself}
use Rattle.table_audit.specs.Showing.{intervals_tree, is_text, is_of, InOrder, InPlace, installation_shown, range_shown, entry_shown, void_shown, share_shown}
use Rattle.table_audit.proofs.SqlTexts as text

-- SQL's binary comparison of a value with a text is true if and only if the value is this text.
text_test : (v : Value) (t : List ℕ) → is_true (binary (Compare Eq Binary) v (Text t)) ≡ is_text t v
unfolding binary value_cmp
text_test Null t = refl
text_test (Int n) t = refl
text_test (Real x) t = refl
text_test (Text s) t = text_is s t
text_test (Blob b) t = refl

meter_test : (row : Row) (meter : List ℕ) → is_true (binary (Compare Eq Binary) (column row 0) (Text meter)) && true ≡ is_of meter row
meter_test row meter = and_true (is_true (binary (Compare Eq Binary) (column row 0) (Text meter))) ∙ text_test (column row 0) meter

pub range_rows : (meter : List ℕ) (old new : State) (content : Content) (xs rows : List Row) → AreTables old.now content → HasRows meter_tree.ranges itself xs content
    → Shown text.range_rows (Text meter ∷ []) old new rows → Shows (is_of meter) AnyOrder range_shown xs rows
range_rows meter old new content xs rows has are h =
    selects meter_tree.ranges text.of_meter text.range_project [] no_limit (Text meter ∷ []) itself (is_of meter) range_shown AnyOrder
    (λ n x. meter_test x meter) (λ n x. refl) (λ m n x y le. tt)
    old new text.range_rows text.range_names content xs rows (tree_at books_schema.tables 11 ranges_table refl) has are text.range_rows_is text.range_rows_unlisted text.range_rows_plain h

pub share_rows : (meter : List ℕ) (old new : State) (content : Content) (xs rows : List Row) → AreTables old.now content → HasRows intervals_tree itself xs content
    → Shown text.share_rows (Text meter ∷ []) old new rows → Shows (is_of meter) InOrder share_shown xs rows
share_rows meter old new content xs rows has are h =
    selects intervals_tree text.of_meter text.share_project ((col 1 2, rising) ∷ []) no_limit (Text meter ∷ []) itself (is_of meter) share_shown InOrder
    (λ n x. meter_test x meter) (λ n x. refl)
    (λ m n x y le. sym (ap is_gt (then-Equal (value_cmp (column x 1) (column y 1)))) ∙ le)
    old new text.share_rows text.share_names content xs rows (tree_at books_schema.tables 9 intervals_table refl) has are text.share_rows_is text.share_rows_unlisted text.share_rows_plain h

pub entry_rows : (meter : List ℕ) (old new : State) (content : Content) (xs rows : List Row) → AreTables old.now content → HasRows entry_tree.entries itself xs content
    → Shown entry_text.entry_rows (Text meter ∷ []) old new rows → Shows (is_of meter) InOrder entry_shown xs rows
entry_rows meter old new content xs rows has are h =
    selects entry_tree.entries entry_text.entry_rows_tests entry_text.entry_rows_project ((col 1 2, rising) ∷ []) no_limit (Text meter ∷ []) itself (is_of meter) entry_shown InOrder
    (λ n x. meter_test x meter) (λ n x. refl)
    (λ m n x y le. sym (ap is_gt (then-Equal (value_cmp (column x 1) (column y 1)))) ∙ le)
    old new entry_text.entry_rows entry_text.entry_rows_names content xs rows (tree_at books_schema.tables 5 entries_table refl) has are entry_text.entry_rows_is entry_text.entry_rows_unlisted entry_text.entry_rows_plain h

pub void_rows : (meter : List ℕ) (old new : State) (content : Content) (xs rows : List Row) → AreTables old.now content → HasRows entry_tree.voids itself xs content
    → Shown text.void_rows (Text meter ∷ []) old new rows → Shows (is_of meter) InOrder void_shown xs rows
void_rows meter old new content xs rows has are h =
    selects entry_tree.voids text.of_meter text.void_project ((col 1 2, rising) ∷ []) no_limit (Text meter ∷ []) itself (is_of meter) void_shown InOrder
    (λ n x. meter_test x meter) (λ n x. refl)
    (λ m n x y le. sym (ap is_gt (then-Equal (value_cmp (column x 1) (column y 1)))) ∙ le)
    old new text.void_rows text.void_names content xs rows (tree_at books_schema.tables 12 voids_table refl) has are text.void_rows_is text.void_rows_unlisted text.void_rows_plain h

pub installation_rows : (old new : State) (content : Content) (xs rows : List Row) → AreTables old.now content → HasRows meter_tree.installations itself xs content
    → Shown text.installation_rows [] old new rows → Shows every InPlace installation_shown xs rows
installation_rows old new content xs rows has are h =
    selects meter_tree.installations [] text.installation_project ((col 1 0, rising) ∷ []) no_limit [] itself every installation_shown InPlace
    (λ n x. refl) (λ n x. refl)
    (λ m n x y le. sym (ap is_gt (then-Equal (value_cmp (column x 0) (column y 0)))) ∙ le)
    old new text.installation_rows text.installation_names content xs rows (tree_at books_schema.tables 4 installations_table refl) has are text.installation_rows_is text.installation_rows_unlisted text.installation_rows_plain h

pub mark_rows : (old new : State) (content : Content) (xs rows : List Row) → AreTables old.now content → HasRows meta itself xs content
    → Shown text.mark_rows [] old new rows → Shows every InPlace mark_shown xs rows
mark_rows old new content xs rows has are h =
    selects meta [] text.mark_project ((col 1 0, rising) ∷ []) no_limit [] itself every mark_shown InPlace
    (λ n x. refl) (λ n x. refl)
    (λ m n x y le. sym (ap is_gt (then-Equal (value_cmp (column x 0) (column y 0)))) ∙ le)
    old new text.mark_rows text.mark_names content xs rows (tree_at books_schema.tables 0 meta_table refl) has are text.mark_rows_is text.mark_rows_unlisted text.mark_rows_plain h

-- The result of a query that returns each row of a table unchanged has all rows of the table.
pub all_rows : (content : Content) (tree : ℕ) → HasRows tree itself (content tree) content
all_rows content tree = subst (λ rows. IsPermutation rows (content tree)) (sym (map-id (content tree))) (IsPermutation-refl (content tree))

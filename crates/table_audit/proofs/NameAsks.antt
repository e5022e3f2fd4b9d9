-- Lemmas on the result rows of the audit's queries for devices, points and registers.
use Rattle.std.proofs.Common.{◌≡◌, ℕ, List, [], ◌∷◌, refl, sym, ap, ◌∙◌}
use Rattle.std.specs.Ordering.{is_gt}
use Rattle.sqlite.specs.Order.{Row, column}
use Rattle.sqlite_value.specs.Order.{value_cmp}
use Rattle.sqlite_value.proofs.OrderLemmas.{then-Equal}
use Rattle.sqlite.specs.Term.{col}
use Rattle.sqlite.specs.State.{State, Shown}
use Rattle.store_tables.specs.Schema.{books_schema, devices_table, points_table, registers_table}
use Rattle.store_tables.specs.Content.{Content, AreTables, HasRows}
use Rattle.store_tables.specs.Answer.{AnyOrder, every}
use Rattle.store_tables.specs.Asking.{Shows}
use Rattle.store_tables.specs.Devices.Trees as device_tree
use Rattle.store_tables.proofs.Frames.{tree_at}
use Rattle.store_tables.proofs.Scans.{rising, no_limit}
use Rattle.store_tables.proofs.Selects.{selects}
use Rattle.table_audit.specs.Looking.{itself}
use Rattle.table_audit.specs.Names.{device_shown, point_shown, register_shown}
use Rattle.table_audit.specs.Showing.{InPlace}
use Rattle.table_audit.proofs.NameTexts as text

pub device_rows : (old new : State) (content : Content) (xs rows : List Row) → AreTables old.now content → HasRows device_tree.devices itself xs content
    → Shown text.device_rows [] old new rows → Shows every InPlace device_shown xs rows
device_rows old new content xs rows has are h =
    selects device_tree.devices [] text.device_project ((col 1 0, rising) ∷ []) no_limit [] itself every device_shown InPlace
    (λ n x. refl) (λ n x. refl) (λ m n x y le. sym (ap is_gt (then-Equal (value_cmp (column x 0) (column y 0)))) ∙ le)
    old new text.device_rows text.device_names content xs rows (tree_at books_schema.tables 1 devices_table refl) has are text.device_rows_is text.device_rows_unlisted text.device_rows_plain h

pub point_rows : (old new : State) (content : Content) (xs rows : List Row) → AreTables old.now content → HasRows device_tree.points itself xs content
    → Shown text.point_rows [] old new rows → Shows every AnyOrder point_shown xs rows
point_rows old new content xs rows has are h =
    selects device_tree.points [] text.point_project ((col 1 1, rising) ∷ (col 1 2, rising) ∷ []) no_limit [] itself every point_shown AnyOrder
    (λ n x. refl) (λ n x. refl) (λ m n x y le. tt)
    old new text.point_rows text.point_names content xs rows (tree_at books_schema.tables 2 points_table refl) has are text.point_rows_is text.point_rows_unlisted text.point_rows_plain h

pub register_rows : (old new : State) (content : Content) (xs rows : List Row) → AreTables old.now content → HasRows device_tree.registers itself xs content
    → Shown text.register_rows [] old new rows → Shows every InPlace register_shown xs rows
register_rows old new content xs rows has are h =
    selects device_tree.registers [] text.register_project ((col 1 0, rising) ∷ []) no_limit [] itself every register_shown InPlace
    (λ n x. refl) (λ n x. refl) (λ m n x y le. sym (ap is_gt (then-Equal (value_cmp (column x 0) (column y 0)))) ∙ le)
    old new text.register_rows text.register_names content xs rows (tree_at books_schema.tables 3 registers_table refl) has are text.register_rows_is text.register_rows_unlisted text.register_rows_plain h

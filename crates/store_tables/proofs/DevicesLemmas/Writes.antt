-- Proofs of the effect of each SQL statement that writes the table `devices`, `points` or
-- `registers`.
use Rattle.std.proofs.Common.{◌≡◌, ℕ, pos, bytes_eq, List, [], ◌∷◌, drop, Result, OnOk, refl}
use Rattle.sqlite.specs.declared.types.Value.TheVariants.{Null, Text}
use Rattle.sqlite.specs.declared.error.Error.{Error}
use Rattle.sqlite.specs.Cast.{cast_row}
use Rattle.sqlite.specs.State.{State, Executes}
use Rattle.store_tables.specs.Schema.{devices_table, points_table, registers_table}
use Rattle.store_tables.specs.Content.{Edits, with_row, without_where}
use Rattle.store_tables.specs.Steps.{Turns}
use Rattle.store_tables.proofs.Scans.{text_is, and_true}
use Rattle.store_tables.proofs.Updates.{deletes}
use Rattle.store_tables.proofs.OtherTables.{cast_int, cast_null}
use Rattle.store_tables.proofs.Inserts.{plainly, inserts, chosen_rowid, given_rowid}
use Rattle.store_tables.specs.Devices.Rows.{Added, device_columns, device_shown, Listed, point_columns, is_point_of, Registered, register_columns, register_shown}
use Rattle.store_tables.specs.Devices.Trees.{devices, points, registers}
use Rattle.store_tables.proofs.DevicesLemmas.Texts as text

device_cast : (d : Added) → cast_row (plainly devices_table) (device_columns d) ≡ device_columns d
device_cast d = simp (cast_null, cast_int)

pub insert_device : (old new : State) (d : Added) (r : Result ℕ Error) → Executes text.insert_device (device_shown d) old new r → OnOk r (Turns (Edits devices device_columns (with_row d)) old.now new.now)
insert_device old new d r h =
    inserts devices_table 1 refl device_columns d (device_columns d) (given_rowid _ (drop 1 (device_columns d)) (pos d.row.place) (device_cast d)) old new text.insert_device_terms 6
    text.insert_device (device_shown d) r text.insert_device_is text.insert_device_plain (λ rows s. s.1) h

point_cast : (p : Listed) → cast_row (plainly points_table) (Null ∷ point_columns p) ≡ Null ∷ point_columns p
point_cast p = simp (cast_null, cast_int)

pub insert_point : (old new : State) (p : Listed) (r : Result ℕ Error) → Executes text.insert_point (point_columns p) old new r → OnOk r (Turns (Edits points point_columns (with_row p)) old.now new.now)
insert_point old new p r h =
    inserts points_table 2 refl point_columns p (Null ∷ point_columns p) (chosen_rowid _ _ (point_cast p)) old new text.insert_point_terms 9 text.insert_point (point_columns p) r text.insert_point_is text.insert_point_plain (λ rows s. s.1) h

pub delete_points : (device : List ℕ) (old new : State) (r : Result ℕ Error) → Executes text.delete_points (Text device ∷ []) old new r → OnOk r (Turns (Edits points point_columns (without_where (is_point_of device))) old.now new.now)
delete_points device old new r h =
    deletes points_table 2 refl (Text device ∷ []) text.drop_points_tests point_columns (is_point_of device)
    (λ n p. rw (text_is p.device device, and_true (bytes_eq p.device device)) refl) old new text.delete_points r text.drop_points_is text.drop_points_plain h

register_cast : (x : Registered) → cast_row (plainly registers_table) (register_columns x) ≡ register_columns x
register_cast x = simp (cast_null, cast_int)

pub insert_register : (old new : State) (x : Registered) (r : Result ℕ Error) → Executes text.insert_register (register_shown x) old new r → OnOk r (Turns (Edits registers register_columns (with_row x)) old.now new.now)
insert_register old new x r h =
    inserts registers_table 3 refl register_columns x (register_columns x) (given_rowid _ (drop 1 (register_columns x)) (pos x.row.place) (register_cast x)) old new text.insert_register_terms 8
    text.insert_register (register_shown x) r text.insert_register_is text.insert_register_plain (λ rows s. s.1) h

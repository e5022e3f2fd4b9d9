-- Proofs that the SQL statements on the table `meta` insert its row and set its version, and change
-- nothing else.
use Rattle.std.proofs.Common.{◌≡◌, ℕ, pos, List, [], ◌∷◌, Result, OnOk, refl}
use Rattle.sqlite.specs.declared.types.Value.TheVariants.{Text}
use Rattle.sqlite.specs.declared.error.Error.{Error}
use Rattle.sqlite.specs.State.{State, Executes}
use Rattle.sqlite.specs.Cast.{cast_row}
use Rattle.store_tables.specs.Schema.{meta_table}
use Rattle.store_tables.specs.Content.{Edits, with_row, changed_where}
use Rattle.store_tables.specs.Answer.{every}
use Rattle.store_tables.specs.Steps.{Turns}
use Rattle.store_tables.proofs.Inserts.{inserts, plainly, given_rowid}
use Rattle.store_tables.proofs.Updates.{updates}
use Rattle.store_tables.proofs.OtherTables.{cast_int, cast_null, rowid_stays}
use Rattle.store_tables.specs.Meta.{Meta, meta, meta_columns, with_version}
use Rattle.store_tables.proofs.Texts as text

meta_cast : (m : Meta) → cast_row (plainly meta_table) (meta_columns m) ≡ meta_columns m
meta_cast m = simp (cast_null, cast_int)

pub insert_meta : (zone : List ℕ) (old new : State) (r : Result ℕ Error) → Executes text.insert_meta (Text zone ∷ []) old new r
    → OnOk r (Turns (Edits meta meta_columns (with_row (record { version = 3; zone = zone }))) old.now new.now)
insert_meta zone old new r h =
    let m : Meta = record { version = 3; zone = zone } in
    inserts meta_table 0 refl meta_columns m (meta_columns m) (given_rowid _ _ (pos 1) (meta_cast m)) old new text.insert_meta_terms 4 text.insert_meta (Text zone ∷ []) r text.insert_meta_is text.insert_meta_plain (λ rows s. s.1) h

pub set_version : (old new : State) (r : Result ℕ Error) → Executes text.set_version [] old new r → OnOk r (Turns (Edits meta meta_columns (changed_where every (with_version 3))) old.now new.now)
set_version old new r h =
    updates meta_table 0 refl [] [] text.set_version_news meta_columns every (with_version 3) (λ n m. refl) (λ n m. simp (cast_int, cast_null)) rowid_stays
    old new text.set_version r text.set_version_is text.set_version_plain h

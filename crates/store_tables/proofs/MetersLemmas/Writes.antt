-- Proofs of the effect of each SQL statement that writes the table `installations` or `ranges`.
use Rattle.std.proofs.Common.{◌≡◌, ℕ, pos, bytes_eq, List, [], ◌∷◌, drop, Result, OnOk, refl}
use Rattle.sqlite.specs.declared.types.Value.TheVariants.{Null, Int, Text}
use Rattle.sqlite.specs.declared.error.Error.{Error}
use Rattle.sqlite.specs.Order.{Row}
use Rattle.sqlite.specs.Cast.{cast_row}
use Rattle.sqlite.specs.State.{State, Executes}
use Rattle.store_tables.specs.Schema.{installations_table, ranges_table}
use Rattle.store_tables.specs.Content.{Edits, with_row, changed_where}
use Rattle.store_tables.specs.Steps.{Turns}
use Rattle.store_tables.proofs.Scans.{text_is, and_true}
use Rattle.store_tables.proofs.Updates.{updates}
use Rattle.store_tables.proofs.OtherTables.{cast_int, cast_null, rowid_stays}
use Rattle.store_tables.proofs.Inserts.{plainly, inserts, chosen_rowid, given_rowid}
use Rattle.store_tables.specs.declared.meters.rows.LastRow.{LastRow}
use Rattle.store_tables.specs.Meters.Rows.{Installed, installed_columns, installed_shown, is_meter, moved, ended, Ranged, ranged_columns}
use Rattle.store_tables.specs.Meters.Trees.{installations, ranges}
use Rattle.store_tables.proofs.MetersLemmas.Texts as text

-- Lemmas: the SQL statements `insert_installation`, `update_last` and `close_installation` add or
-- change exactly the given meter's row of the table `installations`.

installation_cast : (i : Installed) → cast_row (plainly installations_table) (installed_columns i) ≡ installed_columns i
installation_cast i = simp (cast_null, cast_int)

pub insert_installation : (old new : State) (i : Installed) (r : Result ℕ Error) → Executes text.insert_installation (installed_shown i) old new r → OnOk r (Turns (Edits installations installed_columns (with_row i)) old.now new.now)
insert_installation old new i r h =
    inserts installations_table 4 refl installed_columns i (installed_columns i) (given_rowid _ (drop 1 (installed_columns i)) (pos i.row.place) (installation_cast i)) old new text.insert_installation_terms 10
    text.insert_installation (installed_shown i) r text.insert_installation_is text.insert_installation_plain (λ rows s. s.1) h

module _ (meter : List ℕ) (last : LastRow) where
  abbrev pub move_params : Row
  move_params = Text meter ∷ Int (pos last.moment) ∷ Int (pos last.raw) ∷ Int last.sf ∷ Int (pos last.total) ∷ []

  pub update_last : (old new : State) (r : Result ℕ Error) → Executes text.update_last move_params old new r → OnOk r (Turns (Edits installations installed_columns (changed_where (is_meter meter) (moved last))) old.now new.now)
  update_last old new r h =
      updates installations_table 4 refl move_params text.move_installation_tests text.move_installation_news installed_columns (is_meter meter) (moved last)
      (λ n i. rw (text_is i.meter meter, and_true (bytes_eq i.meter meter)) refl) (λ n i. simp (cast_int, cast_null)) rowid_stays
      old new text.update_last r text.move_installation_is text.move_installation_plain h

pub close_installation : (meter : List ℕ) (old new : State) (r : Result ℕ Error) → Executes text.close_installation (Text meter ∷ []) old new r → OnOk r (Turns (Edits installations installed_columns (changed_where (is_meter meter) ended)) old.now new.now)
close_installation meter old new r h =
    updates installations_table 4 refl (Text meter ∷ []) text.end_installation_tests text.end_installation_news installed_columns (is_meter meter) ended
    (λ n i. rw (text_is i.meter meter, and_true (bytes_eq i.meter meter)) refl) (λ n i. simp (cast_int, cast_null)) rowid_stays
    old new text.close_installation r text.end_installation_is text.end_installation_plain h

-- Lemmas on the effect of inserting rows into the table `ranges`.

range_cast : (x : Ranged) → cast_row (plainly ranges_table) (Null ∷ ranged_columns x) ≡ Null ∷ ranged_columns x
range_cast x = simp (cast_null, cast_int)

pub insert_range : (old new : State) (x : Ranged) (r : Result ℕ Error) → Executes text.insert_range (ranged_columns x) old new r → OnOk r (Turns (Edits ranges ranged_columns (with_row x)) old.now new.now)
insert_range old new x r h =
    inserts ranges_table 11 refl ranged_columns x (Null ∷ ranged_columns x) (chosen_rowid _ _ (range_cast x)) old new text.insert_range_terms 3 text.insert_range (ranged_columns x) r text.insert_range_is text.insert_range_plain (λ rows s. s.1) h

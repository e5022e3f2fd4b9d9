-- Proofs of the effect of each SQL statement that writes the table `entries` or `voids`.
use Rattle.std.proofs.Common.{◌≡◌, ℕ, ◌==◌, pos, List, [], ◌∷◌, Result, OnOk, refl}
use Rattle.sqlite.specs.declared.types.Value.TheVariants.{Null, Int, Text}
use Rattle.sqlite.specs.declared.error.Error.{Error}
use Rattle.sqlite.specs.Order.{Row}
use Rattle.sqlite.specs.Cast.{cast_row}
use Rattle.sqlite.specs.State.{State, Executes}
use Rattle.store_tables.specs.Schema.{entries_table, voids_table}
use Rattle.store_tables.specs.Content.{Edits, with_row, changed_where}
use Rattle.store_tables.specs.Steps.{Turns}
use Rattle.store_tables.proofs.Scans.{text_is, number_is, and_true}
use Rattle.store_tables.proofs.Updates.{updates}
use Rattle.store_tables.proofs.OtherTables.{cast_int, cast_null, rowid_stays}
use Rattle.store_tables.proofs.Inserts.{plainly, inserts, chosen_rowid}
use Rattle.store_tables.specs.Entries.Rows.{Entered, entry_columns, is_entry, rolled, Voided, voided_columns}
use Rattle.store_tables.specs.Entries.Trees.{entries, voids}
use Rattle.store_tables.proofs.EntriesLemmas.Texts as text

-- Lemmas: each SQL statement that inserts or changes rows of the table `entries`, if it succeeds,
-- makes exactly the edit of the table that its definition states.

entry_cast : (e : Entered) → cast_row (plainly entries_table) (Null ∷ entry_columns e) ≡ Null ∷ entry_columns e
entry_cast e = simp (cast_null, cast_int)

pub insert_entry : (old new : State) (e : Entered) (r : Result ℕ Error) → Executes text.insert_entry (entry_columns e) old new r → OnOk r (Turns (Edits entries entry_columns (with_row e)) old.now new.now)
insert_entry old new e r h =
    inserts entries_table 5 refl entry_columns e (Null ∷ entry_columns e) (chosen_rowid _ _ (entry_cast e)) old new text.insert_entry_terms 9 text.insert_entry (entry_columns e) r text.insert_entry_is text.insert_entry_plain (λ rows s. s.1) h

module _ (meter : List ℕ) (place rolls : ℕ) where
  abbrev pub roll_params : Row
  roll_params = Text meter ∷ Int (pos place) ∷ Int (pos rolls) ∷ []

  pub set_rollovers : (old new : State) (r : Result ℕ Error) → Executes text.set_rollovers roll_params old new r → OnOk r (Turns (Edits entries entry_columns (changed_where (is_entry meter place) (rolled rolls))) old.now new.now)
  set_rollovers old new r h =
      updates entries_table 5 refl roll_params text.roll_entry_tests text.roll_entry_news entry_columns (is_entry meter place) (rolled rolls)
      (λ n e. rw (text_is e.meter meter, number_is e.entry.place place, and_true (e.entry.place == place)) refl) (λ n e. simp cast_int) rowid_stays
      old new text.set_rollovers r text.roll_entry_is text.roll_entry_plain h

-- Lemmas: the SQL statement that inserts a row into the table `voids`, if it succeeds, adds exactly
-- this row to the table.

void_cast : (v : Voided) → cast_row (plainly voids_table) (Null ∷ voided_columns v) ≡ Null ∷ voided_columns v
void_cast v = simp (cast_null, cast_int)

pub insert_void : (old new : State) (v : Voided) (r : Result ℕ Error) → Executes text.insert_void (voided_columns v) old new r → OnOk r (Turns (Edits voids voided_columns (with_row v)) old.now new.now)
insert_void old new v r h =
    inserts voids_table 12 refl voided_columns v (Null ∷ voided_columns v) (chosen_rowid _ _ (void_cast v)) old new text.insert_void_terms 4 text.insert_void (voided_columns v) r text.insert_void_is text.insert_void_plain (λ rows s. s.1) h

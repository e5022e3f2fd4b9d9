-- Proofs that an INSERT of one row adds this row to its table, and changes nothing else.
use Rattle.std.proofs.Common.{◌≡◌, ℕ, ℤ, List, [], ◌∷◌, Bool, true, false, ◌&&◌, not, Some, None, Ok, Err, Result, OnOk, refl, sym, ap, subst, ◌∙◌, IsPermutation, slice_get}
use Rattle.sqlite.specs.declared.types.Value.TheVariants.{Null, Int}
use Rattle.sqlite.specs.declared.error.Error.{Error}
use Rattle.sqlite.specs.Order.{Row}
use Rattle.sqlite.specs.Term.{Term}
use Rattle.sqlite.specs.Source.TheVariants.{Values}
use Rattle.sqlite.specs.Command.TheVariants.{Insert}
use Rattle.sqlite.specs.Edit.{edit_of, with_rowid, is_taken, next_rowid}
use Rattle.sqlite.specs.Cast.{cast_row}
use Rattle.sqlite.specs.Rowids.TheVariants.{Chosen}
use Rattle.sqlite.specs.Does.{Tally, Does, AtPlace, OnRows}
use Rattle.sqlite.specs.Rows.{Written, Sourced, stamped, Edited}
use Rattle.sqlite.specs.Table.{Table}
use Rattle.sqlite.specs.Tree.{Trees, rowid}
use Rattle.sqlite.specs.Listing.{understood}
use Rattle.sqlite.specs.Effect.{Database}
use Rattle.sqlite.specs.State.{State, mode_of, Executes}
use Rattle.sqlite.proofs.Callers.{IsPlain, command_of, statement_of, runs_as, one_step}
use Rattle.sqlite_schema.specs.declared.schema.Keys.TheVariants.{Enforced}
use Rattle.sqlite_trees.specs.View.{is_int}
use Rattle.sqlite_rules.specs.Edit.{taken_by}
use Rattle.store_tables.specs.Schema.{books_schema}
use Rattle.store_tables.specs.Content.{Edits, is_numbered, with_row}
use Rattle.store_tables.specs.Steps.{Turns}
use Rattle.store_tables.proofs.Fresh.{write_fresh}
use Rattle.store_tables.proofs.Frames.{frame, tree_at}
use Rattle.store_tables.proofs.Apart.{apart_permutation, apart_more}
use Rattle.store_tables.proofs.Laid.{laid, laid_more, laid_permuted}
use Rattle.store_tables.proofs.OtherTables.{went, same_value, nothing_acts, Rewrites, turns}

not_taken : (b : Bool) → not b && true ≡ true → b ≡ false
not_taken true e = absurd (let f = e in cc)
not_taken false e = refl

one_only : (b : Bool) → b && true ≡ true → b ≡ true
one_only true e = refl
one_only false e = absurd (let f = e in cc)

-- The schema of a table, with AUTOINCREMENT switched off.
abbrev pub plainly : Table → Table
plainly t = record t { is_counted = false }

module _ (t : Table) (at : ℕ) (place : slice_get books_schema.tables at ≡ Some (plainly t)) where
  abbrev table : Table
  table = plainly t

  abbrev new_row : Trees → Row → Row
  new_row db source = with_rowid Chosen (db t.tree) (cast_row table source)

  -- The effect of an INSERT: the table has one more row, and the other tables are unchanged.
  record Comes (old new : Database) (source : Row) : Type 0 where
    rewrites : Rewrites books_schema t.tree old new
    row : IsPermutation (new_row old.trees source ∷ old.trees t.tree) (new.trees t.tree)

  comes : (old new : State) (source : Row) (terms : List Term) (width : ℕ) (text : List ℕ) (params : Row) (count : ℕ) → old.now.schema ≡ books_schema
      → command_of (understood books_schema text) ≡ Insert at (Values terms width) → IsPlain (understood books_schema text)
      → ((rows : List Row) → Sourced old.step_limit (record { schema = books_schema; trees = old.now.trees }) (stamped table params) (Values terms width) (Ok rows) → rows ≡ source ∷ [])
      → Executes text params old new (Ok count) → Comes old.now new.now source
  comes old new source terms width text params count schema is plain one h =
      let db = old.now.trees in
      let command = Insert at (Values terms width) in
      let w = runs_as text params old new books_schema schema command is plain count h in
      let does = subst (λ s. Does old.step_limit (mode_of old) params (record old.now { schema = s }) (statement_of text (understood books_schema text)) None command (Ok (w.tally, new.now))) schema w.changed in
      let done = went (subst (λ o. AtPlace (λ (table : Table). OnRows (record { limit = old.step_limit; keys = Enforced; schema = books_schema; table = table; params = params }) (mode_of old) None command db) o (Ok (w.tally, new.now))) place does) in
      let now = ap (λ (p : Tally × Database). p.1) (same_value (went (went done.2).2).2) in
      let given = went done.1 in
      let written = went (went given.2).2 in
      let counted = went written.2 in
      let trees : done.0.trees ≡ written.0 = ap (λ (it : Written). it.trees) (same_value counted.2) ∙ same_value counted.1 in
      let edit = edit_of db table [] Chosen 0 (source ∷ []) in
      let wrote = subst (λ rows. Edited books_schema Enforced db (edit_of db table [] Chosen 0 rows) (Ok written.0)) (one given.0 given.1) written.1 in
      let step = one_step books_schema Enforced db written.0 edit (nothing_acts t.tree (taken_by db edit) edit.news) wrote in
      let free = not_taken (is_taken (db t.tree) (new_row db source)) step.fresh in
      let all : new.now.trees ≡ written.0 = ap (λ (d : Database). d.trees) now ∙ trees in
      let row = subst (IsPermutation (new_row db source ∷ db t.tree)) (sym (ap (λ (f : Trees). f t.tree) all ∙ step.rows)) (write_fresh (new_row db source) (db t.tree) free) in
      record {
        rewrites = record {
          schema = ap (λ (d : Database). d.schema) now;
          sound = w.sound;
          apart = λ apart. apart_permutation _ _ row (apart_more (new_row db source) (db t.tree) (one_only (is_int (rowid (new_row db source))) step.keyed) apart free);
          others = λ k has apart. ap (λ (f : Trees). f k) all ∙ frame books_schema.tables t.tree db written.0 step.tables k has apart;
        };
        row = row;
      }

  -- The effect of INSERT INTO .. VALUES, for a row with its own rowid or a rowid that SQLite
  -- chooses.
  module _ {X : Type 0} (columns : X → Row) (x : X) (source : Row) (stored : (rows : List Row) → (n : ℤ) × (with_rowid Chosen rows (cast_row table source) ≡ laid (is_numbered t.tree) n (columns x))) where
    pub inserts : (old new : State) (terms : List Term) (width : ℕ) (text : List ℕ) (params : Row) (r : Result ℕ Error)
        → command_of (understood books_schema text) ≡ Insert at (Values terms width) → IsPlain (understood books_schema text)
        → ((rows : List Row) → Sourced old.step_limit (record { schema = books_schema; trees = old.now.trees }) (stamped table params) (Values terms width) (Ok rows) → rows ≡ source ∷ [])
        → Executes text params old new r → OnOk r (Turns (Edits t.tree columns (with_row x)) old.now new.now)
    inserts old new terms width text params (Err why) is plain one h = tt
    inserts old new terms width text params (Ok count) is plain one h = λ content has.
        let came = comes old new source terms width text params count has.schema is plain one h in
        let number = stored (old.now.trees t.tree) in
        turns books_schema t.tree columns (with_row x) old.now new.now (tree_at books_schema.tables at table place) came.rewrites
        (λ apart xs lies. laid_permuted (is_numbered t.tree) columns _ (new.now.trees t.tree) (x ∷ xs) (subst (λ (r : Row). IsPermutation (r ∷ old.now.trees t.tree) (new.now.trees t.tree)) number.1 came.row)
        (laid_more (is_numbered t.tree) columns (old.now.trees t.tree) xs number.0 x lies)) content has

-- If the first column of an inserted row is NULL, SQLite chooses the rowid of the row.
pub chosen_rowid : (row columns : Row) → row ≡ Null ∷ columns → (rows : List Row) → (n : ℤ) × (with_rowid Chosen rows row ≡ laid false n columns)
chosen_rowid row columns is rows = (next_rowid rows, ap (with_rowid Chosen rows) is)

-- If the first column of an inserted row is an integer, this integer is the rowid of the row.
pub given_rowid : (row columns : Row) (n : ℤ) → row ≡ Int n ∷ columns → (rows : List Row) → (m : ℤ) × (with_rowid Chosen rows row ≡ laid true m (Int n ∷ columns))
given_rowid row columns n is rows = (n, ap (with_rowid Chosen rows) is)

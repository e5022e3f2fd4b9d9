-- Proofs that an UPDATE or a DELETE changes exactly the rows that pass its WHERE clause.
use Rattle.std.proofs.Common.{◌≡◌, ℕ, ℤ, List, [], ◌∷◌, map, filter, drop, Bool, not, Some, None, Ok, Err, Result, OnOk, refl, sym, ap, subst, ◌∙◌, slice_get, IsPermutation}
use Rattle.std.proofs.lemmas.List.Sorted.{IsPermutation-map}
use Rattle.sqlite.specs.declared.types.Value.TheVariants.{Null, Int}
use Rattle.sqlite.specs.declared.error.Error.{Error}
use Rattle.sqlite.specs.Order.{Row}
use Rattle.sqlite.specs.Term.{Term, col}
use Rattle.sqlite.specs.Query.{Query}
use Rattle.sqlite.specs.Command.TheVariants.{Update, Delete}
use Rattle.sqlite.specs.Edit.{edit_of, without_all}
use Rattle.sqlite.specs.Cast.{cast_row}
use Rattle.sqlite.specs.Rowids.TheVariants.{Given}
use Rattle.sqlite.specs.Does.{Tally, Does, AtPlace, OnRows}
use Rattle.sqlite.specs.Rows.{Written}
use Rattle.sqlite.specs.Table.{Table}
use Rattle.sqlite.specs.Tree.{Trees, rowid}
use Rattle.sqlite.specs.Listing.{understood}
use Rattle.sqlite.specs.Effect.{Database}
use Rattle.sqlite.specs.State.{State, mode_of, Executes}
use Rattle.sqlite.proofs.Callers.{IsPlain, command_of, statement_of, runs_as, one_step}
use Rattle.sqlite_schema.specs.declared.schema.Keys.TheVariants.{Enforced}
use Rattle.sqlite_rules.specs.Edit.{taken_by}
use Rattle.sqlite_rules.specs.Calls.{ids_of}
use Rattle.store_tables.specs.Schema.{books_schema}
use Rattle.store_tables.specs.Content.{AreApart, id_of, is_numbered, Edits, changed_where, without_where}
use Rattle.store_tables.specs.Steps.{Turns}
use Rattle.store_tables.proofs.Frames.{frame, tree_at}
use Rattle.store_tables.proofs.Apart.{apart_permutation, changed_apart, left_apart}
use Rattle.store_tables.proofs.Edits.{changed, edited_rows, given_are, left_are}
use Rattle.store_tables.proofs.Laid.{laid, IsLaid, laid_changed, laid_others, laid_permuted}
use Rattle.store_tables.proofs.Scans.{scan, no_limit, passes, shows, asked}
use Rattle.store_tables.proofs.OtherTables.{went, same_value, nothing_acts, Rewrites, turns}
use Rattle.store_tables.proofs.Inserts.{plainly}

module _ (t : Table) (at : ℕ) (place : slice_get books_schema.tables at ≡ Some (plainly t)) (params : Row) (tests : List Term) where
  abbrev table : Table
  table = plainly t

  abbrev k : ℕ
  k = t.tree

  abbrev chosen : Row → Bool
  chosen = passes params tests

  module _ (news : List Term) where
    abbrev project : List Term
    project = col 1 0 ∷ news

    abbrev out : Row → Row
    out = shows params project

    abbrev made : Row → Row
    made r = cast_row table (drop 1 (out r))

    abbrev query : Query
    query = scan k tests project [] no_limit

    ids_are : (rows : List Row) → ids_of (map out rows) ≡ ids_of rows
    ids_are [] = refl
    ids_are (r ∷ rows) = ap (λ ids. id_of r ∷ ids) (ids_are rows)

    news_are : (rows : List Row) → map (λ s. cast_row table (drop 1 s)) (map out rows) ≡ map made rows
    news_are [] = refl
    news_are (r ∷ rows) = ap (λ rs. made r ∷ rs) (news_are rows)

    -- The effect of an UPDATE: each row that passes the WHERE test is changed, and keeps its rowid.
    record Changes (old new : Database) : Type 0 where
      rewrites : Rewrites books_schema k old new
      rows : AreApart (old.trees k) → IsPermutation (map (changed chosen made) (old.trees k)) (new.trees k)

    changes : (keeps : (r : Row) → rowid r ≡ Int (id_of r) → rowid (made r) ≡ rowid r) (old new : State) (text : List ℕ) (count : ℕ) → old.now.schema ≡ books_schema
        → command_of (understood books_schema text) ≡ Update at (record { lets = []; body = query }) → IsPlain (understood books_schema text)
        → Executes text params old new (Ok count) → Changes old.now new.now
    changes keeps old new text count schema is plain h =
        let db = old.now.trees in
        let command = Update at (record { lets = []; body = query }) in
        let w = runs_as text params old new books_schema schema command is plain count h in
        let does = subst (λ s. Does old.step_limit (mode_of old) params (record old.now { schema = s }) (statement_of text (understood books_schema text)) None command (Ok (w.tally, new.now))) schema w.changed in
        let done = went (subst (λ o. AtPlace (λ (table : Table). OnRows (record { limit = old.step_limit; keys = Enforced; schema = books_schema; table = table; params = params }) (mode_of old) None command db) o (Ok (w.tally, new.now))) place does) in
        let now = ap (λ (p : Tally × Database). p.1) (same_value (went (went done.2).2).2) in
        let found = went done.1 in
        let rows = found.0 in
        let wrote = went found.2 in
        let edit = edit_of db table (ids_of rows) Given 1 rows in
        let step = one_step books_schema Enforced db wrote.0 edit (nothing_acts k (taken_by db edit) edit.news) wrote.1 in
        let trees : new.now.trees ≡ wrote.0 = ap (λ (d : Database). d.trees) now ∙ ap (λ (v : Written). v.trees) (same_value wrote.2) in
        let answer = asked params k tests project db rows (found.1.answer Null) in
        let ids = subst (λ ids. IsPermutation ids (ids_of rows)) (ids_are (filter chosen (db k))) (IsPermutation-map id_of _ rows answer) in
        let news = subst (λ xs. IsPermutation xs (map (λ s. cast_row table (drop 1 s)) rows)) (news_are (filter chosen (db k))) (IsPermutation-map (λ s. cast_row table (drop 1 s)) _ rows answer) in
        let given = given_are (without_all (db k) (ids_of rows)) (map (λ s. cast_row table (drop 1 s)) rows) in
        let stored = λ (apart : AreApart (db k)).
        let put = edited_rows chosen made (db k) _ (ids_of rows) apart ids (subst (IsPermutation (map made (filter chosen (db k)))) (sym given) news) step.fresh in
        subst (λ xs. IsPermutation (map (changed chosen made) (db k)) xs) (sym (ap (λ (f : Trees). f k) trees ∙ step.rows)) put in
        record {
          rewrites = record {
            schema = ap (λ (d : Database). d.schema) now;
            sound = w.sound;
            apart = λ apart. apart_permutation _ _ (stored apart) (changed_apart chosen made keeps (db k) apart);
            others = λ n in_it off. ap (λ (f : Trees). f n) trees ∙ frame books_schema.tables k db wrote.0 step.tables n in_it off;
          };
          rows = stored;
        }

    -- The effect of UPDATE .. SET .. WHERE .. on the values that the rows of a table encode.
    module _ {X : Type 0} (columns : X → Row) (p : X → Bool) (f : X → X) (reports : (n : ℤ) (x : X) → chosen (laid (is_numbered k) n (columns x)) ≡ p x)
        (makes : (n : ℤ) (x : X) → made (laid (is_numbered k) n (columns x)) ≡ laid (is_numbered k) n (columns (f x))) (keeps : (r : Row) → rowid r ≡ Int (id_of r) → rowid (made r) ≡ rowid r) where
      pub updates : (old new : State) (text : List ℕ) (r : Result ℕ Error) → command_of (understood books_schema text) ≡ Update at (record { lets = []; body = query }) → IsPlain (understood books_schema text)
          → Executes text params old new r → OnOk r (Turns (Edits k columns (changed_where p f)) old.now new.now)
      updates old new text (Err why) is plain h = tt
      updates old new text (Ok count) is plain h = λ content has.
          let does = changes keeps old new text count has.schema is plain h in
          turns books_schema k columns (changed_where p f) old.now new.now (tree_at books_schema.tables at table place) does.rewrites
          (λ apart xs lies. laid_permuted (is_numbered k) columns _ (new.now.trees k) (changed_where p f xs) (does.rows apart) (laid_changed (is_numbered k) columns chosen p reports made f makes (old.now.trees k) xs lies)) content has

  -- Lemmas: a DELETE removes the rows that pass its WHERE clause.

  abbrev gone_query : Query
  gone_query = scan k tests (col 1 0 ∷ []) [] no_limit

  gone_are : (rows : List Row) → ids_of (map (shows params (col 1 0 ∷ [])) rows) ≡ ids_of rows
  gone_are [] = refl
  gone_are (r ∷ rows) = ap (λ ids. id_of r ∷ ids) (gone_are rows)

  -- The effect of a DELETE: the rows that pass the WHERE test are deleted, and no other row.
  record Goes (old new : Database) : Type 0 where
    rewrites : Rewrites books_schema k old new
    rows : AreApart (old.trees k) → new.trees k ≡ filter (λ r. not (chosen r)) (old.trees k)

  goes : (old new : State) (text : List ℕ) (count : ℕ) → old.now.schema ≡ books_schema
      → command_of (understood books_schema text) ≡ Delete at (record { lets = []; body = gone_query }) → IsPlain (understood books_schema text)
      → Executes text params old new (Ok count) → Goes old.now new.now
  goes old new text count schema is plain h =
      let db = old.now.trees in
      let command = Delete at (record { lets = []; body = gone_query }) in
      let w = runs_as text params old new books_schema schema command is plain count h in
      let does = subst (λ s. Does old.step_limit (mode_of old) params (record old.now { schema = s }) (statement_of text (understood books_schema text)) None command (Ok (w.tally, new.now))) schema w.changed in
      let done = went (subst (λ o. AtPlace (λ (table : Table). OnRows (record { limit = old.step_limit; keys = Enforced; schema = books_schema; table = table; params = params }) (mode_of old) None command db) o (Ok (w.tally, new.now))) place does) in
      let now = ap (λ (p : Tally × Database). p.1) (same_value (went (went done.2).2).2) in
      let found = went done.1 in
      let rows = found.0 in
      let wrote = went found.2 in
      let edit = edit_of db table (ids_of rows) Given 0 [] in
      let step = one_step books_schema Enforced db wrote.0 edit (nothing_acts k (taken_by db edit) edit.news) wrote.1 in
      let trees : new.now.trees ≡ wrote.0 = ap (λ (d : Database). d.trees) now ∙ ap (λ (v : Written). v.trees) (same_value wrote.2) in
      let answer = asked params k tests (col 1 0 ∷ []) db rows (found.1.answer Null) in
      let ids = subst (λ ids. IsPermutation ids (ids_of rows)) (gone_are (filter chosen (db k))) (IsPermutation-map id_of _ rows answer) in
      let stored = λ (apart : AreApart (db k)). ap (λ (f : Trees). f k) trees ∙ (step.rows ∙ left_are chosen (db k) (ids_of rows) apart ids) in
      record {
        rewrites = record {
          schema = ap (λ (d : Database). d.schema) now;
          sound = w.sound;
          apart = λ apart. subst AreApart (sym (stored apart)) (left_apart (λ r. not (chosen r)) (db k) apart);
          others = λ n in_it off. ap (λ (f : Trees). f n) trees ∙ frame books_schema.tables k db wrote.0 step.tables n in_it off;
        };
        rows = stored;
      }

  -- The effect of DELETE FROM .. WHERE .. on the values that the rows of a table encode.
  pub deletes : {X : Type 0} (columns : X → Row) (p : X → Bool) → ((n : ℤ) (x : X) → chosen (laid (is_numbered k) n (columns x)) ≡ p x) → (old new : State) (text : List ℕ) (r : Result ℕ Error)
      → command_of (understood books_schema text) ≡ Delete at (record { lets = []; body = gone_query }) → IsPlain (understood books_schema text)
      → Executes text params old new r → OnOk r (Turns (Edits k columns (without_where p)) old.now new.now)
  deletes columns p reports old new text (Err why) is plain h = tt
  deletes columns p reports old new text (Ok count) is plain h = λ content has.
      let does = goes old new text count has.schema is plain h in
      turns books_schema k columns (without_where p) old.now new.now (tree_at books_schema.tables at table place) does.rewrites
      (λ apart xs lies. subst (λ rs. IsLaid (is_numbered k) columns rs (without_where p xs)) (sym (does.rows apart)) (laid_others (is_numbered k) columns chosen p reports (old.now.trees k) xs lies)) content has

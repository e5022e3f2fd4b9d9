-- Proofs of the effect of INSERT .. ON CONFLICT DO UPDATE (an upsert) on `intervals`, the table of
-- energy by quarter hour.
use Rattle.std.proofs.Common.{◌≡◌, ◌≢◌, inl, inr, ℕ, ◌==◌, ℤ, pos, List, [], ◌∷◌, map, filter, drop, Bool, true, false, not, ◌&&◌, ◌||◌, bytes_eq, Option, Some, None, Ok, Err, Result, OnOk, refl, sym, ap, subst, ◌∙◌, IsPermutation, eqb-true}
use Rattle.std.specs.List.{list_any, AllByRecursion}
use Rattle.std.specs.Ordering.{is_eq, is_ne}
use Rattle.std.specs.declared.cmp.Ordering.{Ordering}
use Rattle.std.specs.declared.cmp.Ordering.TheVariants.{Less, Equal, Greater}
use Rattle.std.proofs.lemmas.Bool.{cases_Bool, and_parts}
use Rattle.std.proofs.lemmas.Slice.Eq.{bytes_eq-Decides}
use Rattle.std.proofs.lemmas.List.Sorted.{IsPermutation-map, list_any-IsPermutation}
use Rattle.std.proofs.lemmas.Map.Keys.{IsDistinct-head, IsDistinct-tail}
use Rattle.sqlite.specs.declared.types.Value.TheVariants.{Null, Int, Text}
use Rattle.sqlite.specs.declared.error.Error.{Error}
use Rattle.sqlite.specs.Order.{Row}
use Rattle.sqlite.specs.Ops.{binary, is_true, from_truth}
use Rattle.sqlite.specs.Term.{col}
use Rattle.sqlite.specs.Tree.{Trees, rowid, put_row}
use Rattle.sqlite.specs.Command.TheVariants.{InsertOr}
use Rattle.sqlite.specs.Source.TheVariants.{Values}
use Rattle.sqlite.specs.Collation.TheVariants.{Binary}
use Rattle.sqlite.specs.Edit.{edit_of, with_rowid, next_rowid, is_taken, without_all}
use Rattle.sqlite.specs.Cast.{cast_row}
use Rattle.sqlite.specs.Rowids.TheVariants.{Chosen, Given}
use Rattle.sqlite.specs.Does.{Tally, Does}
use Rattle.sqlite.specs.Rows.{Written, Task, Tries, TriesEach, Upserts, Clears, Puts, Resolves, Updates, Meets, Judged, nothing, count_of}
use Rattle.sqlite.specs.Listing.{understood}
use Rattle.sqlite.specs.Effect.{Database}
use Rattle.sqlite.specs.State.{State, mode_of, Executes}
use Rattle.sqlite.proofs.Callers.{statement_of, runs_as, one_step}
use Rattle.sqlite_sql.specs.declared.ops.BinaryOp.TheVariants.{Compare}
use Rattle.sqlite_sql.specs.declared.ops.CompareOp.TheVariants.{Eq}
use Rattle.sqlite_value.specs.Keys.{plain}
use Rattle.sqlite_value.proofs.KeyLemmas.{first_key-plain}
use Rattle.sqlite_value.proofs.OrderLemmas.{value_cmp-Int}
use Rattle.sqlite_catalog.specs.Listing.{IsSound}
use Rattle.sqlite_schema.specs.Rules.{agree, differ, clashes}
use Rattle.sqlite_schema.specs.declared.schema.Constraint.TheVariants.{Unique}
use Rattle.sqlite_schema.specs.declared.command.Conflict.TheVariants.{Abort}
use Rattle.sqlite_schema.specs.declared.schema.Keys.TheVariants.{Enforced}
use Rattle.sqlite_rules.specs.declared.error.Refusal.{Refusal}
use Rattle.sqlite_rules.specs.Lists.{Has}
use Rattle.sqlite_rules.proofs.ListLemmas.{all_has, all_from, some_from}
use Rattle.sqlite_rules.specs.Keys.{conflicts, AreConflicts}
use Rattle.sqlite_rules.specs.Calls.{ids_of}
use Rattle.sqlite_rules.specs.Edit.{taken_by}
use Rattle.sqlite_keyed.proofs.ListLemmas.{all_unmap, none_from_any}
use Rattle.store_tables.specs.Schema.{books_schema, intervals_table}
use Rattle.store_tables.specs.Content.{AreApart, Edits, id_of, same_id}
use Rattle.store_tables.specs.Steps.{Turns}
use Rattle.store_tables.proofs.Fresh.{write_fresh}
use Rattle.store_tables.proofs.Frames.{frame, tree_at}
use Rattle.store_tables.proofs.Apart.{apart_permutation, apart_more, changed_apart}
use Rattle.store_tables.proofs.Edits.{changed, edited_rows, given_are, same_id-flips}
use Rattle.store_tables.proofs.Laid.{Numbered, laid, lay, IsLaid, laid_changed, laid_more, laid_permuted}
use Rattle.store_tables.proofs.Scans.{passes, shows, asked, text_is, number_is, and_true}
use Rattle.store_tables.proofs.OtherTables.{cast_int, cast_null, rowid_stays, went, same_value, nothing_acts, Rewrites, turns}
use Rattle.office_store.specs.Intervals.Trees.{intervals}
use Rattle.office_store.proofs.IntervalsLemmas.Kept.{Kept, kept_columns, is_kept, adds, upserted}
use Rattle.office_store.proofs.IntervalsLemmas.Texts as text

-- Lemmas that SQL comparisons in an upsert give true exactly if the same comparisons of Booleans or
-- integers are true.

truth_back : (b : Bool) → is_true (from_truth (Some b)) ≡ b
truth_back true = refl
truth_back false = refl

or_false : (b : Bool) → b || false ≡ b
or_false true = refl
or_false false = refl

none_but : (b : Bool) → not b && true ≡ true → b ≡ false
none_but true e = absurd (let f = e in cc)
none_but false e = refl

not_false : (b : Bool) → not b ≡ false → b ≡ true
not_false true e = refl
not_false false e = absurd (let f = e in cc)

second_fails : (a b : Bool) → a ≡ true → a && b ≡ false → b ≡ false
second_fails true b is e = e
second_fails false b is e = absurd (let f = is in cc)

int_is_int : (a b : ℤ) → is_true (binary (Compare Eq Binary) (Int a) (Int b)) ≡ same_id a b
unfolding binary
int_is_int a b = truth_back _ ∙ ap is_eq (value_cmp-Int a b)

other_than : (o : Ordering) → is_ne o ≡ not (is_eq o)
other_than Less = refl
other_than Equal = refl
other_than Greater = refl

differ_is : (a b : ℤ) → differ (Int a) (Int b) ≡ not (same_id a b)
unfolding binary
differ_is a b = truth_back _ ∙ (other_than _ ∙ ap (λ o. not (is_eq o)) (value_cmp-Int a b))

-- Lemmas that no two rows of `intervals` have equal rowids, so a rowid identifies one row.

-- If two rows of `intervals` have equal rowids, they are the same row.
same_row : (rows : List Row) → AreApart rows → (r s : Row) → Has rows r → Has rows s → same_id (id_of r) (id_of s) ≡ true → r ≡ s
same_row [] apart r s has_r has_s same = absurd has_r
same_row (x ∷ rows) apart r s (inl is_r) (inl is_s) same = is_r ∙ sym is_s
same_row (x ∷ rows) apart r s (inl is_r) (inr in_s) same =
    let away = all_has (λ y. same_id (id_of x) (id_of y) ≡ false) rows s (all_unmap (λ n. same_id (id_of x) n ≡ false) id_of rows (IsDistinct-head same_id (id_of x) (map id_of rows) apart.distinct)) in_s in
    absurd (let one : same_id (id_of x) (id_of s) ≡ true = subst (λ z. same_id (id_of z) (id_of s) ≡ true) is_r same in let f = sym one ∙ away in cc)
same_row (x ∷ rows) apart r s (inr in_r) (inl is_s) same =
    let away = all_has (λ y. same_id (id_of x) (id_of y) ≡ false) rows r (all_unmap (λ n. same_id (id_of x) n ≡ false) id_of rows (IsDistinct-head same_id (id_of x) (map id_of rows) apart.distinct)) in_r in
    absurd (let one : same_id (id_of r) (id_of x) ≡ true = subst (λ z. same_id (id_of r) (id_of z) ≡ true) is_s same in let f = sym (same_id-flips (id_of x) (id_of r) ∙ one) ∙ away in cc)
same_row (x ∷ rows) apart r s (inr in_r) (inr in_s) same =
    same_row rows (record { keyed = apart.keyed.1; distinct = IsDistinct-tail same_id (id_of x) (map id_of rows) apart.distinct }) r s in_r in_s same

-- Two rows of `intervals` conflict if they have the same meter and the same start.

agree_is : (m n : ℤ) (k l : Kept) → agree plain (1 ∷ 2 ∷ []) (laid false m (kept_columns k)) (1 ∷ 2 ∷ []) (laid false n (kept_columns l)) ≡ is_kept l.meter l.start k
agree_is m n k l = rw (first_key-plain, text_is k.meter l.meter, number_is k.start l.start, and_true) refl

key_of : (meter : List ℕ) (start : ℕ) (k : Kept) → is_kept meter start k ≡ true → (k.meter ≡ meter) × (k.start ≡ start)
key_of meter start k is = let both = and_parts (bytes_eq k.meter meter) (k.start == start) is in ((bytes_eq-Decides k.meter meter).0 both.0, eqb-true k.start start both.1)

of_one_key : (meter : List ℕ) (start : ℕ) (k l : Kept) → is_kept meter start k ≡ true → is_kept meter start l ≡ true → is_kept l.meter l.start k ≡ true
of_one_key meter start k l here there =
    let it = key_of meter start l there in
    subst (λ m. is_kept m l.start k ≡ true) (sym it.0) (subst (λ s. is_kept meter s k ≡ true) (sym it.1) here)

-- Lemmas that every stored row of `intervals` encodes the energy of a meter in a quarter hour.
laid_row : (all : List (Numbered Kept)) (r : Row) → Has (map (lay false kept_columns) all) r → (z : Numbered Kept) × (r ≡ lay false kept_columns z)
laid_row [] r has = absurd has
laid_row (z ∷ all) r (inl is) = (z, is)
laid_row (z ∷ all) r (inr has) = laid_row all r has

any_laid : (test : Row → Bool) (p : Kept → Bool) → ((n : ℤ) (k : Kept) → test (laid false n (kept_columns k)) ≡ p k) → (all : List (Numbered Kept))
    → list_any test (map (lay false kept_columns) all) ≡ list_any p (map (λ (z : Numbered Kept). z.1) all)
any_laid test p reports [] = refl
any_laid test p reports (z ∷ all) = elim (cases_Bool (p z.1)) [
  | inl here ↦ rw (reports z.0 z.1, here) refl
  | inr off ↦ rw (reports z.0 z.1, off) (any_laid test p reports all)
]

none_any : (p : Row → Bool) (rows : List Row) → ((r : Row) → Has rows r → p r ≡ true → ⊥) → list_any p rows ≡ false
none_any p [] none = refl
none_any p (r ∷ rows) none = elim (cases_Bool (p r)) [
  | inl here ↦ absurd (none r (inl refl) here)
  | inr off ↦ rw off (none_any p rows (λ s has. none s (inr has)))
]

changed_alike : (p q : Row → Bool) (f : Row → Row) (rows : List Row) → AllByRecursion (λ r. p r ≡ q r) rows → map (changed p f) rows ≡ map (changed q f) rows
changed_alike p q f [] all = refl
changed_alike p q f (r ∷ rows) all = elim (cases_Bool (q r)) [
  | inl here ↦ rw (all.0, here) (ap (λ rs. f r ∷ rs) (changed_alike p q f rows all.1))
  | inr off ↦ rw (all.0, off) (ap (λ rs. r ∷ rs) (changed_alike p q f rows all.1))
]

module _ (meter : List ℕ) (start mwh : ℕ) where
  abbrev pub columns : Row
  columns = Text meter ∷ Int (pos start) ∷ Int (pos mwh) ∷ []

  abbrev edit : List Kept → List Kept
  edit = upserted meter start mwh

  row_cast : (n : ℤ) → cast_row intervals_table (Int n ∷ columns) ≡ Int n ∷ columns
  row_cast n = simp cast_int

  fresh_cast : cast_row intervals_table (Null ∷ columns) ≡ Null ∷ columns
  fresh_cast = simp (cast_null, cast_int)

  module _ (fresh : ℤ) where
    -- The row of `intervals` that an upsert tries to insert.
    abbrev new : Row
    new = Int fresh ∷ columns

    abbrev clashing : Row → Bool
    clashing r = conflicts (Some (1 ∷ 2 ∷ [])) books_schema.indexes intervals_table new r

    clashing_is : (n : ℤ) (k : Kept) → clashing (laid false n (kept_columns k)) ≡ is_kept meter start k
    clashing_is n k = rw (first_key-plain, text_is k.meter meter, number_is k.start start, and_true, or_false) refl

    -- The values that the upsert's UPDATE may use: the parameters, the rowid of the existing row,
    -- and `excluded`, the row whose insertion caused the conflict.
    abbrev given : ℤ → Row
    given k = Text meter ∷ Int (pos start) ∷ Int (pos mwh) ∷ Int k ∷ Int fresh ∷ columns

    module _ (k : ℤ) where
      abbrev chosen : Row → Bool
      chosen = passes (given k) text.add_share_tests

      abbrev out : Row → Row
      out = shows (given k) (col 1 0 ∷ text.add_share_news)

      abbrev made : Row → Row
      made r = cast_row intervals_table (drop 1 (out r))

      chosen_is : (r : Row) → rowid r ≡ Int (id_of r) → chosen r ≡ same_id (id_of r) k
      chosen_is r keyed = and_true _ ∙ (ap (λ v. is_true (binary (Compare Eq Binary) v (Int k))) keyed ∙ int_is_int (id_of r) k)

      makes : (n : ℤ) (x : Kept) → made (laid false n (kept_columns x)) ≡ laid false n (kept_columns (adds mwh x))
      makes n x = simp cast_int

      ids_are : (rows : List Row) → ids_of (map out rows) ≡ ids_of rows
      ids_are [] = refl
      ids_are (r ∷ rows) = ap (λ ids. id_of r ∷ ids) (ids_are rows)

      news_are : (rows : List Row) → map (λ s. cast_row intervals_table (drop 1 s)) (map out rows) ≡ map made rows
      news_are [] = refl
      news_are (r ∷ rows) = ap (λ rs. made r ∷ rs) (news_are rows)

    module _ (limit : Option ℕ) (db : Trees) (sound : IsSound books_schema db) (apart : AreApart (db intervals)) where
      abbrev task : Task
      task = record { limit = limit; keys = Enforced; schema = books_schema; table = intervals_table; params = columns }

      -- The state of the tables after an upsert of a quarter hour's energy inserted or updated the
      -- row of `intervals`.
      record Done (w : Written) : Type 0 where
        keeps : AreApart (w.trees intervals)
        others : AllByRecursion (λ t. t.tree ≢ intervals → w.trees t.tree ≡ db t.tree) books_schema.tables
        lays : (ks : List Kept) → IsLaid false kept_columns (db intervals) ks → IsLaid false kept_columns (w.trees intervals) (edit ks)

      some_is : (ks : List Kept) → IsLaid false kept_columns (db intervals) ks → list_any (is_kept meter start) ks ≡ list_any clashing (db intervals)
      some_is ks lies = sym (ap (list_any clashing) lies.rows ∙ (any_laid clashing (is_kept meter start) clashing_is lies.all ∙ list_any-IsPermutation (is_kept meter start) _ _ lies.same))

      -- If no row of `intervals` has the meter and the start of the new row, the upsert inserts the
      -- new row.
      puts : (w : Written) → ((r : Row) → Has (db intervals) r → clashing r ≡ true → ⊥) → Puts task new db (Ok w) → Done w
      puts w none h =
          let wrote = went h in
          let edit_is = edit_of db intervals_table [] Given 0 (new ∷ []) in
          let step = one_step books_schema Enforced db wrote.0 edit_is (nothing_acts intervals (taken_by db edit_is) edit_is.news) wrote.1 in
          let trees = ap (λ (v : Written). v.trees) (same_value wrote.2) in
          let free = none_but (is_taken (db intervals) new) (subst (λ r. not (is_taken (db intervals) r) && true ≡ true) (row_cast fresh) step.fresh) in
          let rows : w.trees intervals ≡ put_row new (db intervals) = ap (λ (f : Trees). f intervals) trees ∙ (step.rows ∙ ap (λ (r : Row). put_row r (db intervals)) (row_cast fresh)) in
          let put = subst (IsPermutation (new ∷ db intervals)) (sym rows) (write_fresh new (db intervals) free) in
          record {
            keeps = apart_permutation _ _ put (apart_more new (db intervals) refl apart free);
            others = subst (λ (f : Trees). AllByRecursion (λ t. t.tree ≢ intervals → f t.tree ≡ db t.tree) books_schema.tables) (sym trees) step.tables;
            lays = λ ks lies.
                let off : list_any (is_kept meter start) ks ≡ false = some_is ks lies ∙ none_any clashing (db intervals) none in
                let more = laid_permuted false kept_columns _ (w.trees intervals) _ put (laid_more false kept_columns (db intervals) ks fresh (record { meter = meter; start = start; energy = Int (pos mwh) }) lies) in
                rw off more;
          }

      -- If a row of `intervals` has the meter and the start of the new row, the upsert updates this
      -- row.
      module _ (there : Row) (is_there : Has (db intervals) there) (clashes_it : clashing there ≡ true) where
        abbrev k : ℤ
        k = id_of there

        unique : (r : Row) → Has (db intervals) r → clashes plain (1 ∷ 2 ∷ []) (db intervals) r ≡ false
        unique r has = none_but _ (all_has _ (db intervals) r (sound.obeys.rules Unique).1.1.1.1.1.1.1.1.1.0 has)

        module _ (ks : List Kept) (lies : IsLaid false kept_columns (db intervals) ks) where
          laid_as : (r : Row) → Has (db intervals) r → (z : Numbered Kept) × (r ≡ lay false kept_columns z)
          laid_as r has = laid_row lies.all r (subst (λ rs. Has rs r) lies.rows has)

          key_is : (r : Row) (has : Has (db intervals) r) → clashing r ≡ true → is_kept meter start (laid_as r has).0.1 ≡ true
          key_is r has clash = let z = laid_as r has in sym (clashing_is z.0.0 z.0.1) ∙ subst (λ x. clashing x ≡ true) z.1 clash

          keyed_of : (r : Row) → Has (db intervals) r → rowid r ≡ Int (id_of r)
          keyed_of r has = all_has (λ x. rowid x ≡ Int (id_of x)) (db intervals) r apart.keyed has

          one_id : (r : Row) → Has (db intervals) r → clashing r ≡ true → same_id (id_of r) k ≡ true
          one_id r has clash =
              let z = laid_as there is_there in
              let y = laid_as r has in
              let agreed : agree plain (1 ∷ 2 ∷ []) there (1 ∷ 2 ∷ []) r ≡ true =
              subst (λ x. agree plain (1 ∷ 2 ∷ []) x (1 ∷ 2 ∷ []) r ≡ true) (sym z.1) (subst (λ x. agree plain (1 ∷ 2 ∷ []) (lay false kept_columns z.0) (1 ∷ 2 ∷ []) x ≡ true) (sym y.1)
              (agree_is z.0.0 y.0.0 z.0.1 y.0.1 ∙ of_one_key meter start z.0.1 y.0.1 (key_is there is_there clashes_it) (key_is r has clash))) in
              let pair = all_has _ (db intervals) there (none_from_any _ (db intervals) (unique r has)) is_there in
              let alike = second_fails (agree plain (1 ∷ 2 ∷ []) there (1 ∷ 2 ∷ []) r) (differ (rowid there) (rowid r)) agreed pair in
              let both : differ (Int k) (Int (id_of r)) ≡ false = subst (λ v. differ (Int k) v ≡ false) (keyed_of r has) (subst (λ v. differ v (rowid r) ≡ false) (keyed_of there is_there) alike) in
              same_id-flips (id_of r) k ∙ not_false _ (sym (differ_is k (id_of r)) ∙ both)

          same_test : (r : Row) → Has (db intervals) r → chosen k r ≡ clashing r
          same_test r has = elim (cases_Bool (clashing r)) [
            | inl clash ↦ chosen_is k r (keyed_of r has) ∙ (one_id r has clash ∙ sym clash)
            | inr free ↦ elim (cases_Bool (same_id (id_of r) k)) [
              | inl same ↦ absurd (let f = sym free ∙ (ap clashing (same_row (db intervals) apart r there has is_there same) ∙ clashes_it) in cc)
              | inr other ↦ chosen_is k r (keyed_of r has) ∙ (other ∙ sym free)
            ]
          ]

        updates : (w : Written) → Updates task (record { lets = []; body = text.add_share_query }) (given k) db (Ok w) → Done w
        updates w h =
            let found = went h in
            let rows = found.0 in
            let wrote = went found.2 in
            let edit_is = edit_of db intervals_table (ids_of rows) Given 1 rows in
            let step = one_step books_schema Enforced db wrote.0 edit_is (nothing_acts intervals (taken_by db edit_is) edit_is.news) wrote.1 in
            let trees = ap (λ (v : Written). v.trees) (same_value wrote.2) in
            let answer = asked (given k) intervals text.add_share_tests (col 1 0 ∷ text.add_share_news) db rows (found.1.answer Null) in
            let picked = filter (chosen k) (db intervals) in
            let ids = subst (λ ids. IsPermutation ids (ids_of rows)) (ids_are k picked) (IsPermutation-map id_of _ rows answer) in
            let news = subst (λ xs. IsPermutation xs (map (λ s. cast_row intervals_table (drop 1 s)) rows)) (news_are k picked) (IsPermutation-map (λ s. cast_row intervals_table (drop 1 s)) _ rows answer) in
            let numbers = given_are (without_all (db intervals) (ids_of rows)) (map (λ s. cast_row intervals_table (drop 1 s)) rows) in
            let put = edited_rows (chosen k) (made k) (db intervals) _ (ids_of rows) apart ids (subst (IsPermutation (map (made k) picked)) (sym numbers) news) step.fresh in
            let stored = subst (λ xs. IsPermutation (map (changed (chosen k) (made k)) (db intervals)) xs) (sym (ap (λ (f : Trees). f intervals) trees ∙ step.rows)) put in
            record {
              keeps = apart_permutation _ _ stored (changed_apart (chosen k) (made k) rowid_stays (db intervals) apart);
              others = subst (λ (f : Trees). AllByRecursion (λ t. t.tree ≢ intervals → f t.tree ≡ db t.tree) books_schema.tables) (sym trees) step.tables;
              lays = λ ks lies.
                  let on : list_any (is_kept meter start) ks ≡ true = some_is ks lies ∙ some_from clashing (db intervals) there is_there clashes_it in
                  let alike = changed_alike (chosen k) clashing (made k) (db intervals) (all_from _ (db intervals) (same_test ks lies)) in
                  let now = subst (λ xs. IsPermutation xs (w.trees intervals)) alike stored in
                  let more = laid_permuted false kept_columns _ (w.trees intervals) _ now (laid_changed false kept_columns clashing (is_kept meter start) clashing_is (made k) (adds mwh) (makes k) (db intervals) ks lies) in
                  rw on more;
            }

      judged : (w : Written) (verdict : Option Refusal) → Judged task Abort (text.add_share_clause ∷ []) new db verdict (Ok w) → Upserts task Abort new db (text.add_share_clause ∷ []) (Ok w)
      judged w None h = h
      judged w (Some why) h = absurd (let e = h in cc)

      cleared : (w : Written) (found : List Row) → Clears task Abort new db found (Ok w) → Puts task new db (Ok w)
      cleared w [] h = h
      cleared w (x ∷ more) h = h

      meets : (w : Written) (found : List Row) → AreConflicts (Some (1 ∷ 2 ∷ [])) books_schema.indexes intervals_table (db intervals) new found
          → Meets task (Upserts task Abort new db []) new db text.add_share_clause found (Ok w) → Done w
      meets w [] are h = puts w are.complete (cleared w h.0 h.2)
      meets w (found ∷ more) are h =
          let it = are.sound found (inl refl) in
          let there = it.0 in
          let keyed = all_has (λ x. rowid x ≡ Int (id_of x)) (db intervals) there apart.keyed it.1 in
          let resolved = subst (λ (x : Row). Resolves task new db x text.add_share_clause.update (Ok w)) it.3 h in
          updates there it.1 it.2 w (subst (λ v. Updates task (record { lets = []; body = text.add_share_query }) (Text meter ∷ Int (pos start) ∷ Int (pos mwh) ∷ v ∷ Int fresh ∷ columns) db (Ok w)) keyed resolved)

      tries : (w : Written) → Tries task Abort (text.add_share_clause ∷ []) new db (Ok w) → Done w
      tries w (inl h) = absurd (let e = h.1 in cc)
      tries w (inr h) = let it = judged w h.0 h.2 in meets w it.0 it.1 it.2

  pub upserts : (old after : State) (r : Result ℕ Error) → Executes text.add_share columns old after r → OnOk r (Turns (Edits intervals kept_columns edit) old.now after.now)
  upserts old after (Err why) h = tt
  upserts old after (Ok count) h = λ content has.
      let db = old.now.trees in
      let command = InsertOr 9 Abort (Values text.add_share_terms 4) (text.add_share_clause ∷ []) in
      let w = runs_as text.add_share columns old after books_schema has.schema command text.add_share_is text.add_share_plain count h in
      let says = statement_of text.add_share (understood books_schema text.add_share) in
      let done = went (subst (λ s. Does old.step_limit (mode_of old) columns (record old.now { schema = s }) says None command (Ok (w.tally, after.now))) has.schema w.changed) in
      let now = ap (λ (p : Tally × Database). p.1) (same_value (went (went done.2).2).2) in
      let fresh = next_rowid (db intervals) in
      let given = went done.1 in
      let counted = went given.2 in
      let tried = went counted.2 in
      let ended = went tried.2 in
      let sound = subst (λ s. IsSound s db) has.schema has.sound in
      let apart = has.apart intervals (tree_at books_schema.tables 9 intervals_table refl) in
      let each = went (subst (λ rs. TriesEach (task fresh old.step_limit db sound apart) Abort (text.add_share_clause ∷ []) rs (count_of counted.0) (nothing db) (Ok tried.0)) given.1.1 tried.1) in
      let source : with_rowid Chosen (db intervals) (cast_row intervals_table (Null ∷ columns)) ≡ Int fresh ∷ columns = ap (with_rowid Chosen (db intervals)) fresh_cast in
      let it = tries fresh old.step_limit db sound apart each.0 (subst (λ x. Tries (task fresh old.step_limit db sound apart) Abort (text.add_share_clause ∷ []) x db (Ok each.0)) source each.1) in
      let written : done.0.trees ≡ each.0.trees = ap (λ (it : Written). it.trees) (same_value ended.2) ∙ (same_value ended.1 ∙ ap (λ (it : Written × ℤ). it.0.trees) (same_value each.2)) in
      let all : after.now.trees ≡ each.0.trees = ap (λ (d : Database). d.trees) now ∙ written in
      let rewrites : Rewrites books_schema intervals old.now after.now = record {
        schema = ap (λ (d : Database). d.schema) now;
        sound = w.sound;
        apart = λ _. subst AreApart (sym (ap (λ (f : Trees). f intervals) all)) it.keeps;
        others = λ t there off. ap (λ (f : Trees). f t) all ∙ frame books_schema.tables intervals db each.0.trees it.others t there off;
      } in
      turns books_schema intervals kept_columns edit old.now after.now (tree_at books_schema.tables 9 intervals_table refl) rewrites
      (λ _ ks lies. subst (λ rs. IsLaid false kept_columns rs (edit ks)) (sym (ap (λ (f : Trees). f intervals) all)) (it.lays ks lies)) content has

-- Proofs about the results of the queries that run when a file is opened.
use Rattle.std.proofs.Common.{◌≡◌, inl, inr, List, [], ◌∷◌, map, filter, true, refl, sym, ap, subst, ◌∙◌, IsPermutation}
use Rattle.std.proofs.lemmas.List.Sorted.{IsPermutation-sym, IsPermutation-trans, IsPermutation-map}
use Rattle.sqlite.specs.declared.types.Value.TheVariants.{Null}
use Rattle.sqlite.specs.Order.{Row}
use Rattle.sqlite.specs.State.{State, Shown}
use Rattle.sqlite.proofs.Callers.{reads_as, one_permutation}
use Rattle.store_tables.specs.Content.{Content, HasTree, HasRows, AreTablesIn, reported}
use Rattle.store_tables.proofs.Laid.{Numbered, lay, laid_from}
use Rattle.store_tables.proofs.Scans.{asked, passes, shows}
use Rattle.store_tables.specs.Meters.Rows.{Installed, installed_columns}
use Rattle.store_tables.specs.Meters.Trees.{installations}
use Rattle.store_tables.specs.declared.layouts.Layout.{Layout}
use Rattle.store_tables.specs.declared.layouts.Layout.TheVariants.{First, Second, Third}
use Rattle.store_tables.specs.Layouts.{schema_of}
use Rattle.store_tables.specs.Meta.{Meta, meta_columns, meta_shown, IsMarked}
use Rattle.store_tables.specs.Upgrade.{meter_shown}
use Rattle.store_tables.proofs.Texts as text

reported_same : (rows : List Row) → map (reported true) rows ≡ rows
reported_same [] = refl
reported_same (r ∷ rows) = ap (λ rs. r ∷ rs) (reported_same rows)

all_pass : (rows : List Row) → filter (passes [] []) rows ≡ rows
all_pass [] = refl
all_pass (r ∷ rows) = ap (λ rs. r ∷ rs) (all_pass rows)

meta_there : (layout : Layout) → HasTree (schema_of layout).tables 0
meta_there First = inl refl
meta_there Second = inl refl
meta_there Third = inl refl

-- If the table `meta` is specified to have exactly one row, then the rows that the database stores
-- in this table are exactly this row.
one_row : (rows all : List Row) (m : Meta) → IsPermutation (map (reported true) rows) all → IsPermutation (meta_columns m ∷ []) all → rows ≡ meta_columns m ∷ []
one_row rows all m is marked = sym (reported_same rows) ∙ one_permutation (meta_columns m) (map (reported true) rows) (IsPermutation-trans _ _ _ marked (IsPermutation-sym _ _ is))

pub meta_answer : (layout : Layout) (old new : State) (content : Content) (m : Meta) (rows : List Row) → AreTablesIn (schema_of layout) old.now content → IsMarked m content → Shown text.meta_rows [] old new rows → rows ≡ meta_shown m ∷ []
meta_answer layout old new content m rows has marked h =
    let got = reads_as text.meta_rows [] old new (schema_of layout) has.schema _ (text.meta_rows_is layout) (text.meta_rows_plain layout) (text.meta_rows_unlisted layout) rows h in
    let stored = one_row (old.now.trees 0) (content 0) m (has.rows 0 (meta_there layout)) marked in
    let answer = asked [] 0 [] text.meta_rows_project old.now.trees rows (got.answer Null) in
    one_permutation (meta_shown m) rows (subst (λ rs. IsPermutation (map (shows [] text.meta_rows_project) (filter (passes [] []) rs)) rows) stored answer)

meters_shown : (all : List (Numbered Installed)) → map (shows [] text.meter_rows_project) (map (lay true installed_columns) all) ≡ map meter_shown (map (λ (z : Numbered Installed). z.1) all)
meters_shown [] = refl
meters_shown (z ∷ all) = ap (λ rs. meter_shown z.1 ∷ rs) (meters_shown all)

installations_there : HasTree (schema_of First).tables 7
installations_there = inr (inr (inr (inr (inl refl))))

pub meter_answer : (old new : State) (content : Content) (rows : List Row) → AreTablesIn (schema_of First) old.now content → Shown text.meter_rows [] old new rows
    → (is : List Installed) → HasRows installations installed_columns is content → IsPermutation (map meter_shown is) rows
meter_answer old new content rows has h is are =
    let got = reads_as text.meter_rows [] old new (schema_of First) has.schema _ text.meter_rows_is text.meter_rows_plain text.meter_rows_unlisted rows h in
    let lies = laid_from true installed_columns (old.now.trees 7) (content 7) is (has.apart 7 installations_there).keyed (has.rows 7 installations_there) are in
    let answer = asked [] 7 [] text.meter_rows_project old.now.trees rows (got.answer Null) in
    let shown = ap (map (shows [] text.meter_rows_project)) (all_pass (old.now.trees 7) ∙ lies.rows) ∙ meters_shown lies.all in
    IsPermutation-trans _ _ _ (IsPermutation-map meter_shown _ _ (IsPermutation-sym _ _ lies.same)) (subst (λ rs. IsPermutation rs rows) shown answer)

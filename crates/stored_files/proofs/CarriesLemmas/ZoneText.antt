-- Lemmas on the result of the SQL query for the time zone of a database file.
use Rattle.std.proofs.Common.{◌≡◌, inl, List, ℕ, [], ◌∷◌, map, filter, true, false, codes, refl, sym, ap, subst, ◌∙◌, IsPermutation}
use Rattle.std.proofs.lemmas.List.Sorted.{IsPermutation-sym, IsPermutation-trans}
use Rattle.sqlite.specs.declared.types.Value.TheVariants.{Null}
use Rattle.sqlite.specs.Order.{Row}
use Rattle.sqlite.specs.Term.{Term, col}
use Rattle.sqlite.specs.Command.TheVariants.{Select}
use Rattle.sqlite.specs.State.{State, Shown}
use Rattle.sqlite_tied.specs.Compute.{everything}
use Rattle.sqlite.specs.Listing.{understood, reads_listing}
use Rattle.sqlite.proofs.Callers.{IsPlain, command_of, reads_as, one_permutation}
use Rattle.store_tables.specs.Content.{Content, HasTree, AreTablesIn, reported}
use Rattle.store_tables.proofs.Scans.{scan, no_limit, asked, passes, shows}
use Rattle.store_tables.specs.declared.layouts.Layout.{Layout}
use Rattle.store_tables.specs.declared.layouts.Layout.TheVariants.{First, Second, Third}
use Rattle.store_tables.specs.Layouts.{schema_of}
use Rattle.store_tables.specs.Meta.{Meta, meta_columns, IsMarked}
use Rattle.stored_files.specs.Carries.ReportedZone.{zone_shown}

abbrev pub zone_rows : List ℕ
zone_rows = codes "SELECT zone FROM meta"

abbrev pub zone_project : List Term
zone_project = col 1 3 ∷ []

abbrev pub zone_names : List (List ℕ)
zone_names = codes "zone" ∷ []

zone_is : (layout : Layout) → command_of (understood (schema_of layout) zone_rows) ≡ Select (record { lets = []; body = scan 0 [] zone_project [] no_limit }) zone_names
unfolding understood everything
zone_is First = refl
zone_is Second = refl
zone_is Third = refl

zone_unlisted : (layout : Layout) → reads_listing (schema_of layout) zone_rows ≡ false
unfolding understood everything
zone_unlisted First = refl
zone_unlisted Second = refl
zone_unlisted Third = refl

pub zone_plain : (layout : Layout) → IsPlain (understood (schema_of layout) zone_rows)
unfolding understood everything
zone_plain First = (refl, refl)
zone_plain Second = (refl, refl)
zone_plain Third = (refl, refl)

reported_same : (rows : List Row) → map (reported true) rows ≡ rows
reported_same [] = refl
reported_same (r ∷ rows) = ap (λ rs. r ∷ rs) (reported_same rows)

meta_there : (layout : Layout) → HasTree (schema_of layout).tables 0
meta_there First = inl refl
meta_there Second = inl refl
meta_there Third = inl refl

-- If a query returns all rows of the table `meta`, and the table has one row, then the query
-- returns exactly this row.
one_row : (rows all : List Row) (m : Meta) → IsPermutation (map (reported true) rows) all → IsPermutation (meta_columns m ∷ []) all → rows ≡ meta_columns m ∷ []
one_row rows all m is marked = sym (reported_same rows) ∙ one_permutation (meta_columns m) (map (reported true) rows) (IsPermutation-trans _ _ _ marked (IsPermutation-sym _ _ is))

pub zone_answer : (layout : Layout) (old new : State) (content : Content) (m : Meta) (rows : List Row) → AreTablesIn (schema_of layout) old.now content → IsMarked m content → Shown zone_rows [] old new rows → rows ≡ zone_shown m ∷ []
zone_answer layout old new content m rows has marked h =
    let got = reads_as zone_rows [] old new (schema_of layout) has.schema _ (zone_is layout) (zone_plain layout) (zone_unlisted layout) rows h in
    let stored = one_row (old.now.trees 0) (content 0) m (has.rows 0 (meta_there layout)) marked in
    let answer = asked [] 0 [] zone_project old.now.trees rows (got.answer Null) in
    one_permutation (zone_shown m) rows (subst (λ rs. IsPermutation (map (shows [] zone_project) (filter (passes [] []) rs)) rows) stored answer)

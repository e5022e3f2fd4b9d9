-- Proofs that the queries for energy on the tables `intervals` and `installations` return the rows
-- of the requested meter, accounting register (a named energy counter) and time span.
use Rattle.std.proofs.Common.{◌≡◌, ◌<◌, ◌≤◌, ◌<ℤ◌, ◌⊎◌, ◌&&◌, nat_lt, inl, inr, pos, ℕ, List, [], ◌∷◌, ◌++◌, map, filter, flat_map, Bool, true, false, bytes_eq, if◌then◌else◌, Ordering, Less, Equal, Greater, is_gt, refl, sym, ap, ap₂, subst, ◌∙◌, arith, IsPermutation}
use Rattle.std.specs.List.{AllByRecursion, list_all}
use Rattle.std.specs.Ordering.{ordering_then, int_cmp, MatchOrdering}
use Rattle.std.specs.Cmp.{int_ranks}
use Rattle.std.proofs.lemmas.Int.{ints}
use Rattle.std.proofs.lemmas.Bool.{cases_Bool}
use Rattle.std.proofs.lemmas.List.{map-append}
use Rattle.std.proofs.lemmas.List.Elements.{filter-append}
use Rattle.std.proofs.lemmas.List.Sorted.{IsPermutation-refl, IsPermutation-sym, IsPermutation-trans, IsPermutation-map}
use Rattle.sqlite.specs.declared.types.Value.TheVariants.{Int, Text}
use Rattle.sqlite.specs.Order.{Row, value_cmp}
use Rattle.sqlite.specs.Effect.{Database}
use Rattle.sqlite.specs.Term.{Env, Term, holds}
use Rattle.sqlite.specs.Tree.{IsAscending}
use Rattle.sqlite.specs.Query.{Query, IsAnswer, Output, output, output_cmp, page}
use Rattle.sqlite.specs.Program.{overlay}
use Rattle.sqlite_sql.proofs.QueryLemmas.{output_cmp_total}
use Rattle.sqlite_value.proofs.OrderLemmas.{value_cmp-Int}
use Rattle.interval_core.specs.declared.shares.Share.{Share}
use Rattle.sqlite_keyed.specs.Lists.{pairs}
use Rattle.sqlite_keyed.proofs.ListLemmas.{all-append, all_map, map-map, filter-map, ascending-map, ascending_from_map, ascending_weaker, IsPermutation-filter, IsPermutation-flat_map, IsPermutation-flat_map_each}
use Rattle.store_tables.specs.Schema.{books_schema, intervals_table, installations_table}
use Rattle.store_tables.specs.Content.{Content, AreTables}
use Rattle.store_tables.specs.Answer.{AreFound, FirstFirst}
use Rattle.store_tables.proofs.Frames.{tree_at}
use Rattle.store_tables.proofs.Permuted.{unmapped}
use Rattle.store_tables.proofs.Laid.{Numbered, lay, laid_from}
use Rattle.store_tables.proofs.Scans.{scan, text_is, and_true, no_limit, overlay_none}
use Rattle.store_tables.proofs.Selects.{selected, in_order, ascends}
use Rattle.store_tables.specs.Meters.Trees.{installations}
use Rattle.store_tables.specs.Meters.Rows.{Installed, installed_columns}
use Rattle.office_store.specs.Intervals.Trees.{intervals}
use Rattle.office_store.specs.Intervals.Rows.{Interval, interval_columns, share_shown, is_of, start_of, IsSoundInterval}
use Rattle.office_store.specs.Intervals.Handing.{HaveIntervals, AreSharesOfMeter, AreSoundIntervals, Lying, HaveLying, lies_at, is_between, ComesAfter, AreSharesOfMeterBetween, AreSoundLying}
use Rattle.office_store.proofs.IntervalsLemmas.Texts as text
use Rattle.office_store.proofs.StreamsLemmas.Compared.{all_found, at_least_is, below_is}
use Rattle.office_store.proofs.StreamsLemmas.Shared.{Reports}

-- SQL's AND is associative, so the tests of a WHERE clause may be grouped in any way.

and_first : (a b c : Bool) → a && (b && c) ≡ (a && b) && c
and_first true b c = refl
and_first false b c = refl

-- The query for a meter's energy returns the meter's rows of `intervals`, ordered by start.

pub of_meter : (meter : List ℕ) (db : Database) (content : Content) (is : List Interval) (rows : List Row) → AreTables db content → HaveIntervals is content
    → IsAnswer (scan 14 text.meter_intervals_tests text.shares_project text.meter_intervals_order no_limit) (overlay db.trees []) (Text meter ∷ []) rows
    → Reports share_shown (λ i. i.share) IsSoundInterval (AreSharesOfMeter meter) AreSoundIntervals is rows
of_meter meter db content is rows has have a =
    let there = tree_at books_schema.tables 9 intervals_table refl in
    let apart = has.apart intervals there in
    let it = selected intervals text.meter_intervals_tests text.shares_project text.meter_intervals_order no_limit (Text meter ∷ []) interval_columns (is_of meter) share_shown (FirstFirst start_of)
    (λ n i. rw (text_is i.meter meter, and_true (bytes_eq i.meter meter)) refl) (λ n i. refl) (λ m n i j le. in_order i.share.start j.share.start le)
    db.trees rows is (laid_from false interval_columns (db.trees intervals) (content intervals) is apart.keyed (has.rows intervals there) have) a in
    record { found = it.0; shows = it.2; are = (it.0, it.1, refl); sound = λ sound. all_found IsSoundInterval (is_of meter) is it.0 it.1.all sound }

pub of_meter_between : (meter : List ℕ) (from till : ℕ) (db : Database) (content : Content) (is : List Interval) (rows : List Row) → AreTables db content → HaveIntervals is content
    → IsAnswer (scan 14 text.meter_between_tests text.shares_project text.meter_intervals_order no_limit) (overlay db.trees []) (Text meter ∷ Int (pos from) ∷ Int (pos till) ∷ []) rows
    → Reports share_shown (λ i. i.share) IsSoundInterval (AreSharesOfMeterBetween meter from till) AreSoundIntervals is rows
of_meter_between meter from till db content is rows has have a =
    let there = tree_at books_schema.tables 9 intervals_table refl in
    let apart = has.apart intervals there in
    let asked : Interval → Bool = λ i. is_of meter i && is_between from till i in
    let it = selected intervals text.meter_between_tests text.shares_project text.meter_intervals_order no_limit (Text meter ∷ Int (pos from) ∷ Int (pos till) ∷ []) interval_columns asked share_shown (FirstFirst start_of)
    (λ n i. rw (text_is i.meter meter, at_least_is i.share.start from, below_is i.share.start till, and_true (nat_lt i.share.start till)) refl) (λ n i. refl) (λ m n i j le. in_order i.share.start j.share.start le)
    db.trees rows is (laid_from false interval_columns (db.trees intervals) (content intervals) is apart.keyed (has.rows intervals there) have) a in
    record { found = it.0; shows = it.2; are = (it.0, it.1, refl); sound = λ sound. all_found IsSoundInterval asked is it.0 it.1.all sound }

-- If SQLite sorts rows by two integer columns, the pairs of integers are in lexicographic order.

ranked : (a b : ℕ) (o p : Ordering) → MatchOrdering o (pos a <ℤ pos b) (pos a ≡ pos b) (pos b <ℤ pos a) → is_gt (ordering_then o p) ≡ false → (a < b) ⊎ ((a ≡ b) × (is_gt p ≡ false))
ranked a b Less p h le = inl (omega (arith, ints))
ranked a b Equal p h le = inr (omega (arith, ints), le)
ranked a b Greater p h le = absurd (let e = le in cc)

in_both : (a b c d : ℕ) → is_gt (ordering_then (value_cmp (Int (pos a)) (Int (pos b))) (ordering_then (value_cmp (Int (pos c)) (Int (pos d))) Equal)) ≡ false → (a < b) ⊎ ((a ≡ b) × (c ≤ d))
in_both a b c d le =
    let first = subst (λ o. is_gt (ordering_then o (ordering_then (value_cmp (Int (pos c)) (Int (pos d))) Equal)) ≡ false) (value_cmp-Int (pos a) (pos b)) le in
    elim (ranked a b (int_cmp (pos a) (pos b)) _ (int_ranks (pos a) (pos b)) first) [
      | inl low ↦ inl low
      | inr same ↦ inr (same.0, in_order c d same.1)
    ]

-- Lemmas that the query for an accounting register (a named energy counter) returns the rows of
-- `intervals` for the register's meters.

map-pairs : {A B C D : Type 0} (f : A → C) (g : B → D) (xs : List A) (ys : List B) → map (λ (p : A × B). (f p.0, g p.1)) (pairs xs ys) ≡ pairs (map f xs) (map g ys)
map-pairs {A} {B} {C} {D} f g [] ys = refl
map-pairs {A} {B} {C} {D} f g (x ∷ xs) ys =
    let both : A × B → C × D = λ p. (f p.0, g p.1) in
    map-append both (map (λ y. (x, y)) ys) (pairs xs ys) ∙ ap₂ ◌++◌ (map-map both (λ y. (x, y)) ys ∙ sym (map-map (λ z. (f x, z)) g ys)) (map-pairs f g xs ys)

pairs-permutation : {A B : Type 0} (xs zs : List A) (ys ws : List B) → IsPermutation xs zs → IsPermutation ys ws → IsPermutation (pairs xs ys) (pairs zs ws)
pairs-permutation xs zs ys ws first second =
    IsPermutation-trans _ _ _ (IsPermutation-flat_map (λ x. map (λ y. (x, y)) ys) xs zs first)
    (IsPermutation-flat_map_each (λ x. map (λ y. (x, y)) ys) (λ x. map (λ y. (x, y)) ws) (λ x. IsPermutation-map (λ y. (x, y)) ys ws second) zs)

-- True if a list has the energy of the quarter hours in those joined rows that pass a test, in the
-- order of the rows.
abbrev AreShown : (passes : Installed × Interval → Bool) → Lying → List Share → Type 0
AreShown passes lying all =
    (found : List (Installed × Interval)) × AreFound passes ComesAfter (pairs lying.installed lying.rows) found × (all ≡ map (λ p. p.1.share) found)

-- Proofs about a query that joins `installations` and `intervals`: it returns the pairs of rows
-- that pass the test `passes`, which the query's WHERE clause expresses.
module _ (params : Row) (tests : List Term) (passes : Installed × Interval → Bool)
    (reports : (p : Numbered Installed × Numbered Interval) → list_all (holds (params ∷ lay true installed_columns p.0 ∷ lay false interval_columns p.1 ∷ [])) tests ≡ passes (p.0.1, p.1.1)) where
  abbrev Pair : Type 0
  Pair = Numbered Installed × Numbered Interval

  abbrev env : Row → Row → Env
  env r s = params ∷ r ∷ s ∷ []

  abbrev env_of : Pair → Env
  env_of p = env (lay true installed_columns p.0) (lay false interval_columns p.1)

  abbrev bare : Pair → Installed × Interval
  bare p = (p.0.1, p.1.1)

  abbrev passes_both : Pair → Bool
  passes_both p = passes (bare p)

  abbrev test : Env → Bool
  test e = list_all (holds e) tests

  test_is : (p : Pair) → test (env_of p) ≡ passes_both p
  test_is p = reports p

  abbrev step : Row → Row → List Env
  step r s = if test (env r s) then env r s ∷ [] else []

  inner_are : (y : Numbered Installed) (zs : List (Numbered Interval)) → flat_map (step (lay true installed_columns y)) (map (lay false interval_columns) zs) ≡ map env_of (filter passes_both (map (λ z. (y, z)) zs))
  inner_are y [] = refl
  inner_are y (z ∷ zs) = elim (cases_Bool (passes_both (y, z))) [
    | inl on ↦ rw (test_is (y, z), on) (ap (λ es. env_of (y, z) ∷ es) (inner_are y zs))
    | inr off ↦ rw (test_is (y, z), off) (inner_are y zs)
  ]

  all_are : (ys : List (Numbered Installed)) (zs : List (Numbered Interval))
      → flat_map (λ r. flat_map (step r) (map (lay false interval_columns) zs)) (map (lay true installed_columns) ys) ≡ map env_of (filter passes_both (pairs ys zs))
  all_are [] zs = refl
  all_are (y ∷ ys) zs =
      ap₂ ◌++◌ (inner_are y zs) (all_are ys zs)
      ∙ (sym (map-append env_of (filter passes_both (map (λ z. (y, z)) zs)) (filter passes_both (pairs ys zs))) ∙ ap (map env_of) (sym (filter-append passes_both (map (λ z. (y, z)) zs) (pairs ys zs))))

  abbrev query : Query
  query = text.joined tests

  abbrev out : Pair → Output
  out p = output query (env_of p)

  outs : (ps : List Pair) → map (output query) (map env_of ps) ≡ map out ps
  outs ps = map-map (output query) env_of ps

  shown_all : (ps : List Pair) → map (λ (o : Output). o.1) (map out ps) ≡ map (λ (p : Installed × Interval). share_shown p.1) (map bare ps)
  shown_all ps = map-map (λ (o : Output). o.1) out ps ∙ sym (map-map (λ (p : Installed × Interval). share_shown p.1) bare ps)

  sound_pairs : (is : List Installed) (rows : List Interval) → AllByRecursion IsSoundInterval rows → AllByRecursion (λ (p : Installed × Interval). IsSoundInterval p.1) (pairs is rows)
  sound_pairs [] rows sound = tt
  sound_pairs (i ∷ is) rows sound = all-append (λ (p : Installed × Interval). IsSoundInterval p.1) (map (λ r. (i, r)) rows) (pairs is rows) (all_map (λ (p : Installed × Interval). IsSoundInterval p.1) (λ r. (i, r)) rows sound) (sound_pairs is rows sound)

  pub of_pairs : (db : Database) (content : Content) (lying : Lying) (rows : List Row) → AreTables db content → HaveLying lying content → IsAnswer query (overlay db.trees []) params rows
      → Reports (λ (p : Installed × Interval). share_shown p.1) (λ (p : Installed × Interval). p.1.share) (λ (p : Installed × Interval). IsSoundInterval p.1) (AreShown passes) AreSoundLying lying rows
  of_pairs db content lying rows has have a =
      let first = tree_at books_schema.tables 4 installations_table refl in
      let second = tree_at books_schema.tables 9 intervals_table refl in
      let one = laid_from true installed_columns (db.trees installations) (content installations) lying.installed (has.apart installations first).keyed (has.rows installations first) have.installed in
      let two = laid_from false interval_columns (db.trees intervals) (content intervals) lying.rows (has.apart intervals second).keyed (has.rows intervals second) have.rows in
      let chosen = filter passes_both (pairs one.all two.all) in
      let staged : a.staged ≡ map env_of chosen =
      a.grouped ∙ (ap₂ (λ (rs ss : List Row). flat_map (λ r. flat_map (step r) ss) rs) (overlay_none db.trees installations ∙ one.rows) (overlay_none db.trees intervals ∙ two.rows) ∙ all_are one.all two.all) in
      let kept : a.kept ≡ map out chosen = a.distinct ∙ (ap (map (output query)) staged ∙ outs chosen) in
      let moved = unmapped out chosen a.ordered (subst (λ os. IsPermutation os a.ordered) kept a.same) in
      let up = ascending_weaker _ (λ (p q : Pair). ComesAfter (bare p) (bare q)) (λ (p q : Pair) le. in_both p.0.1.row.place q.0.1.row.place p.1.1.share.start q.1.1.share.start le) moved.0
      (ascending_from_map _ out moved.0 (subst (IsAscending (λ x y. is_gt (output_cmp query x y) ≡ false)) moved.2 (ascends (output_cmp query) (output_cmp_total query) a.ordered a.sorted))) in
      let found = map bare moved.0 in
      let stripped : map bare (pairs one.all two.all) ≡ pairs (map (λ (z : Numbered Installed). z.1) one.all) (map (λ (z : Numbered Interval). z.1) two.all) = map-pairs (λ (z : Numbered Installed). z.1) (λ (z : Numbered Interval). z.1) one.all two.all in
      let whole = pairs-permutation _ _ _ _ one.same two.same in
      let before : IsPermutation (filter passes (pairs lying.installed lying.rows)) (map bare chosen) =
      IsPermutation-trans _ _ _ (IsPermutation-filter passes _ _ (IsPermutation-sym _ _ whole))
      (subst (λ xs. IsPermutation (filter passes (pairs (map (λ (z : Numbered Installed). z.1) one.all) (map (λ (z : Numbered Interval). z.1) two.all))) xs) (ap (filter passes) (sym stripped) ∙ filter-map passes bare (pairs one.all two.all))
      (IsPermutation-refl _)) in
      let are : AreFound passes ComesAfter (pairs lying.installed lying.rows) found = record {
        all = IsPermutation-trans _ _ _ before (IsPermutation-map bare _ _ moved.1);
        order = ascending-map ComesAfter bare moved.0 up;
      } in
      record {
        found = found;
        shows = a.shown ∙ (ap (page query params) (ap (map (λ (o : Output). o.1)) moved.2 ∙ shown_all moved.0));
        are = (found, are, refl);
        sound = λ sound. all_found (λ (p : Installed × Interval). IsSoundInterval p.1) passes (pairs lying.installed lying.rows) found are.all (sound_pairs lying.installed lying.rows sound);
      }

abbrev Shows : (passes : Installed × Interval → Bool) → Lying → List Row → Type 0
Shows passes = Reports (λ (p : Installed × Interval). share_shown p.1) (λ (p : Installed × Interval). p.1.share) (λ (p : Installed × Interval). IsSoundInterval p.1) (AreShown passes) AreSoundLying

pub at_register : (register : List ℕ) (db : Database) (content : Content) (lying : Lying) (rows : List Row) → AreTables db content → HaveLying lying content
    → IsAnswer text.register_intervals_query (overlay db.trees []) (Text register ∷ []) rows → Shows (lies_at register) lying rows
at_register register =
    of_pairs (Text register ∷ []) text.register_intervals_tests (lies_at register)
    (λ p. rw (text_is p.1.1.meter p.0.1.meter, text_is p.0.1.register register, and_true (bytes_eq p.0.1.register register)) refl)

pub at_register_between : (register : List ℕ) (from till : ℕ) (db : Database) (content : Content) (lying : Lying) (rows : List Row) → AreTables db content → HaveLying lying content
    → IsAnswer text.register_between_query (overlay db.trees []) (Text register ∷ Int (pos from) ∷ Int (pos till) ∷ []) rows
    → Shows (λ p. lies_at register p && is_between from till p.1) lying rows
at_register_between register from till =
    of_pairs (Text register ∷ Int (pos from) ∷ Int (pos till) ∷ []) text.register_between_tests (λ p. lies_at register p && is_between from till p.1)
    (λ p.
    rw (text_is p.1.1.meter p.0.1.meter, text_is p.0.1.register register, at_least_is p.1.1.share.start from, below_is p.1.1.share.start till, and_true (nat_lt p.1.1.share.start till))
    (and_first (bytes_eq p.1.1.meter p.0.1.meter) (bytes_eq p.0.1.register register) (is_between from till p.1.1)))

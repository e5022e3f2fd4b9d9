-- Proofs of the effect of CREATE TABLE. The schema gets its next table, which has no rows.
use Rattle.std.proofs.Common.{◌≡◌, ◌≤◌, ◌==◌, ◌⊎◌, inl, inr, ℕ, zero, suc, List, [], ◌∷◌, ◌++◌, take, drop, map, false, None, Ok, Err, Result, OnOk, IsTrue, refl, sym, ap, subst, ◌∙◌, arith}
use Rattle.std.specs.List.{list_any}
use Rattle.std.proofs.lemmas.Bool.Decides.{nat_tests}
use Rattle.std.proofs.lemmas.Cmp.{eq_by_cmp_equiv, int_cmp_total}
use Rattle.std.proofs.lemmas.Map.Made.{IsDistinct-from_count}
use Rattle.std.specs.List.Sorted.{IsPermutation}
use Rattle.std.proofs.lemmas.List.Sorted.{IsPermutation-refl}
use Rattle.sqlite.specs.declared.error.Error.{Error}
use Rattle.sqlite.specs.Order.{Row}
use Rattle.sqlite.specs.Table.{Table}
use Rattle.sqlite.specs.Schema.{Schema}
use Rattle.sqlite.specs.Command.TheVariants.{CreateTable}
use Rattle.sqlite.specs.Compile.{table_defined_by}
use Rattle.sqlite.specs.Change.{created, next_tree, KeepsRows}
use Rattle.sqlite.specs.Does.{Tally, lacks_sequence}
use Rattle.sqlite.specs.Effect.{Database}
use Rattle.sqlite.specs.Listing.{understood}
use Rattle.sqlite.specs.State.{State, HasCleanDisk, Survives, Writes, Executes, ExecutesInside}
use Rattle.sqlite.proofs.Callers.{IsPlain, command_of, statement_of, runs_as}
use Rattle.sqlite.specs.Tree.{Trees}
use Rattle.store_tables.specs.Content.{Content, HasTree, AreApart, AreTablesIn, is_numbered, reported}
use Rattle.store_tables.specs.Steps.{StepsTo}
use Rattle.store_tables.proofs.OtherTables.{went, same_value}
use Rattle.store_tables.proofs.StepLemmas.{steps, goes_then}
use Rattle.store_tables.specs.Schema.{books_schema}
use Rattle.store_tables.specs.Layouts.{first_tables}
use Rattle.store_tables.specs.Growing.{HasFirst, Grows}

-- Lemmas on whether the table in the B-tree with a given number is among the first `n` tables of
-- the schema.

pub has_not : (tables : List Table) (t : ℕ) → list_any (λ (x : Table). x.tree == t) tables ≡ false → HasTree tables t → ⊥
has_not [] t off has = has
has_not (x ∷ tables) t off (inl is) = grind (arith, nat_tests)
has_not (x ∷ tables) t off (inr more) = has_not tables t (grind (arith, nat_tests)) more

pub has_more : (tables : List Table) (n m : ℕ) (t : ℕ) → n ≤ m → HasTree (take n tables) t → HasTree (take m tables) t
has_more [] zero zero t low has = has
has_more [] (suc n) zero t low has = has
has_more [] zero (suc m) t low has = has
has_more [] (suc n) (suc m) t low has = has
has_more (x ∷ tables) zero m t low has = absurd has
has_more (x ∷ tables) (suc n) zero t low has = absurd (omega arith)
has_more (x ∷ tables) (suc n) (suc m) t low (inl is) = inl is
has_more (x ∷ tables) (suc n) (suc m) t low (inr more) = inr (has_more tables n m t (omega arith) more)

pub has_whole : (tables : List Table) (n : ℕ) (t : ℕ) → HasTree (take n tables) t → HasTree tables t
has_whole [] zero t has = has
has_whole [] (suc n) t has = has
has_whole (x ∷ tables) zero t has = absurd has
has_whole (x ∷ tables) (suc n) t (inl is) = inl is
has_whole (x ∷ tables) (suc n) t (inr more) = inr (has_whole tables n t more)

pub has_split : (tables : List Table) (n : ℕ) (t : ℕ) → HasTree tables t → HasTree (take n tables) t ⊎ HasTree (drop n tables) t
has_split [] zero t has = inr has
has_split [] (suc n) t has = absurd has
has_split (x ∷ tables) zero t has = inr has
has_split (x ∷ tables) (suc n) t (inl is) = inl (inl is)
has_split (x ∷ tables) (suc n) t (inr more) = elim (has_split tables n t more) [
  | inl before ↦ inl (inr before)
  | inr following ↦ inr following
]

has_either : (tables : List Table) (x : Table) (t : ℕ) → HasTree (tables ++ x ∷ []) t → HasTree tables t ⊎ (t ≡ x.tree)
has_either [] x t (inl is) = inr is
has_either [] x t (inr none) = absurd none
has_either (y ∷ tables) x t (inl is) = inl (inl is)
has_either (y ∷ tables) x t (inr more) = elim (has_either tables x t more) [
  | inl in_it ↦ inl (inr in_it)
  | inr is ↦ inr is
]

kept : (tables : List Table) (db next : Trees) → KeepsRows tables db next → (t : ℕ) → HasTree tables t → next t ≡ db t
kept [] db next all t has = absurd has
kept (x ∷ tables) db next all t (inl is) = subst (λ n. next n ≡ db n) (sym is) all.0
kept (x ∷ tables) db next all t (inr more) = kept tables db next all.1 t more

-- Lemmas: executing one CREATE TABLE statement of the store adds that statement's table, without
-- rows, to the schema.

record IsMade (schema : Schema) (table : Table) (old new : Database) : Type 0 where
  schema_is : new.schema ≡ created schema table
  empty : new.trees (next_tree schema) ≡ []
  others : KeepsRows schema.tables old.trees new.trees
  sound : Rattle.sqlite.specs.Effect.IsDatabase new

no_rows_apart : AreApart []
no_rows_apart = record { keyed = tt; distinct = IsDistinct-from_count (eq_by_cmp_equiv int_cmp_total) [] refl }

module _ (n : ℕ) (text : List ℕ) (table : Table)
    (is : (command_of (understood (first_tables n) text) ≡ CreateTable) × (statement_of text (understood (first_tables n) text) ≡ text) × (table_defined_by text ≡ Ok table)) (plain : IsPlain (understood (first_tables n) text))
    (uncounted : lacks_sequence (created (first_tables n) table) ≡ false) (next : created (first_tables n) table ≡ first_tables (suc n))
    (free : list_any (λ (x : Table). x.tree == next_tree (first_tables n)) (first_tables n).tables ≡ false) where
  abbrev schema : Schema
  schema = first_tables n

  makes : (old new : State) (r : Result ℕ Error) → old.now.schema ≡ schema → Executes text [] old new r → OnOk r (IsMade schema table old.now new.now)
  makes old new (Err e) has h = tt
  makes old new (Ok count) has h =
      let w = subst (λ t. Writes old new None CreateTable t [] count) is.1 (runs_as text [] old new schema has CreateTable is.0 plain count h) in
      let all = went w.changed in
      let first = went all.1 in
      let made = first.1 in
      let both : Ok made.table ≡ Ok table = sym made.defined ∙ is.2 in
      let same : made.table ≡ table = cc in
      let made_schema : first.0.schema ≡ created schema table = made.is ∙ (ap (λ s. created s made.table) has ∙ ap (created schema) same) in
      let none : lacks_sequence first.0.schema ≡ false = ap lacks_sequence made_schema ∙ uncounted in
      let now : new.now ≡ first.0 = ap (λ (p : Tally × Database). p.1) (same_value all.2) ∙ same_value (rw none at first.2) in
      record {
        schema_is = ap (λ (d : Database). d.schema) now ∙ made_schema;
        empty = ap (λ (d : Database). d.trees (next_tree schema)) now ∙ subst (λ s. first.0.trees (next_tree s) ≡ []) has made.empty;
        others = subst (λ (d : Database). KeepsRows schema.tables old.now.trees d.trees) (sym now) (subst (λ (s : Schema). KeepsRows s.tables old.now.trees first.0.trees) has made.others);
        sound = w.sound;
      }

  place : (t : ℕ) → HasTree (first_tables (suc n)).tables t → HasTree schema.tables t ⊎ (t ≡ next_tree schema)
  place t has = has_either schema.tables (record table { tree = next_tree schema }) t (subst (λ (s : Schema). HasTree s.tables t) (sym next) has)

  grown : (old new : Database) → IsMade schema table old new → Grows n (suc n) old new
  grown old new it content has = record {
    schema = it.schema_is ∙ next;
    rows = λ t there. elim (place t there) [
      | inl before ↦ subst (λ (rs : List Row). IsPermutation (map (reported (is_numbered t)) rs) (content t)) (sym (kept schema.tables old.trees new.trees it.others t before)) (has.rows t before)
      | inr last ↦ subst (λ k. IsPermutation (map (reported (is_numbered k)) (new.trees k)) (content k)) (sym last)
          (rw (it.empty, has.none (next_tree schema) (has_whole books_schema.tables (suc n) (next_tree schema) (subst (HasTree (first_tables (suc n)).tables) last there)) (has_not schema.tables (next_tree schema) free)) (IsPermutation-refl []))
    ];
    apart = λ t there. elim (place t there) [
      | inl before ↦ subst AreApart (sym (kept schema.tables old.trees new.trees it.others t before)) (has.apart t before)
      | inr last ↦ subst (λ k. AreApart (new.trees k)) (sym last) (subst AreApart (sym it.empty) no_rows_apart)
    ];
    sound = it.sound;
  }

  -- If a CREATE TABLE statement inside a transaction succeeds, the database has the next table of
  -- the store's schema.
  pub creates : (old new : State) (r : Result ℕ Error) → (HasCleanDisk new → IsTrue old.in_transaction → ExecutesInside 0 text [] old new r) → Survives old new (λ _. ⊥) → StepsTo old new r (Grows n (suc n))
  creates old new r runs survives = steps text [] old new r (Grows n (suc n)) runs survives (going old new r)
    where
      going : (old new : State) (r : Result ℕ Error) → Executes text [] old new r → OnOk r (Grows n (suc n) old.now new.now)
      going old new (Err e) h = tt
      going old new (Ok count) h = λ content has. grown old.now new.now (makes old new (Ok count) has.schema h) content has

-- Lemmas: several CREATE TABLE statements in sequence add all of their tables to the database
-- schema.

pub first_of : (n : ℕ) (db : Database) (content : Content) → AreTablesIn (first_tables n) db content → ((t : ℕ) → HasTree books_schema.tables t → (HasTree (first_tables n).tables t → ⊥) → content t ≡ []) → HasFirst n db content
first_of n db content has none = record { schema = has.schema; rows = has.rows; apart = has.apart; none = none }

pub grows_then : {E D : Type 0} (n m k : ℕ) (low : n ≤ m) (a b c : State) (x : ℕ) (r : Result ℕ E) → StepsTo {X = ℕ} {E = D} a b (Ok x) (Grows n m) → StepsTo b c r (Grows m k) → StepsTo a c r (Grows n k)
grows_then n m k low a b c x r one two =
    goes_then a b c x r (Grows n m) (Grows m k) (Grows n k) one two
    (λ first second content has. second content (first_of m b.now content (first content has) (λ t there out. has.none t there (λ before. out (has_more books_schema.tables n m t low before)))))

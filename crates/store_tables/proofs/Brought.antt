-- Proofs that a call that opens a file satisfies `OpensFile`, the contract of opening a file. An
-- upgrade of the file keeps the rows of all tables except `meta` and the tables that the upgrade
-- creates.
use Rattle.std.proofs.Common.{◌≡◌, inl, inr, ℕ, List, [], ◌∷◌, ◌++◌, map, drop, append-nil, Ok, Err, Result, IsErrAnd, IsTrue, refl, sym, ap, subst, ◌∙◌, arith, IsPermutation}
use Rattle.std.proofs.lemmas.List.Sorted.{IsPermutation-refl, IsPermutation-trans, IsPermutation-map}
use Rattle.sqlite.specs.Order.{Row}
use Rattle.sqlite.specs.Effect.{Database}
use Rattle.sqlite.specs.State.{State, HasCleanDisk, KeepsCommit, Survives, IsUnchanged}
use Rattle.sqlite.proofs.StateLemmas.{survives_then, survives_weaker}
use Rattle.store_tables.specs.Schema.{books_schema}
use Rattle.store_tables.specs.Content.{Content, HasTree, Edits, AreTables, AreTablesIn, with_rows, changed_where}
use Rattle.store_tables.specs.Answer.{every}
use Rattle.store_tables.specs.Steps.{StepsTo, Turns, TransactsTo}
use Rattle.store_tables.proofs.Frames.{with_here, with_others}
use Rattle.store_tables.proofs.StepLemmas.{goes_then, kept_then, on_ok}
use Rattle.store_tables.specs.Meters.Rows.{Installed, ranged_columns}
use Rattle.store_tables.specs.declared.layouts.Layout.{Layout}
use Rattle.store_tables.specs.declared.layouts.Layout.TheVariants.{Third}
use Rattle.store_tables.specs.Layouts.{first_tables}
use Rattle.store_tables.specs.Meta.{meta, meta_columns, with_version, IsMarked}
use Rattle.store_tables.specs.Growing.{HasFirst, Grows}
use Rattle.store_tables.specs.Upgrade.{IsFile, full_range, IsBrought, meter_shown, range_in, GivesRanges, BringsFirst, BringsSecond, OpensFile, IsOpenTo}
use Rattle.store_tables.proofs.Grown.{has_not, has_split}

abbrev SetsVersion : Content → Content → Type 0
SetsVersion = Edits meta meta_columns (changed_where every (with_version 3))

-- The rows of all tables after a version 2 file was upgraded. The upgrade creates the empty table
-- `voids`.
abbrev after_second : Content → Content
after_second content = with_rows 20 [] content

abbrev after_first : Content → Content
after_first content = with_rows 18 [] (after_second content)

-- Lemmas on upgrading files of version 2: all tables keep their rows, except `meta` and the new
-- table `voids`.

second_same : (content : Content) (t : ℕ) → HasTree (first_tables 12).tables t → after_second content t ≡ content t
second_same content t there = with_others 20 [] content t (λ is. has_not (first_tables 12).tables 20 refl (subst (HasTree (first_tables 12).tables) is there))

second_none : (content : Content) (t : ℕ) → HasTree (drop 12 books_schema.tables) t → after_second content t ≡ []
second_none content t (inl is) = subst (λ n. after_second content n ≡ []) (sym is) (with_here 20 [] content)
second_none content t (inr none) = absurd none

has_second : (db : Database) (content : Content) → AreTablesIn (first_tables 12) db content → HasFirst 12 db (after_second content)
has_second db content has = record {
  schema = has.schema;
  rows = λ t there. subst (IsPermutation _) (sym (second_same content t there)) (has.rows t there);
  apart = has.apart;
  none = λ t there out. elim (has_split books_schema.tables 12 t there) [
    | inl before ↦ absurd (out before)
    | inr following ↦ second_none content t following
  ];
}

set : (version : ℕ) (zone : List ℕ) (content after : Content) → IsMarked (record { version = version; zone = zone }) content → SetsVersion content after → IsMarked (record { version = 3; zone = zone }) after
set version zone content after marked sets = sets.rows (record { version = version; zone = zone } ∷ []) marked

pub brought_second : {E D : Type 0} (a b c : State) (x : ℕ) (r : Result ℕ E) → StepsTo {X = ℕ} {E = D} a b (Ok x) (Grows 12 13) → StepsTo b c r (Turns SetsVersion) → StepsTo a c r BringsSecond
brought_second a b c x r one two =
    goes_then a b c x r (Grows 12 13) (Turns SetsVersion) BringsSecond one two (λ grows sets zone content file.
    let start = after_second content in
    let last = sets start (grows start (has_second a.now content file.tables)) in (
      last.0,
      record {
        marked = set 2 zone start last.0 file.marked last.1;
        with_ranges = last.1.others 18 (λ e. absurd (omega arith));
        with_voids = last.1.others 20 (λ e. absurd (omega arith)) ∙ with_here 20 [] content;
        others = λ t off on away. last.1.others t off ∙ with_others 20 [] content t away;
      },
      last.2,
    ))

-- Lemmas on upgrading files of version 1: all tables keep their rows, except `meta` and the tables
-- that the upgrade creates.

first_same : (content : Content) (t : ℕ) → HasTree (first_tables 11).tables t → after_first content t ≡ content t
first_same content t there =
    with_others 18 [] (after_second content) t (λ is. has_not (first_tables 11).tables 18 refl (subst (HasTree (first_tables 11).tables) is there))
    ∙ with_others 20 [] content t (λ is. has_not (first_tables 11).tables 20 refl (subst (HasTree (first_tables 11).tables) is there))

first_none : (content : Content) (t : ℕ) → HasTree (drop 11 books_schema.tables) t → after_first content t ≡ []
first_none content t (inl is) = subst (λ n. after_first content n ≡ []) (sym is) (with_here 18 [] (after_second content))
first_none content t (inr (inl is)) = subst (λ n. after_first content n ≡ []) (sym is) (with_others 18 [] (after_second content) 20 (λ e. absurd (omega arith)) ∙ with_here 20 [] content)
first_none content t (inr (inr none)) = absurd none

has_first : (db : Database) (content : Content) → AreTablesIn (first_tables 11) db content → HasFirst 11 db (after_first content)
has_first db content has = record {
  schema = has.schema;
  rows = λ t there. subst (IsPermutation _) (sym (first_same content t there)) (has.rows t there);
  apart = has.apart;
  none = λ t there out. elim (has_split books_schema.tables 11 t there) [
    | inl before ↦ absurd (out before)
    | inr following ↦ first_none content t following
  ];
}

full_ranges : (is : List Installed) → map range_in (map meter_shown is) ≡ map full_range is
full_ranges [] = refl
full_ranges (i ∷ is) = ap (λ rs. full_range i ∷ rs) (full_ranges is)

ranges_are : (shown : List Row) (is : List Installed) (rows : List Row) → IsPermutation (map meter_shown is) shown → IsPermutation (map ranged_columns (map range_in shown ++ [])) rows → IsPermutation (map ranged_columns (map full_range is)) rows
ranges_are shown is rows same come =
    IsPermutation-trans _ _ _
    (subst (λ rs. IsPermutation (map ranged_columns rs) (map ranged_columns (map range_in shown))) (full_ranges is) (IsPermutation-map ranged_columns _ _ (IsPermutation-map range_in _ _ same)))
    (subst (λ rs. IsPermutation (map ranged_columns rs) rows) (append-nil (map range_in shown)) come)

pub brought_first : {E D F : Type 0} (shown : List Row) (a b c d : State) (x : ℕ) (r : Result ℕ E) → StepsTo {X = ℕ} {E = D} a b (Ok x) (Grows 11 13) → StepsTo {X = Unit {0}} {E = F} b c (Ok tt) (Turns (GivesRanges shown))
    → StepsTo c d r (Turns SetsVersion) → StepsTo a d r (BringsFirst shown)
brought_first {E} {D} {F} shown a b c d x r one two three =
    let Between : Database → Database → Type 0 = λ old new. (start : Content) → HasFirst 11 old start → (next : Content) × GivesRanges shown start next × AreTables new next in
    let first : StepsTo {X = Unit {0}} {E = F} a c (Ok tt) Between = goes_then a b c x (Ok tt) (Grows 11 13) (Turns (GivesRanges shown)) Between one two (λ grows gives start has. gives start (grows start has)) in
    goes_then a c d tt r Between (Turns SetsVersion) (BringsFirst shown) first three (λ between sets zone content file shows.
    let start = after_first content in
    let next = between start (has_first a.now content file.tables) in
    let last = sets next.0 next.2 in (
      last.0,
      record {
        marked = set 1 zone next.0 last.0 (subst (IsPermutation _) (sym (next.1.others 0 (λ e. absurd (omega arith)))) file.marked) last.1;
        with_ranges = λ is are.
            subst (IsPermutation _) (sym (last.1.others 18 (λ e. absurd (omega arith))))
            (ranges_are shown is (next.0 18) (shows is are) (next.1.rows [] (subst (IsPermutation []) (sym (with_here 18 [] (after_second content))) (IsPermutation-refl []))));
        with_voids = last.1.others 20 (λ e. absurd (omega arith)) ∙ (next.1.others 20 (λ e. absurd (omega arith)) ∙ (with_others 18 [] (after_second content) 20 (λ e. absurd (omega arith)) ∙ with_here 20 [] content));
        others = λ t off on away. last.1.others t off ∙ (next.1.others t on ∙ (with_others 18 [] (after_second content) t on ∙ with_others 20 [] content t away));
      },
      last.2,
    ))

-- Lemmas: a call that opens a file satisfies `OpensFile` (the contract of opening a file), and the
-- connection is then open to this file.

module _ (layout : Layout) (zone : List ℕ) (content : Content) where
  -- If a query runs before a file is opened, the query and the opening together satisfy the
  -- contract of opening the file.
  pub after_question : {X E : Type 0} (a b c : State) (r : Result X E) → IsUnchanged a b → Survives a b (λ _. ⊥) → OpensFile layout zone content b c r → OpensFile layout zone content a c r
  after_question a b c (Ok x) same crash it = record { ok = it.ok; err = tt; survives = survives_then a b c (λ _. ⊥) _ _ (λ _ db none. absurd none) (λ _ db is. is) crash it.survives }
  after_question a b c (Err e) same crash it = record {
    ok = tt;
    err = kept_then a b c (record { was_open = λ _. same.0.was_open; committed = λ _. same.0.committed_is }) it.err;
    survives = survives_then a b c (λ _. ⊥) _ _ (λ _ db none. absurd none) (λ _ db is. is) crash it.survives;
  }

  -- If a call commits nothing, and a later call opens the file, the two calls together satisfy the
  -- contract of opening the file.
  pub after_kept : {X E : Type 0} (a b c : State) (r : Result X E) → KeepsCommit a b → Survives a b (λ _. ⊥) → OpensFile layout zone content b c r → OpensFile layout zone content a c r
  after_kept a b c (Ok x) kept crash it = record { ok = it.ok; err = tt; survives = survives_then a b c (λ _. ⊥) _ _ (λ _ db none. absurd none) (λ _ db is. is) crash it.survives }
  after_kept a b c (Err e) kept crash it = record { ok = tt; err = kept_then a b c kept it.err; survives = survives_then a b c (λ _. ⊥) _ _ (λ _ db none. absurd none) (λ _ db is. is) crash it.survives }

  -- If opening a file fails before the first call to the database, the file and the connection are
  -- unchanged.
  pub untouched : {X E : Type 0} (a : State) (e : E) → OpensFile {X = X} layout zone content a a (Err e)
  untouched a e = record {
    ok = tt;
    err = record { was_open = λ is. is; committed = λ is. refl };
    survives = record { clean = omega arith; shield = λ is. is; counts = omega arith; limit = refl; closes = λ clean is. inl is; crash = λ clean db left. inl left };
  }

  -- If a query fails, or if the file is refused because of the query's answer, the file stays
  -- unchanged.
  pub given_up : {X E : Type 0} (a b : State) (e : E) → KeepsCommit a b → Survives a b (λ _. ⊥) → OpensFile {X = X} layout zone content a b (Err e)
  given_up a b e kept crash = record { ok = tt; err = kept; survives = survives_weaker a b _ _ (λ _ db none. absurd none) crash }

  pub ended : {X E : Type 0} (a b : State) (r : Result X E) (Q : E → Type 0) → IsErrAnd r Q → KeepsCommit a b → Survives a b (λ _. ⊥) → OpensFile layout zone content a b r
  ended a b (Ok x) Q fails kept crash = absurd fails
  ended a b (Err e) Q fails kept crash = given_up a b e kept crash

  pub passed_on : {X Y E D : Type 0} (a b : State) (e : E) (r : Result Y D) (Q : D → Type 0) → IsErrAnd r Q → OpensFile {X = X} layout zone content a b (Err e) → OpensFile layout zone content a b r
  passed_on a b e (Ok y) Q fails it = absurd fails
  passed_on a b e (Err d) Q fails it = record { ok = tt; err = it.err; survives = it.survives }

  -- Whether a successful opening of a file satisfies `OpensFile` (the contract of opening a file)
  -- does not depend on the value in Ok.
  pub reported_as : {X Y E D : Type 0} (a b : State) (x : X) (y : Y) → OpensFile {X = X} {E = E} layout zone content a b (Ok x) → OpensFile {X = Y} {E = D} layout zone content a b (Ok y)
  reported_as a b x y it = record { ok = it.ok; err = tt; survives = it.survives }

  pub failed_as : {X Y E D : Type 0} (a b : State) (e : E) (d : D) → OpensFile {X = X} layout zone content a b (Err e) → OpensFile {X = Y} layout zone content a b (Err d)
  failed_as a b e d it = record { ok = tt; err = it.err; survives = it.survives }

  -- If an upgrade runs in one transaction, it satisfies `OpensFile`, the contract of opening a
  -- file.
  pub transacted : {X E : Type 0} (a b : State) (r : Result X E) (Goes : Database → Database → Type 0) → HasCleanDisk b → TransactsTo a b r Goes
      → ((db : Database) → Goes a.now db → (after : Content) × IsBrought layout zone content after × AreTables db after) → OpensFile layout zone content a b r
  transacted a b r Goes clean done brings = record {
    ok = on_ok r (λ (h : IsTrue a.is_open × IsTrue b.is_open × Goes a.now b.committed). let it = brings b.committed h.2 in (h.1, it.0, it.1, it.2)) (done.ok clean);
    err = done.err clean;
    survives = survives_weaker a b _ _ (λ _ trees (h : (db : Database) × Goes a.now db × (trees ≡ db.trees)). let it = brings h.0 h.1 in (it.0, it.1, h.0, it.2, h.2)) done.survives;
  }

-- If a file of version 3 is opened, the file stays unchanged.
pub third : {E : Type 0} (zone : List ℕ) (content : Content) (s : State) → IsOpenTo Third zone content s → OpensFile {X = Unit {0}} {E = E} Third zone content s s (Ok tt)
third zone content s it = record {
  ok = (it.is_open, content, record { marked = it.file.marked; with_ranges = refl; with_voids = refl; others = λ t off on away. refl }, it.file.tables);
  err = tt;
  survives = record { clean = omega arith; shield = λ is. is; counts = omega arith; limit = refl; closes = λ clean is. inl is; crash = λ clean db left. inl left };
}

-- If a connection is open to a file and has no uncommitted changes, it sees the committed tables of
-- the file.
pub seen : (layout : Layout) (zone : List ℕ) (content : Content) (s : State) → IsOpenTo layout zone content s → IsFile layout zone s.now content
seen layout zone content s it = subst (λ d. IsFile layout zone d content) (sym it.settled) it.file

-- After a query, the connection is still open to its file, without uncommitted changes.
pub still_open : (layout : Layout) (zone : List ℕ) (content : Content) (a b : State) → IsUnchanged a b → IsOpenTo layout zone content a → IsOpenTo layout zone content b
still_open layout zone content a b same it = record {
  is_open = same.0.is_open;
  settled = same.0.now_is ∙ (it.settled ∙ sym same.0.committed_is);
  file = subst (λ d. IsFile layout zone d content) (sym same.0.committed_is) it.file;
}

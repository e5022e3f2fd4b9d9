-- Definitions of what queries by index return about the entries of a meter, and about the voids
-- (cancellations) of these entries.
use Rattle.std.specs.Prelude.{⊤, ◌≡◌, ◌⊎◌, ℕ, ◌<◌, ◌≤◌, ◌==◌, Bool, true, false, ◌&&◌, bytes_eq, List, Result, Ok, Err}
use Rattle.std.specs.List.{list_any}
use Rattle.sqlite.specs.Order.{Row}
use Rattle.store_tables.specs.Content.{Content}
use Rattle.store_tables.specs.Entries.Rows.{Voided}
use Rattle.office_store.specs.Going.{Reported}

-- True if a query failed, or if it changed nothing and the relation `Answers` holds between the
-- rows of one table and the query's answer.
abbrev pub ReportsOf : {X A E : Type 0} → Result A E → (tree : ℕ) → (columns : X → Row)
    → (Answers : List X → A → Type 0) → Content → Content → Type 0
ReportsOf (Ok a) tree columns Answers = Reported tree columns Answers a
ReportsOf (Err e) tree columns Answers = λ content after. ⊤

-- True if a row of `voids` cancels the entry of the meter `meter` at index `place`.
abbrev pub is_void : (meter : List ℕ) → (place : ℕ) → Voided → Bool
is_void meter place v = bytes_eq v.meter meter && (v.place == place)

-- True if one of `voids`, the rows that cancel entries, cancels the entry of the meter `meter` at
-- index `place`.
abbrev pub names : (meter : List ℕ) → (place : ℕ) → List Voided → Bool
names meter place voids = list_any (is_void meter place) voids

-- True if the answer of a query says whether the entry of the meter `meter` at index `place` is
-- voided (cancelled).
abbrev pub ReportsVoided : (meter : List ℕ) → (place : ℕ) → List Voided → Bool → Type 0
ReportsVoided meter place voids is = is ≡ names meter place voids

-- True if every entry of the meter `meter` with an index above `low` and below `high` is voided
-- (cancelled).
abbrev pub AreVoided : (meter : List ℕ) → (low high : ℕ) → List Voided → Type 0
AreVoided meter low high voids =
    (place : ℕ) → low < place → place < high → names meter place voids ≡ true

-- True if `before` is the index of the last meter entry before `place` that is not voided
-- (cancelled). The first entry, at index 1, is never voided.
pub record IsBefore (meter : List ℕ) (place : ℕ) (voids : List Voided) (before : ℕ) : Type 0 where
  pub opening : 1 ≤ before
  pub lower : before < place
  pub between : AreVoided meter before place voids
  pub stands : (before ≡ 1) ⊎ (names meter before voids ≡ false)

-- True if `next` is the first index after `place` that no row of `voids` cancels for the meter.
pub record IsAfter (meter : List ℕ) (place : ℕ) (voids : List Voided) (next : ℕ) : Type 0 where
  pub higher : place < next
  pub between : AreVoided meter place next voids
  pub stands : names meter next voids ≡ false

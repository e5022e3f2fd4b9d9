-- Definitions of the tables of the store after one more record, such as a device, a meter entry or
-- the outcome of a poll.
use Rattle.std.specs.Prelude.{◌≡◌, ℕ, ◌+◌, Bool, List, ◌∷◌, ◌++◌, reverse, Option, Some, None}
use Rattle.sqlite.specs.Order.{Row}
use Rattle.office_events.specs.declared.facts.Fact.{Fact}
use Rattle.office_books.specs.Lawful.{AreLawful}
use Rattle.store_tables.specs.Answer.{IsLast}
use Rattle.store_tables.specs.Content.{Content, HasRows}
use Rattle.office_store.specs.Tables.{AreOf}

-- The effect of storing one record. Suppose that the old tables encode records after which the
-- rules for records accept the new record. Then the new tables encode the old records and the new
-- record.
abbrev pub Records : Fact → Content → Content → Type 0
Records f content after = (zone : List ℕ) (facts : List Fact) → AreOf zone facts content
    → AreLawful (f ∷ facts) → AreOf zone (f ∷ facts) after

-- The effect of storing several records. Suppose that the old tables encode records after which the
-- rules for records accept the new records. Then the new tables encode the old and the new records.
abbrev pub RecordsAll : List Fact → Content → Content → Type 0
RecordsAll fs content after =
    (zone : List ℕ) (facts : List Fact) → AreOf zone facts content → AreLawful (reverse fs ++ facts)
    → AreOf zone (reverse fs ++ facts) after

-- The index of the next row to insert: one more than the last index, or 1 if the table has no row.
abbrev pub next_place : Option ℕ → ℕ
next_place None = 1
next_place (Some place) = place + 1

-- True if `place` is the index for the next row to insert: one more than the last index of the rows
-- that pass a test, or 1 if no row passes.
abbrev pub IsAfter : {X : Type 0} → (tree : ℕ) → (columns : X → Row) → (passes : X → Bool)
    → (key : X → ℕ) → (place : ℕ) → Content → Type 0
IsAfter {X} tree columns passes key place content =
    (rows : List X) → HasRows tree columns rows content
    → (last : Option ℕ) × (place ≡ next_place last) × IsLast passes (λ x n. n ≡ key x) key rows last

-- True if a query found `place`, the index for the next row to insert into a table, and changed
-- nothing. `place` is one more than the last index of the rows that pass `passes`. It is 1 if no
-- row does.
pub record IsNext {X : Type 0} (tree : ℕ) (columns : X → Row) (passes : X → Bool) (key : X → ℕ)
    (place : ℕ) (content after : Content) : Type 0 where
  pub same : after ≡ content
  pub following : IsAfter tree columns passes key place content

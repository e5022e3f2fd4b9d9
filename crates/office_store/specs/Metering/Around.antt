-- Defines how a meter entry is built from its row and the rows of the nearest entries that are not
-- voided (cancelled).
use Rattle.std.specs.Prelude.{◌≡◌, ◌⊎◌, ℕ, ◌<◌, ◌≤◌, Bool, true, false, not, List, map, Option, Some, None, IfSome}
use Rattle.std.specs.List.{list_any}
use Rattle.std.specs.List.Sorted.{IsPermutation}
use Rattle.std.specs.Prelude.{filter}
use Rattle.meter_journal.specs.declared.lines.EntryRow as journal
use Rattle.sqlite.specs.Order.{Row}
use Rattle.office_events.specs.declared.facts.Fact.{Fact}
use Rattle.office_events.specs.declared.questions.Installation.{Installation}
use Rattle.office_events.specs.declared.questions.EntryContext.{EntryContext}
use Rattle.office_books.specs.Lawful.{AreLawful}
use Rattle.office_books.specs.Meters.{meter_of}
use Rattle.office_books.specs.Near.{ReportsNear}
use Rattle.store_tables.specs.Answer.{IsFound}
use Rattle.store_tables.specs.Limits.{greatest_place}
use Rattle.store_tables.specs.declared.entries.rows.EntryRow.{EntryRow}
use Rattle.store_tables.specs.Entries.Rows.{Entered, Voided, is_of, is_entry, IsRow, voided_shown}
use Rattle.office_store.specs.Rows.{counter_after, entries_of}
use Rattle.office_store.specs.Metering.Entries.{row_from, names}
use Rattle.office_store.specs.declared.metering.around.Sides.{Sides}
use Rattle.office_store.specs.declared.metering.around.Around.{Around}

-- True if, for each index above `low` and below `high`, the list has a void that cancels the meter
-- entry at this index.
abbrev pub AreVoided : List Voided → (low high : ℕ) → Type 0
AreVoided voids low high =
    (place : ℕ) → low < place → place < high → list_any (names place) voids ≡ true

-- True if `before` is the index of the last meter entry before `place` that is not voided
-- (cancelled), or 1 for the meter's first entry.
pub record IsBefore (voids : List Voided) (place before : ℕ) : Type 0 where
  pub lower : before < place
  pub between : AreVoided voids before place
  pub stands : (before ≡ 1) ⊎ (list_any (names before) voids ≡ false)

-- True if `after` is the first index after `place` that no void in the list cancels. A void cancels
-- the meter entry at its index.
pub record IsAfter (voids : List Voided) (place after : ℕ) : Type 0 where
  pub higher : place < after
  pub small : after ≤ greatest_place
  pub between : AreVoided voids place after
  pub stands : list_any (names after) voids ≡ false

-- True if `sides` has the indices of the nearest entries before and after `place` that are not
-- voided (cancelled). `sides` also says whether the entry at `place` is voided.
pub record AreSides (voids : List Voided) (place : ℕ) (sides : Sides) : Type 0 where
  pub before : IsBefore voids place sides.before
  pub after : IsAfter voids place sides.after
  pub stands : sides.stands ≡ not (list_any (names place) voids)

-- True if the given property holds for a list of voids (cancellations of entries), namely the list
-- that the result rows of a query encode.
abbrev pub ByVoids : (List Voided → Type 0) → (rows : List Row) → Type 0
ByVoids Is rows = (voids : List Voided) → rows ≡ map voided_shown voids → Is voids

-- True if `found` is the row of a meter's entry at index `place`, or None if the meter has no such
-- entry.
pub record FindsAt (meter : List ℕ) (place : ℕ) (facts : List Fact) (found : Option EntryRow) :
    Type 0 where
  pub lawful : AreLawful facts
  pub table : List Entered
  pub each : (m : List ℕ) → IsPermutation (filter (is_of m) table) (entries_of facts m)
  pub is : IsFound (is_entry meter place) IsRow table found

-- True if `around` has the rows of the meter's entries at the index `place` and at the earlier
-- index `low`. If the meter has an entry at the later index `high`, `around` also has that entry's
-- row.
pub record FindsAround (meter : List ℕ) (place low high : ℕ) (facts : List Fact)
    (around : Around) : Type 0 where
  pub entry : FindsAt meter place facts (Some around.entry)
  pub before : FindsAt meter low facts (Some around.before)
  pub next : FindsAt meter high facts around.next

-- The row of a meter's journal (its history) that a table row encodes: the row of the next valid
-- (not voided) entry after a given one. None if no later entry is valid.
abbrev pub next_from : Option EntryRow → Option journal.EntryRow
next_from None = None
next_from (Some next) = row_from next true

-- The state `whole` of a meter, but with the counter's state after the entry `before`. The total
-- energy remains that of all entries.
abbrev pub stood : Installation → EntryRow → Installation
stood whole before = record whole { last = counter_after before }

-- True if `seen` is the meter entry that `around` encodes: the entry's row and the rows of the
-- nearest entries that are not voided (cancelled).
pub record IsSeen (whole : Installation) (around : Around) (stands : Bool) (seen : EntryContext) :
    Type 0 where
  pub before : seen.before ≡ stood whole around.before
  pub row : Some seen.row ≡ row_from around.entry stands
  pub next : seen.next ≡ next_from around.next

-- States that, if the given state is the meter's current state, the answer is the meter's entry at
-- index `place`. States nothing for any other state.
abbrev pub ReportsOf : (meter : List ℕ) → (place : ℕ) → Installation → List Fact
    → Option EntryContext → Type 0
ReportsOf meter place whole facts found =
    Some whole ≡ meter_of facts meter → ReportsNear facts meter place found

-- True if the rules for records accepted all records, and a condition holds for a meter entry that
-- was built from rows. If `whole` is the meter's current state, the built entry must be the meter's
-- entry at index `place`.
pub record ReportsRightly (meter : List ℕ) (place : ℕ) (whole : Installation) (facts : List Fact)
    (found : Option EntryContext) : Type 0 where
  pub lawful : AreLawful facts
  pub right : IfSome found (λ p. ReportsOf meter place whole facts (Some p))

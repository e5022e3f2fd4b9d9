-- Definitions about an entry of a meter in the tables, and about the nearest entries before and
-- after it that are not voided (cancelled).
use Rattle.std.specs.Prelude.{◌≡◌, ℕ, List, Option, Some}
use Rattle.store_tables.specs.Answer.{IsFound}
use Rattle.store_tables.specs.Content.{Content, HasRows}
use Rattle.store_tables.specs.Entries.Rows.{Entered, Voided, entry_columns, voided_columns, is_entry, IsRow}
use Rattle.store_tables.specs.Entries.Trees.{entries, voids}
use Rattle.store_tables.specs.declared.entries.rows.EntryRow.{EntryRow}
use Rattle.office_store.specs.Voids.Places.{IsBefore, IsAfter}
use Rattle.office_store.specs.declared.bookings.surroundings.Neighbours.{Neighbours}
use Rattle.office_store.specs.declared.bookings.surroundings.Surroundings.{Surroundings}
use Rattle.office_store.specs.Bookings.MeterState.{IsStanding}

-- True if `found` is the meter's entry at index `place`, or None if the meter has no such entry.
abbrev pub HasEntry : (meter : List ℕ) → (place : ℕ) → Option EntryRow → Content → Type 0
HasEntry meter place found content =
    (rows : List Entered) → HasRows entries entry_columns rows content
    → IsFound (is_entry meter place) IsRow rows found

-- True if `before` is the index of the last meter entry before index `place` that is not voided
-- (cancelled).
abbrev pub StandsBefore : (meter : List ℕ) → (place before : ℕ) → Content → Type 0
StandsBefore meter place before content =
    (rows : List Voided) → HasRows voids voided_columns rows content
    → IsBefore meter place rows before

-- True if `next` is the first index after the index `place` that no row of `voids` cancels for the
-- meter.
abbrev pub StandsAfter : (meter : List ℕ) → (place next : ℕ) → Content → Type 0
StandsAfter meter place next content =
    (rows : List Voided) → HasRows voids voided_columns rows content
    → IsAfter meter place rows next

-- True if a query found the meter's entry at index `place`, and changed nothing.
pub record FindsEntry (meter : List ℕ) (place : ℕ) (entry : EntryRow)
    (content after : Content) : Type 0 where
  pub same : after ≡ content
  pub there : HasEntry meter place (Some entry) content

-- True if queries found the last meter entry before index `place` that is not voided (cancelled),
-- and changed nothing.
pub record FindsBefore (meter : List ℕ) (place : ℕ) (entry : EntryRow)
    (content after : Content) : Type 0 where
  pub same : after ≡ content
  pub at : ℕ
  pub stands : StandsBefore meter place at content
  pub there : HasEntry meter at (Some entry) content

-- True if queries found the next meter entry after index `place` that is not voided (cancelled), or
-- None, and changed nothing.
pub record FindsAfter (meter : List ℕ) (place : ℕ) (found : Option EntryRow)
    (content after : Content) : Type 0 where
  pub same : after ≡ content
  pub at : ℕ
  pub stands : StandsAfter meter place at content
  pub there : HasEntry meter at found content

-- True if queries found a meter entry and the nearest entries before and after it that are not
-- voided (cancelled), and changed nothing.
pub record AreNear (meter : List ℕ) (place : ℕ) (near : Neighbours)
    (content after : Content) : Type 0 where
  pub entry : FindsEntry meter place near.entry content after
  pub before : FindsBefore meter place near.before content after
  pub next : FindsAfter meter place near.next content after

-- True if a query found the time of the meter's opening (its first entry), and changed nothing.
pub record OpenedAt (meter : List ℕ) (opened : ℕ) (content after : Content) : Type 0 where
  pub opening : EntryRow
  pub moment : opened ≡ opening.moment
  pub finds : FindsEntry meter 1 opening content after

-- True if queries found a meter entry, the nearest entries before and after it that are not voided,
-- and the state of the meter, and changed nothing.
pub record IsAround (meter : List ℕ) (place : ℕ) (found : Surroundings)
    (content after : Content) : Type 0 where
  pub standing : IsStanding meter found.standing content after
  pub opened : OpenedAt meter found.opened content after
  pub near : AreNear meter place found.near content after

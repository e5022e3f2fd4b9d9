-- Definition of when two lists of records yield the same database tables.
use Rattle.std.specs.Prelude.{◌≡◌, ℕ, List, Contains}
use Rattle.std.specs.List.Sorted.{IsPermutation}
use Rattle.office_events.specs.declared.facts.Opening.{Opening}
use Rattle.office_events.specs.declared.facts.Fact.{Fact}
use Rattle.office_books.specs.Facts.{devices_in, registers_in, openings_in, holds_in, voids_in, polls_in, ended_in, replies_in, list_of}
use Rattle.office_books.specs.Meters.{rows_of}
use Rattle.office_books.specs.Ledgers.{Ledger}

-- True if two lists of records yield the same rows of each database table, possibly in another
-- order for some tables. Each installed meter has the same entry rows in both lists.
pub record AreSame (facts others : List Fact) : Type 0 where
  pub devices : devices_in facts ≡ devices_in others
  pub lists : (device : List ℕ) → list_of facts device ≡ list_of others device
  pub registers : registers_in facts ≡ registers_in others
  pub openings : openings_in facts ≡ openings_in others
  pub entries : (opening : Opening) → Contains (openings_in facts) opening
      → rows_of facts opening ≡ rows_of others opening
  pub holds : IsPermutation (holds_in facts) (holds_in others)
  pub voids : IsPermutation (voids_in facts) (voids_in others)
  pub polls : polls_in facts ≡ polls_in others
  pub outcomes : IsPermutation (ended_in facts) (ended_in others)
  pub replies : IsPermutation (replies_in facts) (replies_in others)

-- States that an open and clean store (every wrong result was detected) determines its tables: all
-- lists of records that the store may have yield the same tables.
abbrev pub AreKnown : Ledger → Type 0
AreKnown books =
    (known others : List Fact) → books.is_clean → books.is_open → books.holds known
    → books.holds others → AreSame known others

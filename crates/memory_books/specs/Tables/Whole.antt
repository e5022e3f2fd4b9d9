-- Definitions of when all lookup tables of a store in memory have the content that follows from its
-- records.
use Rattle.std.specs.Prelude.{◌≡◌, List, reverse}
use Rattle.office_events.specs.declared.facts.Fact.{Fact}
use Rattle.office_books.specs.Lawful.{AreLawful}
use Rattle.memory_books.specs.declared.tables.places.Kind.{Kind}
use Rattle.memory_books.specs.declared.tables.places.Kind.TheVariants.{DeviceLists, Registers, DeviceRegisters, RegisterOpenings, Replies}
use Rattle.memory_books.specs.declared.tables.places.Places.{Places}
use Rattle.memory_books.specs.declared.tables.table.Kept.{Kept}
use Rattle.memory_books.specs.declared.tables.tables.Tables.{Tables}
use Rattle.memory_books.specs.Tables.Growing.{HasCome}
use Rattle.memory_books.specs.Tables.Meters.{AreMeters}
use Rattle.memory_books.specs.Tables.Places.{ArePlaces, ArePlacesOf}
use Rattle.memory_books.specs.Tables.Polls.{ArePolls, ArePending}

-- True if the table of record indices is of the kind `kind`. Its content must follow from those
-- first records of the list `facts` for which the table was already updated.
pub record HasPlaces (kind : Kind) (kept : Kept Places) (facts : List Fact) : Type 0 where
  pub come : HasCome ArePlaces kept facts
  pub kind_is : kept.table.kind ≡ kind

-- True if each lookup table of the store has the content that follows from those first records of
-- the list for which this table was already updated.
pub record HaveCome (tables : Tables) (facts : List Fact) : Type 0 where
  pub polls : HasCome ArePolls tables.polls facts
  pub pending : HasCome ArePending tables.pending facts
  pub lists : HasPlaces DeviceLists tables.lists facts
  pub registers : HasPlaces Registers tables.registers facts
  pub device_registers : HasPlaces DeviceRegisters tables.device_registers facts
  pub openings : HasPlaces RegisterOpenings tables.openings facts
  pub replies : HasPlaces Replies tables.replies facts
  pub meters : HasCome AreMeters tables.meters facts

-- True if each lookup table of the store has the content that follows from all records in `known`.
-- The latest record is the first in this list.
pub record AreWhole (tables : Tables) (known : List Fact) : Type 0 where
  pub polls : ArePolls tables.polls.table known
  pub pending : ArePending tables.pending.table known
  pub lists : ArePlacesOf DeviceLists tables.lists.table known
  pub registers : ArePlacesOf Registers tables.registers.table known
  pub device_registers : ArePlacesOf DeviceRegisters tables.device_registers.table known
  pub openings : ArePlacesOf RegisterOpenings tables.openings.table known
  pub replies : ArePlacesOf Replies tables.replies.table known
  pub meters : AreMeters tables.meters.table known

-- States that, if the records `facts` are lawful and all lookup tables have the content that
-- follows from them, a property holds for these records. The property gets the records in reverse
-- order, the latest first.
abbrev pub WhereWhole : Tables → (facts : List Fact) → (List Fact → Type 0) → Type 0
WhereWhole tables facts so =
    (known : List Fact) → facts ≡ reverse known → AreLawful known → AreWhole tables known → so known

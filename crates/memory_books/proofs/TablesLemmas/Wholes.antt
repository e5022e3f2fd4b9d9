-- Lemmas: all lookup tables of a store in memory still have the content that follows from the
-- records after records are appended or a table is updated.
use Rattle.std.proofs.Common.{◌≡◌, List, ◌++◌, Some, reverse, subst, ◌∙◌}
use Rattle.std.proofs.lemmas.Option.{same_Some}
use Rattle.office_events.specs.declared.facts.Fact.{Fact}
use Rattle.memory_books.specs.declared.tables.places.Kind.{Kind}
use Rattle.memory_books.specs.declared.tables.places.Places.{Places}
use Rattle.memory_books.specs.declared.tables.table.Kept.{Kept}
use Rattle.memory_books.specs.declared.tables.tables.Tables.{Tables}
use Rattle.memory_books.specs.Tables.Places.{ArePlaces, ArePlacesOf}
use Rattle.memory_books.specs.Tables.Growing.{HasCome}
use Rattle.memory_books.specs.Tables.Meters.{AreMeters}
use Rattle.memory_books.specs.Tables.Polls.{ArePolls, ArePending}
use Rattle.memory_books.specs.Tables.Whole.{HasPlaces, HaveCome}
use Rattle.memory_books.proofs.TablesLemmas.Coming.{come_with}

places_come_with : (kind : Kind) (kept : Kept Places) (facts more : List Fact) → HasPlaces kind kept facts → HasPlaces kind kept (facts ++ more)
places_come_with kind kept facts more has = record { come = come_with ArePlaces kept facts more has.come; kind_is = has.kind_is }

-- If records are appended to the store's list, each lookup table (an in-memory index of the
-- records) still has the content that follows from the records before them.
pub have_come_with : (tables : Tables) (facts more : List Fact) → HaveCome tables facts → HaveCome tables (facts ++ more)
have_come_with tables facts more come = record {
  polls = come_with ArePolls tables.polls facts more come.polls;
  pending = come_with ArePending tables.pending facts more come.pending;
  lists = places_come_with _ tables.lists facts more come.lists;
  registers = places_come_with _ tables.registers facts more come.registers;
  device_registers = places_come_with _ tables.device_registers facts more come.device_registers;
  openings = places_come_with _ tables.openings facts more come.openings;
  replies = places_come_with _ tables.replies facts more come.replies;
  meters = come_with AreMeters tables.meters facts more come.meters;
}

-- Suppose that a map from keys to record indices satisfies `HasPlaces`: it has a given kind (which
-- records it finds by which key), and its content follows from the records. If an update preserves
-- the kind and this relation, the map still satisfies `HasPlaces`.
pub further : (kind : Kind) (old new : Kept Places) (facts : List Fact) → HasPlaces kind old facts → (HasCome ArePlaces old facts → HasCome ArePlaces new facts)
    → Some new.table.kind ≡ Some old.table.kind → HasPlaces kind new facts
further kind old new facts has come same_kind =
    record { come = come has.come; kind_is = same_Some new.table.kind old.table.kind same_kind ∙ has.kind_is }

pub whole : (kind : Kind) (old new : Kept Places) (facts : List Fact) → HasPlaces kind old facts → (HasCome ArePlaces old facts → ArePlaces new.table (reverse facts))
    → Some new.table.kind ≡ Some old.table.kind → ArePlacesOf kind new.table (reverse facts)
whole kind old new facts has are same_kind =
    subst (λ (k : Kind). ArePlacesOf k new.table (reverse facts)) (same_Some new.table.kind old.table.kind same_kind ∙ has.kind_is) (are has.come)

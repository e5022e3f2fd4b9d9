-- Theorems about the records after any accepted events: the rules for adding records accept each of
-- them after the earlier ones, names are distinct, and the polls and energies are correct.
use Rattle.std.specs.Prelude.{◌≡◌, ◌≢◌, false, List, [], ◌∷◌, Option, Some, All}
use Rattle.std.specs.List.{AllPairs}
use Rattle.energy_core.specs.TrueRun.{Item}
use Rattle.meter_journal.specs.Truth.{ShowsTrueRun, IsKeptTruly}
use Rattle.read_plan.specs.PlannedLists.{IsPlanned}
use Rattle.office_events.specs.declared.facts.Device.{Device}
use Rattle.office_events.specs.declared.facts.Register.{Register}
use Rattle.office_events.specs.declared.facts.Opening.{Opening}
use Rattle.office_events.specs.declared.facts.Fact.{Fact}
use Rattle.office_events.specs.declared.commands.Command.{Command}
use Rattle.office_events.specs.declared.commands.Command.TheVariants as command
use Rattle.office_books.specs.Facts.{devices_in, registers_in, openings_in, device_of, register_of, opening_of, installed_at}
use Rattle.office_books.specs.Meters.{installed, journal_of, is_ended}
use Rattle.office_books.specs.Sessions.{command_in}
use Rattle.office_books.specs.History.{History, Opened, Fed, facts_of}
use Rattle.office_books.specs.Refusals.{AreAccepted}
use Rattle.office_books.specs.Lawful.{AreLawful}
use Rattle.office_books.specs.Endings.{EachEndsOnce}
use Rattle.office_books.specs.Laws.{IsRecorded, IsKept, IsUntraced}

-- True if a command stores no point list, or if its point list has the Modbus reads that are
-- planned for its points. The type `PlannedList` guarantees this condition.
abbrev pub PutsPlanned : Option Command → Type 0
PutsPlanned (Some (command.PutList c)) = IsPlanned c.list
PutsPlanned _ = Unit {0}

-- True if each point list in an accepted command has the Modbus reads that are planned for its
-- points.
abbrev pub ListsArePlanned : History → Type 0
ListsArePlanned [] = Unit {0}
ListsArePlanned (Opened at ∷ past) = ListsArePlanned past
ListsArePlanned (Fed at e ∷ past) = PutsPlanned (command_in e) × ListsArePlanned past

-- True if a list of program starts and events is a possible past of the program: each item was
-- accepted after the earlier items. Also, each point list has the Modbus reads that are planned for
-- its points.
pub record IsPast (history : History) : Type 0 where
  pub accepted : AreAccepted history
  pub planned : ListsArePlanned history

-- Theorem: the records after any accepted events are lawful. This means that the rules for adding
-- records accept each record after the earlier ones.
abbrev pub FactsAreLawful : Type 0
FactsAreLawful = (history : History) → AreAccepted history → ListsArePlanned history
    → AreLawful (facts_of history)

-- True if no two devices, accounting registers or meters have the same name, so a search by name
-- finds each of them. Also, any open meter of an accounting register (a named energy counter) is
-- the latest meter that was installed there.
pub record AreDistinct (facts : List Fact) : Type 0 where
  pub devices : AllPairs (λ (a b : Device). a.name ≢ b.name) (devices_in facts)
  pub registers : AllPairs (λ (a b : Register). a.name ≢ b.name) (registers_in facts)
  pub meters : AllPairs (λ (a b : Opening). a.meter ≢ b.meter) (openings_in facts)
  pub device_found : All (λ (device : Device). device_of facts device.name ≡ Some device)
      (devices_in facts)
  pub register_found : All
      (λ (register : Register). register_of facts register.name ≡ Some register)
      (registers_in facts)
  pub meter_found : All (λ (opening : Opening). opening_of facts opening.meter ≡ Some opening)
      (openings_in facts)
  pub latest : (opening : Opening) → IsRecorded facts opening → is_ended facts opening ≡ false
      → installed_at facts opening.register ≡ Some opening

-- Theorem: if the records follow the rules for adding records (`AreLawful`), then the names of
-- devices, accounting registers (named energy counters) and meters are distinct.
abbrev pub NamesAreDistinct : Type 0
NamesAreDistinct = (facts : List Fact) → AreLawful facts → AreDistinct facts

-- States that the polls and meters after a list of accepted events are correct. Each poll ended
-- once or is pending (without an outcome). The energy of each meter, in total and by quarter hour,
-- comes from its valid entries, and voided (cancelled) entries leave no trace. If the readings come
-- from an honest meter that is polled often enough, this energy equals the true energy.
pub record AreTrue (history : History) : Type 0 where
  pub polls : EachEndsOnce history
  pub lawful : AreLawful (facts_of history)
  pub distinct : AreDistinct (facts_of history)
  pub kept : (opening : Opening) → IsRecorded (facts_of history) opening
      → IsKept (facts_of history) opening
  pub untraced : (opening : Opening) → IsRecorded (facts_of history) opening
      → IsUntraced (facts_of history) opening
  pub truth : (opening : Opening) (first : Item) (items : List Item)
      → IsRecorded (facts_of history) opening
      → ShowsTrueRun (installed opening) (journal_of (facts_of history) opening.meter) first items
      → IsKeptTruly (installed opening) (journal_of (facts_of history) opening.meter) first items

-- Theorem: after any accepted events, each poll in the records ended once or is pending, and each
-- meter's recorded energy comes from its valid entries (`AreTrue`).
abbrev pub BooksAreTrue : Type 0
BooksAreTrue = (history : History) → AreAccepted history → ListsArePlanned history → AreTrue history

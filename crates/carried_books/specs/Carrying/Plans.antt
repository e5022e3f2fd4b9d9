-- The plan of a file rollover (the change to a new database file): the commands that set up the new
-- file, or the reason why there are none.
use Rattle.std.specs.Prelude.{◌≡◌, ℕ, ◌≤◌, List, length, reverse, Option}
use Rattle.std.specs.List.{AllPairs}
use Rattle.std.specs.List.Sorted.{IsPermutation}
use Rattle.office_events.specs.declared.facts.Device.{Device}
use Rattle.office_events.specs.declared.facts.Fact.{Fact}
use Rattle.office_events.specs.declared.facts.Opening.{Opening}
use Rattle.office_events.specs.declared.questions.Installation.{Installation}
use Rattle.office_books.specs.Facts.{devices_in}
use Rattle.carried_books.specs.Carrying.Commands.{commands_for}
use Rattle.carried_books.specs.Carrying.Openings.{AreOpeningsOf, IsNotYet, open_at_devices}
use Rattle.carried_books.specs.declared.carrying.commands.TimedCommand.{TimedCommand}
use Rattle.carried_books.specs.declared.carrying.plans.Plan.{Plan}
use Rattle.carried_books.specs.declared.carrying.plans.Plan.TheVariants.{Ready, NotYet}

-- The devices in the records of a database file, in the order in which they were added.
abbrev pub devices_of : List Fact → List Device
devices_of facts = reverse (devices_in facts)

-- The open (not closed) meters that are assigned to the accounting registers (named counters) of
-- all devices of an old database file. A new database file continues these meters.
abbrev pub open_meters : List Fact → List Installation
open_meters facts = open_at_devices facts (devices_of facts)

-- True if the commands set up the devices in `devices`, and then install `meters` meters. The
-- meters have the openings (first entries) in `opened`, in the order of timestamps.
pub record AreCommandsFor (facts : List Fact) (devices : List Device) (opened : List Opening)
    (commands : List TimedCommand) (meters : ℕ) : Type 0 where
  pub openings : List Opening
  pub same : IsPermutation opened openings
  pub ordered : AllPairs (λ (a b : Opening). a.at ≤ b.at) openings
  pub are : commands ≡ commands_for facts devices openings
  pub count : meters ≡ length openings

-- The commands of a file rollover (the change to a new database file) for the office (event engine)
-- of the new file.
--
-- The commands of a file rollover set up each device of the old database file in the new one. They
-- then install each open meter at its last valid (not voided) entry up to `until`.
pub record AreCarried (facts : List Fact) (until : Option ℕ) (commands : List TimedCommand)
    (meters : ℕ) : Type 0 where
  pub opened : List Opening
  pub each : AreOpeningsOf facts until (open_meters facts) opened
  pub so : AreCommandsFor facts (devices_of facts) opened commands meters

-- True if the plan of a file rollover (its commands) sets up the devices in `devices`, and
-- continues meters by the openings (first entries) in `opened`.
abbrev pub IsPlanFor : List Fact → List Device → List Opening → Plan → Type 0
IsPlanFor facts devices opened (Ready commands meters) =
    AreCommandsFor facts devices opened commands.items meters
IsPlanFor facts devices opened (NotYet meter) = ⊥

-- True if the plan for a new database file is correct. It has the commands of the file rollover, or
-- names an open meter that has no valid (not voided) entry up to `until`.
abbrev pub IsPlan : List Fact → (until : Option ℕ) → Plan → Type 0
IsPlan facts until (Ready commands meters) = AreCarried facts until commands.items meters
IsPlan facts until (NotYet meter) = IsNotYet facts until (open_meters facts) meter

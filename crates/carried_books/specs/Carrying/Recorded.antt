-- The records in a new database file in which the open meters of an old file continue (a file
-- rollover).
use Rattle.std.specs.Prelude.{◌≡◌, ℕ, List, ◌∷◌, ◌++◌, map, reverse, Some, None}
use Rattle.std.specs.List.{flat_map}
use Rattle.std.specs.Option.{option_map, option_to_list}
use Rattle.read_plan.specs.PlannedLists.{Planned}
use Rattle.office_events.specs.declared.facts.Device.{Device}
use Rattle.office_events.specs.declared.facts.Fact.{Fact}
use Rattle.office_events.specs.declared.facts.Fact.TheVariants as fact
use Rattle.office_events.specs.declared.facts.Opening.{Opening}
use Rattle.office_events.specs.declared.questions.Installation.{Installation}
use Rattle.office_books.specs.Facts.{list_of, registers_of}
use Rattle.office_books.specs.History.{History, facts_of}
use Rattle.office_books.specs.Meters.{meter_of}
use Rattle.carried_books.specs.Carrying.Commands.{commands_for}
use Rattle.carried_books.specs.Carrying.Feeding.{history_with}
use Rattle.carried_books.specs.Carrying.Standings.{last_until}

-- The record of a device's point list in a database file.
abbrev pub list_fact : (device : List ℕ) → Planned → Fact
list_fact device list = fact.List (record { device = device; list = list })

-- The records that set up a device in the new database file: the device, its point list if it has
-- one, and its accounting registers (named counters), in this order.
abbrev pub device_facts : List Fact → Device → List Fact
device_facts facts device =
    fact.Device device
    ∷ (option_to_list (option_map (list_fact device.name) (list_of facts device.name))
    ++ map fact.Register (registers_of facts device.name))

-- The records in the new database file: the devices with their point lists and accounting registers
-- (named counters), followed by the openings (first entries) of the meters.
abbrev pub carried_facts : List Fact → List Device → List Opening → List Fact
carried_facts facts devices openings =
    flat_map (device_facts facts) devices ++ map fact.Opening openings

-- The theorem that the commands for a new database file record exactly the old file's devices,
-- point lists and accounting registers (named counters), and the meters' openings (first entries).
abbrev pub CommandsRecordTheSame : Type 0
CommandsRecordTheSame =
    (past : History) (facts : List Fact) (devices : List Device) (openings : List Opening)
    → facts_of (history_with past (commands_for facts devices openings))
    ≡ reverse (carried_facts facts devices openings) ++ facts_of past

-- The theorem on a file rollover without a limit for the timestamps of entries. Each meter
-- continues in the new database file with the counter state that it has in the old file.
abbrev pub MetersGoOnWhereTheyStand : Type 0
MetersGoOnWhereTheyStand =
    (facts : List Fact) (meter : List ℕ) (row : Installation)
    → meter_of facts meter ≡ Some row → last_until facts None meter ≡ Some row.last

-- The open meters of an old database file, and the openings (first entries) with which these meters
-- continue in a new file.
use Rattle.std.specs.Prelude.{◌≡◌, ℕ, List, map, Contains, Option, Some, None}
use Rattle.std.specs.Option.{option_map, option_to_list}
use Rattle.std.specs.List.{flat_map}
use Rattle.energy_core.specs.declared.entries.Last.{Last}
use Rattle.office_events.specs.declared.facts.Device.{Device}
use Rattle.office_events.specs.declared.facts.Fact.{Fact}
use Rattle.office_events.specs.declared.facts.Opening.{Opening}
use Rattle.office_events.specs.declared.facts.Register.{Register}
use Rattle.office_events.specs.declared.questions.Installation.{Installation}
use Rattle.office_books.specs.Facts.{registers_of}
use Rattle.office_books.specs.Meters.{open_at}
use Rattle.carried_books.specs.Carrying.Standings.{last_until}
use Rattle.carried_books.specs.declared.carrying.openings.Openings.{Openings}
use Rattle.carried_books.specs.declared.carrying.openings.Openings.TheVariants.{All, NotYet}

-- A list with the not yet closed meter of an accounting register (a named counter). The list is
-- empty if the register has no such meter.
abbrev pub open_at_register : List Fact → Register → List Installation
open_at_register facts register = option_to_list (open_at facts register.name)

-- The not yet closed meters of several accounting registers (named counters), in the order of the
-- registers. A register has at most one such meter.
abbrev pub open_at_registers : List Fact → List Register → List Installation
open_at_registers facts registers = flat_map (open_at_register facts) registers

-- The not yet closed meters of all accounting registers (named counters) of a device.
abbrev pub open_at_device : List Fact → Device → List Installation
open_at_device facts device = open_at_registers facts (registers_of facts device.name)

-- The not yet closed meters of all accounting registers (named counters) of several devices.
abbrev pub open_at_devices : List Fact → List Device → List Installation
open_at_devices facts devices = flat_map (open_at_device facts) devices

-- The opening (first entry) of a meter in the new database file. Its register (a named counter),
-- counter range and ceiling (maximum power) are those of the old opening. Its counter state is
-- `last`.
abbrev pub opened_at : Opening → Last → Opening
opened_at opening last = record opening { at = last.at; raw = last.raw; sf = last.sf }

-- The opening (first entry) with which a new database file continues a meter: its last valid (not
-- voided) entry up to `until`. `None` if the meter has no such entry.
abbrev pub opening_until : List Fact → (until : Option ℕ) → Installation → Option Opening
opening_until facts until row =
    option_map (opened_at row.opening) (last_until facts until row.opening.meter)

-- True if `openings` has an opening (first entry in a new file) for each meter in `rows`, at the
-- meter's last valid (not voided) entry up to `until`.
abbrev pub AreOpeningsOf : List Fact → (until : Option ℕ) → List Installation → List Opening
    → Type 0
AreOpeningsOf facts until rows openings = map (opening_until facts until) rows ≡ map Some openings

-- The meter with the name `meter` is among `rows`, and has no valid (not voided) entry up to
-- `until`. The meter can't continue in a new database file.
pub record IsNotYet (facts : List Fact) (until : Option ℕ) (rows : List Installation)
    (meter : List ℕ) : Type 0 where
  pub row : Installation
  pub among : Contains rows row
  pub name : row.opening.meter ≡ meter
  pub none : opening_until facts until row ≡ None

-- States that for each meter in `rows` an opening (first entry) was found, or that a meter without
-- a valid (not voided) entry up to `until` was found.
abbrev pub AreOpened : List Fact → (until : Option ℕ) → List Installation → Openings → Type 0
AreOpened facts until rows (All openings) = AreOpeningsOf facts until rows openings.items
AreOpened facts until rows (NotYet meter) = IsNotYet facts until rows meter

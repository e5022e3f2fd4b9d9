-- The answer to the query for all accounting registers (named energy counters) with their meters.
use Rattle.std.specs.Prelude.{◌≡◌, List, ◌++◌, map, reverse, Result, MatchResult, OnOk}
use Rattle.std.specs.List.{flat_map}
use Rattle.std.specs.declared.alloc.Global.{Global}
use Rattle.std.specs.declared.vec.Vec.{Vec}
use Rattle.office_events.specs.declared.facts.Device.{Device}
use Rattle.office_events.specs.declared.facts.Fact.{Fact}
use Rattle.office_events.specs.declared.facts.Register.{Register}
use Rattle.office_events.specs.declared.refusals.Refusal.{Refusal}
use Rattle.office_books.specs.Facts.{devices_in, registers_of}
use Rattle.office_books.specs.History.{facts_of}
use Rattle.office_books.specs.Meters.{installation_at}
use Rattle.office_books.specs.declared.failures.Failures.{Failures}
use Rattle.office_books.specs.Ledgers.{Ledger}
use Rattle.office_core.specs.declared.office.Office.{Office}
use Rattle.office_core.specs.declared.site.SiteRow.{SiteRow}
use Rattle.office_core.specs.Failing.{IsOutside}
use Rattle.office_core.specs.Standing.{After}
use Rattle.office_core.specs.Taking.{failures_of}

-- The row of an accounting register (a named energy counter): the register and its latest meter
-- with the meter's state, if any.
abbrev pub row_at : List Fact → Register → SiteRow
row_at facts register =
    record { register = register; meter = installation_at facts register.name }

-- The rows of the query for the site: for each given accounting register (a named energy counter),
-- the register and its meter. The rows have the order of the registers.
abbrev pub rows_at : List Fact → List Register → List SiteRow
rows_at facts registers = map (row_at facts) registers

-- The rows of a device's accounting registers (named energy counters), in the order in which the
-- registers were added.
abbrev pub rows_of : List Fact → Device → List SiteRow
rows_of facts device = rows_at facts (registers_of facts device.name)

-- The rows of the query for the site: for several devices, each accounting register (a named energy
-- counter) with its meter, in the order of the devices.
abbrev pub rows_of_all : List Fact → List Device → List SiteRow
rows_of_all facts devices = flat_map (rows_of facts) devices

-- The rows of all accounting registers (named energy counters), device by device, in the order in
-- which the devices were added.
abbrev pub site_of : List Fact → List SiteRow
site_of facts = rows_of_all facts (reverse (devices_in facts))

-- True if the result is the list of all accounting registers (named energy counters) with their
-- meters, or a refusal that the request did not cause. Its causes: the store failed, memory ran
-- out, or the program has stopped.
abbrev pub IsSite : List Fact → (before after : Failures) → Result (Vec SiteRow Global) Refusal
    → Type 0
IsSite facts before after result = MatchResult result
    (λ rows. (rows.items ≡ site_of facts) × (after ≡ before))
    (IsOutside (Unit {0}) before after)

-- States that, if every wrong result of the store was detected, the listed accounting registers
-- (named energy counters) and meters are those that follow from the store's records.
abbrev pub SiteIn : (old new : Ledger) → Result (Vec SiteRow Global) Refusal → Type 0
SiteIn old new result = (known : List Fact) → old.holds known → new.is_clean
    → IsSite known old.failures new.failures result

-- True if the listed accounting registers (named energy counters) and meters are those that follow
-- from the records of all accepted events.
abbrev pub ReportsSite : {B : Type 0} → (B → Ledger) → (old new : Office B)
    → Result (Vec SiteRow Global) Refusal → Type 0
ReportsSite ledger old new result = After ledger old new (λ past.
    IsSite (facts_of past) (failures_of ledger old) (failures_of ledger new) result)

-- States that a call that returns `Ok` appends to a list exactly the rows that the given function
-- computes from the store's records. It states nothing if a wrong result of the store was not
-- detected.
abbrev pub AddsRows : {T E : Type 0} → (old new : Ledger) → (List Fact → List SiteRow)
    → (before after : List SiteRow) → Result T E → Type 0
AddsRows old new says before after result = (known : List Fact) → old.holds known → new.is_clean
    → OnOk result (after ≡ before ++ says known)

use Rattle.std.proofs.Common.{◌≡◌, ◌≤◌, ◌-◌, List, map}
use Rattle.store_tables.specs.Entries.Rows.{Voided, voided_shown}
use Rattle.office_store.specs.Metering.Around.{AreVoided}
use Rattle.office_store.proofs.metering.around.place_before.Given as goal

abbrev pub invariant-loop-passed : goal.invariant-loop-passed
invariant-loop-passed l = (1 ≤ l.passed) × ((vs : List Voided) → l.voids ≡ map voided_shown vs → AreVoided vs (l.place - l.passed) l.place)

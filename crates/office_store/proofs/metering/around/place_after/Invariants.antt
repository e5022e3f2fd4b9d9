use Rattle.std.proofs.Common.{◌≡◌, ◌<◌, List, map}
use Rattle.store_tables.specs.Entries.Rows.{Voided, voided_shown}
use Rattle.office_store.specs.Metering.Around.{AreVoided}
use Rattle.office_store.proofs.metering.around.place_after.Given as goal

abbrev pub invariant-loop-after : goal.invariant-loop-after
invariant-loop-after l = (l.place < l.after) × ((vs : List Voided) → l.voids ≡ map voided_shown vs → AreVoided vs l.place l.after)

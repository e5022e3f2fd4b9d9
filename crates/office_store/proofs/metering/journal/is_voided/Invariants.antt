use Rattle.std.proofs.Common.{◌≡◌, false, List, map, take}
use Rattle.std.specs.List.{list_any}
use Rattle.store_tables.specs.Entries.Rows.{Voided, voided_shown}
use Rattle.office_store.specs.Metering.Entries.{names}
use Rattle.office_store.proofs.metering.journal.is_voided.Given as goal

abbrev pub invariant-loop-row : goal.invariant-loop-row
invariant-loop-row l = (vs : List Voided) → l.voids ≡ map voided_shown vs → list_any (names l.place) (take l.row-index vs) ≡ false

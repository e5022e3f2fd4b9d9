use Rattle.std.proofs.Common.{◌≡◌, List, map, take}
use Rattle.std.specs.List.{filter_map}
use Rattle.store_tables.specs.Entries.Rows.{Entered, Voided, entry_shown, voided_shown}
use Rattle.office_store.specs.Metering.Entries.{row_among}
use Rattle.office_store.proofs.metering.journal.journal_rows.Given as goal

abbrev pub invariant-loop-row : goal.invariant-loop-row
invariant-loop-row l = (es : List Entered) (vs : List Voided) → l.entries ≡ map entry_shown es → l.voids ≡ map voided_shown vs
    → l.rows.items ≡ filter_map (row_among vs) (take l.row-index es)

use Rattle.std.proofs.Common.{◌≡◌, ◌<◌, ◌≤◌, ◌^◌, All, take, Ok}
use Rattle.interval_core.specs.declared.limits.TheConstants.{LAST_MOMENT}
use Rattle.table_audit.specs.Reading.{entry_in, all_in}
use Rattle.table_audit.proofs.reading.entries.Given as goal

abbrev pub invariant-loop-row : goal.invariant-loop-row
invariant-loop-row l = record {
  read : all_in (entry_in l.voids) (take l.row-index l.rows) ≡ Ok l.found.items;
  places : All (λ entry. entry.place < 2 ^ 63) l.found.items;
  moments : All (λ entry. entry.moment ≤ LAST_MOMENT) l.found.items;
}

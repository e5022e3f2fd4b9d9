use Rattle.std.proofs.Common.{◌≡◌, ◌++◌, List, take}
use Rattle.office_books.specs.declared.entries.MeterEntry.{MeterEntry}
use Rattle.carried_books.specs.Carrying.Standings.{last_among}
use Rattle.carried_books.proofs.carrying.standings.last_after.Given as goal

abbrev pub invariant-loop-entry : goal.invariant-loop-entry
invariant-loop-entry l = (before : List MeterEntry) → l.fn.found ≡ last_among l.until before
    → l.last ≡ last_among l.until (before ++ take l.entry-index l.entries)

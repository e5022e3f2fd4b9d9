use Rattle.std.proofs.Common.{◌≡◌, ◌++◌, List, take}
use Rattle.office_books.specs.declared.entries.MeterEntry.{MeterEntry}
use Rattle.energy_report.specs.Statements.{tally_of}
use Rattle.energy_report.proofs.tallies.EntryTally.take_all.Given as goal

abbrev pub invariant-loop-entry : goal.invariant-loop-entry
invariant-loop-entry l = (before : List MeterEntry) → l.fn.self ≡ tally_of l.zone l.range before
    → l.self ≡ tally_of l.zone l.range (before ++ take l.entry-index l.entries)

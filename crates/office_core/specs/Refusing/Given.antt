-- A meter entry with the numbers of a command, before the program checks them.
use Rattle.energy_core.specs.declared.entries.Entry.{Entry}
use Rattle.energy_core.specs.declared.entries.Entry.TheVariants as entry
use Rattle.office_core.specs.declared.refusing.given.GivenEntry.{GivenEntry}
use Rattle.office_core.specs.declared.refusing.given.GivenEntry.TheVariants as given

-- The meter entry that has the numbers of a command, before the program checks these numbers.
abbrev pub entry_of : GivenEntry → Entry
entry_of (given.Step at raw rolls) = entry.Step at raw rolls
entry_of (given.Change at before after sf) = entry.Change at before after sf

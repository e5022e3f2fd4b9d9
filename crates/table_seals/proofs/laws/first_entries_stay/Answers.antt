use Rattle.table_seals.proofs.Staying.{first_entries}
use Rattle.table_seals.proofs.laws.first_entries_stay.Goals as goal

pub returns : goal.returns
returns c = first_entries

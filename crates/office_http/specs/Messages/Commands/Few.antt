-- The limits on the faulty rows that a response reports for a point list (the CSV list of the
-- Modbus registers to poll).
use Rattle.std.specs.Prelude.{◌≤◌, List, length, All, Result, Ok, Err}
use Rattle.office_events.specs.declared.commands.Command.{Command}
use Rattle.point_list.specs.declared.fault.FaultyRow.{FaultyRow}
use Rattle.office_http.specs.declared.messages.commands.fault.CommandFault.{CommandFault}
use Rattle.office_http.specs.declared.messages.commands.fault.CommandFault.TheVariants.{Malformed, Negative, Faulty, Memory}

-- True if the list has at most 513 faulty rows of a point list (CSV), each with a row number of at
-- most 514. Row 1 is the header, and the parser reads no row after row 514.
pub record AreFew (rows : List FaultyRow) : Type 0 where
  pub few : length rows ≤ 513
  pub low : All (λ faulty. faulty.row ≤ 514) rows

-- States that if the result reports faulty rows of a point list (CSV), there are at most 513, with
-- row numbers of at most 514. States nothing for other results.
abbrev pub HasFewRows : Result Command CommandFault → Type 0
HasFewRows (Ok c) = Unit {0}
HasFewRows (Err Malformed) = Unit {0}
HasFewRows (Err Negative) = Unit {0}
HasFewRows (Err (Faulty rows)) = AreFew rows
HasFewRows (Err Memory) = Unit {0}

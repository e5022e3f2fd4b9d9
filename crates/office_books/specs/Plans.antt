-- The number of reads in a device's plan, and a range of these reads. The plan has the Modbus reads
-- that cover the device's point list.
use Rattle.std.specs.Prelude.{ℕ, List, length, take, Option}
use Rattle.std.specs.Option.{option_map}
use Rattle.mb_wire.specs.declared.span.ReadSpan.{ReadSpan}
use Rattle.read_plan.specs.PlannedLists.{Planned}
use Rattle.office_books.specs.History.{round_spans}

-- The number of Modbus reads that cover a point list (its plan), or `None` without a point list.
abbrev pub read_count_of : Option Planned → Option ℕ
read_count_of list = option_map (λ planned. length planned.reads) list

-- At most `most` reads of a plan (the Modbus reads that cover a point list) from index `from` on.
-- The list is empty without a point list.
abbrev pub reads_from : (from most : ℕ) → Option Planned → List ReadSpan
reads_from from most list = take most (round_spans from list)

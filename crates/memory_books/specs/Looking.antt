-- Definitions for a store in memory: the order of its records in lists, and the failures of its
-- calls.
use Rattle.std.specs.Prelude.{List, reverse, Option, Result, Ok, Err}
use Rattle.std.specs.declared.alloc.AllocError.{AllocError}
use Rattle.office_events.specs.declared.facts.Fact.{Fact}
use Rattle.office_books.specs.declared.failures.Failures.{Failures}
use Rattle.office_books.specs.declared.faults.BooksFault.{BooksFault}
use Rattle.office_books.specs.declared.faults.BooksFault.TheVariants.{Memory}

-- Reverses a list of records. The argument begins with the earliest record, the result with the
-- latest.
abbrev pub latest_first : List Fact → List Fact
latest_first facts = reverse facts

-- Converts the result of a call of a store in memory: if memory ran out, the error is the store's
-- fault `Memory`.
abbrev pub reported : {T : Type 0} → Result T AllocError → Result T BooksFault
reported (Ok answer) = Ok answer
reported (Err lacks) = Err Memory

-- The failure counter of a store in memory. The count is always 0, because a lack of memory is not
-- counted. The last failure, if any, is that memory ran out.
abbrev pub failures_in : (last : Option BooksFault) → Failures
failures_in last = record { count = 0; last = last }

-- Comparison of the interval rows (energies of quarter hours) in a table with the interval rows
-- computed from the entries. Both lists are in order of their starts.
use Rattle.std.specs.Prelude.{◌≡◌, ℕ, ◌+◌, ◌==◌, nat_lt, List, [], ◌∷◌, ◌++◌, length, Option, Some, None, if◌then◌else◌}
use Rattle.interval_core.specs.declared.shares.Share.{Share}
use Rattle.meter_journal.specs.declared.audit.intervals.IntervalFault.{IntervalFault}
use Rattle.meter_journal.specs.declared.audit.intervals.IntervalFault.TheVariants as fault
use Rattle.meter_journal.specs.declared.audit.intervals.IntervalDifference.{IntervalDifference}

-- The difference between a computed and a stored interval row (the energy of a quarter hour), or
-- `None` if the rows are equal. If the starts of both rows differ, only the earlier row is
-- reported.
abbrev pub fault_between : (wanted found : Share) → Option IntervalFault
fault_between wanted found =
    if nat_lt wanted.start found.start then Some (fault.Missing wanted.start wanted.mwh) else
    if nat_lt found.start wanted.start then Some (fault.Unwanted found.start found.mwh) else
    if wanted.mwh == found.mwh then None else
    Some (fault.Differs wanted.start found.mwh wanted.mwh)

-- The difference between the first interval rows (energies by quarter hour) of a computed and a
-- stored list. `None` if the rows are equal or both lists are empty.
abbrev pub next_fault : (wanted found : List Share) → Option IntervalFault
next_fault [] [] = None
next_fault [] (row ∷ found) = Some (fault.Unwanted row.start row.mwh)
next_fault (row ∷ wanted) [] = Some (fault.Missing row.start row.mwh)
next_fault (row ∷ wanted) (other ∷ found) = fault_between row other

-- How many computed interval rows (energies by quarter hour) a difference between the computed and
-- the stored list concerns. It is 0 for a stored row that was not computed, otherwise 1.
abbrev pub wanted_with : IntervalFault → ℕ
wanted_with (fault.Missing start wanted) = 1
wanted_with (fault.Unwanted start has) = 0
wanted_with (fault.Differs start has wanted) = 1

-- The number of stored interval rows (energies by quarter hour) that a difference between the lists
-- covers. It is 0 if the table lacks a computed row, otherwise 1.
abbrev pub found_with : IntervalFault → ℕ
found_with (fault.Missing start wanted) = 0
found_with (fault.Unwanted start has) = 1
found_with (fault.Differs start has wanted) = 1

-- The first difference between the computed and the stored list of interval rows (energies by
-- quarter hour), after `same` equal rows.
abbrev pub difference_after : (same : ℕ) → IntervalFault → IntervalDifference
difference_after same f = record {
  same = same;
  fault = f;
  wanted_done = same + wanted_with f;
  found_done = same + found_with f;
}

-- States that the lists of computed and of stored interval rows (energies by quarter hour) begin
-- with equal rows. `difference` says how the rows after the equal rows differ.
pub record IsFirst (wanted found : List Share) (difference : IntervalDifference) : Type 0 where
  pub rows : List Share
  pub wanted_left : List Share
  pub found_left : List Share
  pub wanted_is : wanted ≡ rows ++ wanted_left
  pub found_is : found ≡ rows ++ found_left
  pub next : next_fault wanted_left found_left ≡ Some difference.fault
  pub is : difference ≡ difference_after (length rows) difference.fault

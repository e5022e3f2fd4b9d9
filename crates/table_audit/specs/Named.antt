-- Defines how an audit adds the discrepancies of a meter to its findings. A finding is a
-- discrepancy with a meter's name.
use Rattle.std.specs.Prelude.{◌≡◌, ◌+◌, ◌-◌, ℕ, List, ◌++◌, map, take, length, Some, None, string_bytes}
use Rattle.std.specs.List.{AllByRecursion}
use Rattle.table_audit.specs.declared.differences.Difference.{Difference}
use Rattle.table_audit.specs.declared.differences.TheConstants.{MOST}
use Rattle.table_audit.specs.declared.findings.Finding.{Finding}
use Rattle.table_audit.specs.declared.findings.Findings.{Findings}
use Rattle.table_audit.specs.Meters.{up_to_most}

abbrev pub difference_of : Finding → Difference
difference_of finding = finding.difference

-- States that a finding of an audit names the meter `meter`, which is given by the bytes of its
-- name.
abbrev pub IsUnder : (meter : List ℕ) → Finding → Type 0
IsUnder meter finding = (name : _) × (finding.meter ≡ Some name) × (string_bytes name ≡ meter)

-- States that the discrepancies found for a meter are added to an audit's findings, each with the
-- meter's name. At most `MOST` findings are stored in total.
pub record KeepsFirst (meter : List ℕ) (differences : List Difference) (old new : Findings) :
    Type 0 where
  pub added : List Finding
  pub same : map difference_of added ≡ differences
  pub named : AllByRecursion (IsUnder meter) added
  pub kept : new.first.items ≡ take MOST (old.first.items ++ added)

-- Builds a finding of an audit from a discrepancy (a difference from what the program would write)
-- that belongs to no meter.
abbrev pub of_none : Difference → Finding
of_none difference = record { meter = None; difference = difference }

-- States that discrepancies that belong to no meter are added to an audit's findings. At most
-- `MOST` findings are stored in total, and further findings are only counted.
pub record IsReported (differences : List Difference) (old new : Findings) : Type 0 where
  pub kept : new.first.items ≡ take MOST (old.first.items ++ map of_none differences)
  pub more : new.more
      ≡ up_to_most (old.more + (length old.first.items + length differences - MOST))
  pub counts : new.counts ≡ old.counts

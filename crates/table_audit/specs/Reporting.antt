-- Defines what the audit of one meter adds to a list of discrepancies.
use Rattle.std.specs.Prelude.{◌≡◌, ◌<◌, Bool, true, false, length}
use Rattle.table_audit.specs.declared.differences.Differences.{Differences}

-- The effect of a meter's audit on the list of discrepancies. If `fine` is true (the meter's rows
-- follow the rules for meter entries), the list is unchanged. Otherwise the list is not empty
-- afterwards.
abbrev pub Reports : (fine : Bool) → (old new : Differences) → Type 0
Reports true old new = new ≡ old
Reports false old new = 0 < length new.first.items

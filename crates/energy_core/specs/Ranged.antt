use Rattle.std.specs.Prelude.{ℕ, ◌≤◌}
use Rattle.energy_core.specs.declared.limits.TheConstants.{MAX_RANGE, MIN_RANGE}
use Rattle.energy_core.specs.declared.counters.Ranged.{Ranged}

-- The number of counts in a full turn of the counter.
abbrev pub range_of : Ranged → ℕ
range_of counter = counter.range

-- True if the range of a counter is allowed: from 65,536 to 4,294,967,296 counts.
abbrev pub IsRange : ℕ → Type 0
IsRange range = (MIN_RANGE ≤ range) × (range ≤ MAX_RANGE)

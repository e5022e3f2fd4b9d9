-- Bounds of the indices and timestamps in the tables of the store.
use Rattle.std.specs.Prelude.{ℕ, ◌≤◌}
use Rattle.poll_core.specs.declared.limits.TheConstants.{LAST_MOMENT}
use Rattle.store_tables.specs.declared.limits.TheConstants.{GREATEST_PLACE}

-- The greatest index of a row, and the greatest number of a poll: 2^62.
abbrev pub greatest_place : ℕ
greatest_place = GREATEST_PLACE

-- True if a number can be the index of a row: from 1 to 2^62.
abbrev pub IsPlace : ℕ → Type 0
IsPlace place = (1 ≤ place) × (place ≤ greatest_place)

-- The latest timestamp that the store accepts, in seconds since 1970-01-01 UTC.
abbrev pub latest_moment : ℕ
latest_moment = LAST_MOMENT

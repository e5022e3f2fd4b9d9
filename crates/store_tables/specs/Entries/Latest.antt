-- The timestamps that the queries for the latest meter entry and the latest cancellation of an
-- entry return.
use Rattle.std.specs.Prelude.{◌≡◌, ℕ, pos, ◌≤◌, [], ◌∷◌}
use Rattle.sqlite.specs.declared.types.Value.TheVariants.{Int}
use Rattle.sqlite.specs.Order.{Row}
use Rattle.store_tables.specs.Limits.{latest_moment}
use Rattle.store_tables.specs.Entries.Rows.{Entered, Voided}

-- The timestamp of a meter's entry, in seconds since 1970-01-01 UTC.
abbrev pub entry_moment : Entered → ℕ
entry_moment e = e.entry.moment

-- The column that the query for the latest entry returns: the entry's timestamp.
abbrev pub entry_moment_shown : Entered → Row
entry_moment_shown e = Int (pos e.entry.moment) ∷ []

-- True if `moment`, the timestamp that the query for the latest entry returned, is the timestamp of
-- the meter entry `e`.
abbrev pub HasEntryMoment : Entered → ℕ → Type 0
HasEntryMoment e moment = moment ≡ e.entry.moment

-- The time at which an entry was voided (cancelled), in seconds since 1970-01-01 UTC.
abbrev pub void_moment : Voided → ℕ
void_moment v = v.moment

-- The column that the query for the latest row of `voids` returns: the time at which the entry was
-- cancelled.
abbrev pub void_moment_shown : Voided → Row
void_moment_shown v = Int (pos v.moment) ∷ []

-- True if the time that a query returned is the time in this row of `voids`, at which an entry was
-- cancelled.
abbrev pub HasVoidMoment : Voided → ℕ → Type 0
HasVoidMoment v moment = moment ≡ v.moment

-- True if the time at which an entry was cancelled is at most the latest timestamp that the store
-- accepts.
abbrev pub IsTimelyVoid : Voided → Type 0
IsTimelyVoid v = v.moment ≤ latest_moment

-- The latest timestamps of the records of each kind, in seconds since 1970-01-01 UTC. If a kind has
-- no records, its latest timestamp is 0.
use Rattle.std.specs.Prelude.{ℕ, max, List, [], ◌∷◌, map}
use Rattle.std.specs.List.{AllByRecursion}
use Rattle.energy_core.specs.Account.{moment_of}
use Rattle.office_events.specs.declared.facts.Fact.{Fact}
use Rattle.office_books.specs.Facts.{openings_in, entries_in, voids_in, holds_in, polls_in, ended_in, replies_in}
use Rattle.store_tables.specs.Entries.Rows.{IsSoundEntered}
use Rattle.store_tables.specs.Entries.Latest.{IsTimelyVoid}
use Rattle.store_tables.specs.Polls.Rows.{IsSoundStarted, IsSoundOutcome, IsSoundHeld, IsSoundKept}
use Rattle.office_store.specs.Rows.{placed, entries_of, voided, held_row, started, outcome_row, kept}

-- The greatest timestamp of a list's elements, or 0 for an empty list.
abbrev pub greatest : {X : Type 0} → (moment : X → ℕ) → List X → ℕ
greatest moment [] = 0
greatest moment (x ∷ xs) = max (moment x) (greatest moment xs)

-- The latest timestamp of all meter entries, in seconds since 1970-01-01 UTC. A meter's first entry
-- is its opening, made at installation.
abbrev pub latest_entered : List Fact → ℕ
latest_entered facts =
    max (greatest (λ o. o.at) (openings_in facts))
    (greatest (λ b. moment_of b.entry) (entries_in facts))

-- The latest time at which a meter entry was voided (cancelled as a false reading), in seconds
-- since 1970-01-01 UTC.
abbrev pub latest_voided : List Fact → ℕ
latest_voided facts = greatest (λ v. v.at) (voids_in facts)

-- The latest timestamp of all rejected readings.
abbrev pub latest_held : List Fact → ℕ
latest_held facts = greatest (λ h. h.at) (holds_in facts)

-- The latest time at which a poll started.
abbrev pub latest_started : List Fact → ℕ
latest_started facts = greatest (λ p. p.at) (polls_in facts)

-- The latest time at which a poll ended.
abbrev pub latest_ended : List Fact → ℕ
latest_ended facts = greatest (λ e. e.at) (ended_in facts)

-- The latest timestamp of all requests that are stored to detect retries.
abbrev pub latest_replied : List Fact → ℕ
latest_replied facts = greatest (λ r. r.at) (replies_in facts)

-- The latest timestamp of all polls, outcomes, rejected readings and stored requests (accepted
-- requests that are kept to detect retries).
abbrev pub latest_asked : List Fact → ℕ
latest_asked facts =
    max (max (latest_started facts) (latest_ended facts))
    (max (latest_held facts) (latest_replied facts))

-- True if every row with a timestamp can be read: its values are in the ranges of its table.
pub record HasReadableMoments (facts : List Fact) : Type 0 where
  pub entries : (meter : List ℕ) → AllByRecursion IsSoundEntered (entries_of facts meter)
  pub voids : AllByRecursion IsTimelyVoid (map voided (voids_in facts))
  pub holds : AllByRecursion IsSoundHeld (placed held_row (holds_in facts))
  pub polls : AllByRecursion IsSoundStarted (map started (polls_in facts))
  pub outcomes : AllByRecursion IsSoundOutcome (map outcome_row (ended_in facts))
  pub replies : AllByRecursion IsSoundKept (map kept (replies_in facts))

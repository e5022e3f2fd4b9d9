-- Queries for a part of a list. The parts are interval rows (energies by quarter hour) or rejected
-- readings in a time span, entries by sequence number, and the meters of an accounting register.
use Rattle.std.specs.Prelude.{◌≡◌, ◌⊎◌, ℕ, List, Option, Some, None, Result, Ok, Err}
use Rattle.std.specs.Option.{option_map, option_and_then}
use Rattle.std.specs.declared.alloc.Global.{Global}
use Rattle.std.specs.declared.vec.Vec.{Vec}
use Rattle.interval_core.specs.declared.shares.Share.{Share}
use Rattle.office_events.specs.declared.facts.Fact.{Fact}
use Rattle.office_events.specs.declared.facts.HeldReading.{HeldReading}
use Rattle.office_events.specs.declared.questions.Installation.{Installation}
use Rattle.office_events.specs.declared.refusals.Refusal.{Refusal}
use Rattle.office_events.specs.declared.refusals.Refusal.TheVariants as refusal
use Rattle.office_books.specs.Facts.{opening_of, register_of}
use Rattle.office_books.specs.History.{facts_of}
use Rattle.office_books.specs.declared.entries.MeterEntry.{MeterEntry}
use Rattle.office_books.specs.declared.failures.Failures.{Failures}
use Rattle.office_books.specs.declared.spans.Span.{Span}
use Rattle.office_books.specs.Entries.{entries_at, first_from, installations_of}
use Rattle.office_books.specs.Holds.{holds_of, holds_within}
use Rattle.office_books.specs.Ledgers.{Ledger}
use Rattle.office_books.specs.Spans.{rows_within}
use Rattle.office_core.specs.Asking.{intervals_of}
use Rattle.office_core.specs.declared.office.Office.{Office}
use Rattle.office_core.specs.Failing.{IsOutside}
use Rattle.office_core.specs.Standing.{After}
use Rattle.office_core.specs.Taking.{failures_of}

-- The interval rows (energy by quarter hour) of the named meter in a time span, or `None` if no
-- meter has the name.
abbrev pub intervals_within : List Fact → (meter : Option (List ℕ)) → Span → Option (List Share)
intervals_within facts meter span = option_map (rows_within span) (intervals_of facts meter)

-- The rejected readings of the named meter in a time span, in the order in which they were
-- recorded, or `None` if no meter has the name.
abbrev pub holds_at : List Fact → (meter : List ℕ) → Span → Option (List HeldReading)
holds_at facts meter span =
    option_map (λ opening. holds_within span (holds_of facts meter)) (opening_of facts meter)

-- The rejected readings of the named meter in a time span, or `None` if no meter has the name or
-- the name is invalid.
abbrev pub holds_named : List Fact → (meter : Option (List ℕ)) → Span → Option (List HeldReading)
holds_named facts meter span = option_and_then (λ name. holds_at facts name span) meter

-- At most `most` entries (readings, resets and so on) of the named meter from sequence number
-- `from` on, or `None` if no meter has the name.
abbrev pub entries_within : List Fact → (meter : Option (List ℕ)) → (from most : ℕ)
    → Option (List MeterEntry)
entries_within facts meter from most =
    option_map (λ opening. first_from from most (entries_at facts (Some opening)))
    (option_and_then (opening_of facts) meter)

-- The past and present meters of the named accounting register (named energy counter), each with
-- its opening (first entry), counter state and total energy. `None` if no register has the name.
abbrev pub meters_at : List Fact → (register : List ℕ) → Option (List Installation)
meters_at facts register =
    option_map (λ row. installations_of facts register) (register_of facts register)

-- The past and present meters of the named accounting register (named energy counter), with their
-- state. `None` if no register has the name or the name is invalid.
abbrev pub meters_named : List Fact → (register : Option (List ℕ)) → Option (List Installation)
meters_named facts register = option_and_then (meters_at facts) register

-- True if the result of a query for a list is correct. The result is the list, `NotFound` if the
-- list does not exist, or the refusal that reports a failure or a stopped program (which refuses
-- everything).
abbrev pub IsListed : {T : Type 0} → Option (List T) → (before after : Failures)
    → Result (Vec T Global) Refusal → Type 0
IsListed rows before after (Ok listed) = (rows ≡ Some listed.items) × (after ≡ before)
IsListed None before after (Err why) =
    ((why ≡ refusal.NotFound) × (after ≡ before)) ⊎ IsOutside ⊥ before after why
IsListed (Some rows) before after (Err why) = IsOutside ⊥ before after why

-- States that, if every wrong result of the store was detected, the list that a query returns
-- follows from the store's records.
abbrev pub ListsIn : {T : Type 0} → (old new : Ledger) → Result (Vec T Global) Refusal
    → (List Fact → Option (List T)) → Type 0
ListsIn old new result rows = (known : List Fact) → old.holds known → new.is_clean
    → IsListed (rows known) old.failures new.failures result

-- True if a query returned the list that the function `rows` computes from the records of all
-- accepted events, or correctly reported a failure.
abbrev pub ListsAccepted : {B T : Type 0} → (B → Ledger) → (old new : Office B)
    → Result (Vec T Global) Refusal → (List Fact → Option (List T)) → Type 0
ListsAccepted ledger old new result rows = After ledger old new (λ past.
    IsListed (rows (facts_of past)) (failures_of ledger old) (failures_of ledger new) result)

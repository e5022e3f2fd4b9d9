-- The energy of an accounting register (a named energy counter) on each civil day of a range of
-- days.
use Rattle.std.specs.Prelude.{◌≡◌, ℕ, ◌*◌, ◌<◌, ◌^◌, ℤ, pos, negsuc, ◌+ℤ◌, ◌-ℤ◌, length, List, map, filter, Option, Some, None, Result, MatchResult, OnOk, OnErr}
use Rattle.std.specs.Option.{option_and_then}
use Rattle.std.specs.declared.alloc.Global.{Global}
use Rattle.std.specs.declared.vec.Vec.{Vec}
use Rattle.jiff_core.specs.declared.civil.date.Date.{Date}
use Rattle.jiff.specs.Words.{epoch_day}
use Rattle.interval_core.specs.Days.{DayAccount, account_of}
use Rattle.interval_core.specs.Ranges.{has_day}
use Rattle.interval_core.specs.declared.day_range.DayRange.{DayRange}
use Rattle.interval_core.specs.declared.totals.DayTotal.{DayTotal}
use Rattle.interval_core.specs.declared.zone.Zone.{Zone}
use Rattle.office_events.specs.declared.facts.Fact.{Fact}
use Rattle.office_events.specs.declared.refusals.Refusal.{Refusal}
use Rattle.office_books.specs.Facts.{register_of}
use Rattle.office_books.specs.History.{facts_of}
use Rattle.office_books.specs.Lawful.{AreLawful}
use Rattle.office_books.specs.declared.failures.Failures.{Failures}
use Rattle.office_books.specs.declared.spans.Span.{Span}
use Rattle.office_books.specs.declared.spans.Span.TheVariants as span
use Rattle.office_books.specs.Ledgers.{Ledger}
use Rattle.office_books.specs.Rows.{TakesAll}
use Rattle.office_core.specs.declared.office.Office.{Office}
use Rattle.office_core.specs.Asking.{AreDaysNamed, IsFound, is_there}
use Rattle.office_core.specs.Failing.{IsOutside}
use Rattle.office_core.specs.Standing.{After, books_in}
use Rattle.office_core.specs.Taking.{failures_of}

-- The given days (energy by civil day) that lie in the range, in unchanged order.
abbrev pub accounts_within : DayRange → List DayAccount → List DayAccount
accounts_within range accounts = filter (λ account. has_day range account.day) accounts

-- The start of the UTC day with the given day number, in seconds since 1970-01-01 UTC. For a day
-- before 1970, the start is 0.
abbrev pub utc_start : ℤ → ℕ
utc_start (pos n) = n * 86_400
utc_start (negsuc n) = 0

-- The time span from two days before `from` to two days after `till`, in UTC. No UTC offset exceeds
-- two days. Therefore the span contains the days of the range in every time zone.
--
-- If the range of days has no first day or no end, then its time span contains all times.
abbrev pub span_between : (from till : Option Date) → Span
span_between (Some from) (Some till) =
    span.Between (utc_start (epoch_day from -ℤ pos 2)) (utc_start (epoch_day till +ℤ pos 2))
span_between (Some from) None = span.All
span_between None till = span.All

-- The time span that contains all civil days of the given range of days in every time zone.
abbrev pub span_of : DayRange → Span
span_of range = span_between range.from range.till

-- True if a list of days has the energy of the named accounting register on each civil day in the
-- range.
pub record AreDaysWithin (zone : Zone) (facts : List Fact) (register : Option (List ℕ))
    (range : DayRange) (days : List DayAccount) : Type 0 where
  pub all : List DayAccount
  pub are : AreDaysNamed zone facts register all
  pub asked : days ≡ accounts_within range all

-- True if the sink (a visitor of days) got the accounting register's days
-- in the range, in order. The days are fewer than 2^64.
pub record TakesDaysWithin {S : Type 0} (takes : S → DayTotal → S → Type 0) (zone : Zone)
    (facts : List Fact) (register : Option (List ℕ)) (range : DayRange) (before after : S) :
    Type 0 where
  pub days : List DayTotal
  pub are : AreDaysWithin zone facts register range (map account_of days)
  pub few : length days < 2 ^ 64
  pub took : TakesAll takes before days after

-- The guarantees of a query that passes the days of a range to a sink (a visitor of days). The sink
-- got all of these days on `Ok` and none on an error. Memory outside the store is needed only if
-- the register exists.
pub record HandsDaysWithin {S : Type 0} (takes : S → DayTotal → S → Type 0) (zone : Zone)
    (facts : List Fact) (register : Option (List ℕ)) (range : DayRange) (old new : Failures)
    (before after : S) (result : Result (Unit {0}) Refusal) : Type 0 where
  pub answer : let there = is_there (option_and_then (register_of facts) register) in
      IsFound (there ≡ Some tt) there old new result
  pub whole : OnOk result (TakesDaysWithin takes zone facts register range before after)
  pub none : OnErr result (after ≡ before)

-- States that the days that a query for a range of days returns are those that follow from the
-- store's records, if two conditions hold. The records are lawful (the rules for adding records
-- accept each one), and every wrong result of the store was detected.
abbrev pub DaysWithinIn : {S : Type 0} → (S → DayTotal → S → Type 0) → (old new : Ledger)
    → (before after : S) → Result (Unit {0}) Refusal → (register : Option (List ℕ))
    → DayRange → Type 0
DaysWithinIn takes old new before after result register range =
    (known : List Fact) → AreLawful known → old.holds known → new.is_clean
    → HandsDaysWithin takes old.zone known register range old.failures new.failures
    before after result

-- States that the result is the list of an accounting register's days in
-- the range, or a failure, if two conditions hold. The records are lawful (the rules for adding
-- records accept each one), and every wrong result of the store was detected.
abbrev pub ListsDaysWithin : (old new : Ledger) → (register : List ℕ) → DayRange
    → Result (Vec DayTotal Global) Refusal → Type 0
ListsDaysWithin old new register range result =
    (known : List Fact) → AreLawful known → old.holds known → new.is_clean
    → MatchResult result
    (λ days. AreDaysWithin old.zone known (Some register) range (map account_of days.items)
    × (new.failures ≡ old.failures))
    (IsOutside (Unit {0}) old.failures new.failures)

-- True if the days that a query for a range of days returns are those that follow from the records
-- of all accepted events.
abbrev pub ReportsDaysWithin : {B S : Type 0} → (S → DayTotal → S → Type 0) → (B → Ledger)
    → (old new : Office B) → (before after : S) → Result (Unit {0}) Refusal
    → (register : Option (List ℕ)) → DayRange → Type 0
ReportsDaysWithin takes ledger old new before after result register range =
    After ledger old new (λ past.
    HandsDaysWithin takes (ledger (books_in old)).zone (facts_of past) register range
    (failures_of ledger old) (failures_of ledger new) before after result)

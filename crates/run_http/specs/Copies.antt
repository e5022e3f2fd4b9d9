-- Defines which quarter hours of a meter can change when entries are added or voided (withdrawn as
-- false). A client's copy of all other quarter hours stays correct.
use Rattle.std.specs.Prelude.{◌≡◌, ℕ, ◌+◌, ◌-◌, ◌%◌, ◌≤◌, nat_lt, List, ◌++◌, length, All, Option, Some, None}
use Rattle.std.specs.List.{filter}
use Rattle.energy_core.specs.declared.limits.TheConstants.{INTERVAL_SECONDS}
use Rattle.energy_core.specs.Account.{last_of}
use Rattle.interval_core.specs.declared.shares.Share.{Share}
use Rattle.meter_journal.specs.declared.lines.EntryRow.{EntryRow}
use Rattle.meter_journal.specs.Journal.{entries_in}
use Rattle.office_books.specs.Spans.{rows_within}
use Rattle.office_books.specs.declared.spans.Span.TheVariants.{Between}
use Rattle.office_events.specs.declared.facts.Opening.{Opening}
use Rattle.office_events.specs.declared.facts.Fact.{Fact}
use Rattle.office_events.specs.declared.facts.Fact.TheVariants as fact
use Rattle.office_books.specs.Facts.{moment_limit, opening_of}
use Rattle.office_books.specs.Intervals.{rows_of_meter}
use Rattle.office_books.specs.Lawful.{AreLawful}
use Rattle.office_books.specs.Meters.{opened, rows_of, installation_of}

-- The interval rows of quarter hours that start before the time `moment`.
abbrev pub rows_before : (moment : ℕ) → List Share → List Share
rows_before moment rows = filter (λ row. nat_lt row.start moment) rows

-- The meter entries with a sequence number below `place`, including voided (withdrawn) entries.
abbrev pub entries_before : (place : ℕ) → List EntryRow → List EntryRow
entries_before place entries = filter (λ entry. nat_lt entry.place place) entries

-- The sequence number that the meter's next entry will get. The opening entry, which installs the
-- meter, has number 1. The function `rows_of` lists the entries after the opening entry.
abbrev pub next_place : List Fact → Opening → ℕ
next_place facts opening = length (rows_of facts opening) + 2

-- The start of the quarter hour that contains the time `moment`.
abbrev pub quarter_of : (moment : ℕ) → ℕ
quarter_of moment = moment - moment % INTERVAL_SECONDS

-- The time of the meter's last entry that is not voided (withdrawn) and has a sequence number below
-- `place`. The opening entry cannot be voided, so this time always exists.
abbrev pub stood_at : List Fact → Opening → (place : ℕ) → ℕ
stood_at facts opening place =
    let entries = entries_in (entries_before place (rows_of facts opening)) in
    (last_of (opened opening) entries).at

-- The time from which a meter's quarter hours can change, if no entry before the sequence number
-- `place` is voided (withdrawn). The argument is the meter's opening entry; the time is 0 if there
-- is no meter.
abbrev pub changes_of : List Fact → (place : ℕ) → Option Opening → ℕ
changes_of facts place None = 0
changes_of facts place (Some opening) = quarter_of (stood_at facts opening place)

-- The time from which quarter hours of the meter can change, if no entry before the sequence number
-- `place` is voided (cancelled). This time is the start of the quarter hour with the last valid
-- (not voided) entry before `place`.
abbrev pub changes_from : List Fact → (meter : List ℕ) → (place : ℕ) → ℕ
changes_from facts meter place = changes_of facts place (opening_of facts meter)

-- States that, if the record voids (withdraws) an entry of the meter, then the entry's sequence
-- number is at least `place`.
abbrev pub VoidsFrom : (meter : List ℕ) → (place : ℕ) → Fact → Type 0
VoidsFrom meter place (fact.Void voided) = voided.meter ≡ meter → place ≤ voided.place
VoidsFrom meter place _ = Unit {0}

-- States that later records leave unchanged: the entries before the sequence number `place`, the
-- time from which quarter hours can change, and the quarter hours before that time. A copy of these
-- quarter hours, followed by the store's rows from that time on, then equals all rows of the store.
pub record StaysBefore (further facts : List Fact) (meter : List ℕ) (opening : Opening)
    (place : ℕ) : Type 0 where
  pub entries : entries_before place (rows_of (further ++ facts) opening)
      ≡ entries_before place (rows_of facts opening)
  pub moment : changes_from (further ++ facts) meter place ≡ changes_from facts meter place
  pub rows : (from : ℕ) → from ≤ changes_from facts meter place
      → rows_before from (rows_of_meter (further ++ facts) meter)
      ≡ rows_before from (rows_of_meter facts meter)
  pub whole : (from till : ℕ) → from ≤ changes_from facts meter place → moment_limit ≤ till
      → rows_of_meter (further ++ facts) meter
      ≡ rows_before from (rows_of_meter facts meter)
      ++ rows_within (Between from till) (rows_of_meter (further ++ facts) meter)

-- Suppose that the records `further`, added after the records `facts`, void (withdraw) no entry of
-- the meter with a sequence number below `place`. Then all quarter hours before that of the last
-- valid (not voided) entry below `place` stay unchanged (`StaysBefore`).
abbrev pub RowsBeforeStay : Type 0
RowsBeforeStay = (further facts : List Fact) (meter : List ℕ) (opening : Opening) (place : ℕ)
    → AreLawful (further ++ facts) → opening_of facts meter ≡ Some opening
    → place ≤ next_place facts opening → All (VoidsFrom meter place) further
    → StaysBefore further facts meter opening place

-- If no entry is voided, then only the quarter hour of a meter's last entry and later quarter hours
-- can change. The program reports the time of that entry with the meter's energy, so a client knows
-- which rows to query again.
abbrev pub EntriesComeAfter : Type 0
EntriesComeAfter = (facts : List Fact) (meter : List ℕ) (opening : Opening) → AreLawful facts
    → opening_of facts meter ≡ Some opening
    → changes_from facts meter (next_place facts opening)
    ≡ quarter_of (installation_of facts opening).last.at

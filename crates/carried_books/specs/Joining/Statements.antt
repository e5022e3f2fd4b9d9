-- Statements of the meters of an accounting register (a named counter) over several database files,
-- on a range of days. A statement has the numbers against which a bill is checked.
--
-- A database file is represented by its records. A list of database files has the latest file
-- first.
use Rattle.std.specs.Prelude.{◌≡◌, ◌⊎◌, ℕ, ◌+◌, ◌-◌, ◌^◌, min, Bool, true, false, List, [], ◌∷◌, ◌++◌, map, filter, drop, All, Option, Some, None}
use Rattle.std.specs.declared.io.Write as writers
use Rattle.command_io.specs.declared.status.ExitStatus.{ExitStatus}
use Rattle.command_io.specs.declared.status.ExitStatus.TheVariants.{Fine}
use Rattle.energy_report.specs.Held.{held_within}
use Rattle.energy_report.specs.RowLines.{counted}
use Rattle.energy_report.specs.Statements.{energy_within, tally_of, was_installed}
use Rattle.energy_report.specs.StatementTexts.{statement_text}
use Rattle.energy_report.specs.declared.form.StatementForm.{StatementForm}
use Rattle.energy_report.specs.declared.held_counts.RejectedCounts.{RejectedCounts}
use Rattle.energy_report.specs.declared.meter_statement.MeterStatement.{MeterStatement}
use Rattle.energy_report.specs.declared.tallies.EntryTally.{EntryTally}
use Rattle.interval_core.specs.declared.day_range.DayRange.{DayRange}
use Rattle.interval_core.specs.declared.shares.Share.{Share}
use Rattle.interval_core.specs.declared.zone.Zone.{Zone}
use Rattle.meter_journal.specs.Audit.Carried.{AreCountedOnce, moved_row}
use Rattle.office_books.specs.Entries.{all_entries, installations_of}
use Rattle.office_books.specs.Holds.{holds_of}
use Rattle.office_books.specs.Rows.{TakesAll}
use Rattle.office_books.specs.declared.entries.MeterEntry.{MeterEntry}
use Rattle.office_books.specs.declared.entries.MeterEntry.TheVariants as entry
use Rattle.office_events.specs.declared.facts.Fact.{Fact}
use Rattle.office_events.specs.declared.facts.HeldReading.{HeldReading}
use Rattle.office_events.specs.declared.questions.Installation.{Installation}
use Rattle.office_program.specs.Texts.EndTexts.{IsReported}
use Rattle.office_program.specs.Texts.Statements.{statements_of}
use Rattle.office_books.specs.Intervals.{rows_of_meter}
use Rattle.office_books.specs.Lawful.{AreLawful}
use Rattle.carried_books.specs.Joining.Files.{StaysRecorded, is_recorded, is_recorded_in}
use Rattle.carried_books.specs.Joining.Meters.{AddOrAreApart, AreApart, GoesOn, as_one, is_before}
use Rattle.carried_books.specs.declared.joining.files.Unjoined.{Unjoined}
use Rattle.carried_books.specs.declared.joining.files.Unjoined.TheVariants as unjoined
use Rattle.carried_books.specs.declared.joining.meters.Apart.{Apart}
use Rattle.carried_books.specs.declared.joining.kept_meters.KeptMeter.{KeptMeter}
use Rattle.carried_books.specs.declared.joining.statements.JoinedStatement.{JoinedStatement}

-- The data of a meter over several database files: its state, its entries in order (including
-- voided (cancelled) entries), its energy intervals, and its rejected readings.
pub record MeterOver : Type 0 where
  pub stands : Installation
  pub entries : List MeterEntry
  pub rows : List Share
  pub holds : List HeldReading

-- The data of a meter in one database file, read from the records of this file.
abbrev pub meter_in : List Fact → Installation → MeterOver
meter_in facts row = record {
  stands = row;
  entries = all_entries facts row.opening.meter;
  rows = rows_of_meter facts row.opening.meter;
  holds = holds_of facts row.opening.meter;
}

-- The entries of a meter in one database file that no earlier file has.
--
-- The opening (first entry) of a meter does not count as a new entry of a database file if the
-- meter continues from an earlier file. The opening then repeats the last valid (not voided) entry
-- of the earlier file.
abbrev pub own_entries : (goes_on : Bool) → List MeterEntry → List MeterEntry
own_entries true entries = drop 1 entries
own_entries false entries = entries

-- The data of a meter over several database files, combined from its data `one` in the earlier
-- files and its data `next` in the next file.
abbrev pub both_of : (one next : MeterOver) → MeterOver
both_of one next = record {
  stands = as_one one.stands next.stands;
  entries = one.entries ++ own_entries true next.entries;
  rows = one.rows ++ next.rows;
  holds = one.holds ++ next.holds;
}

-- States that the meter `next` continues the last meter in the list `known`. In the list `after`,
-- one meter over all database files replaces these two meters.
pub record IsOneOver (known : List MeterOver) (next : MeterOver) (after : List MeterOver) :
    Type 0 where
  pub before : List MeterOver
  pub one : MeterOver
  pub known_is : known ≡ before ++ one ∷ []
  pub goes : GoesOn one.stands next.stands
  pub after_is : after ≡ before ++ both_of one next ∷ []

-- All meters in the list `known` were closed before the meter `next` began, and `next` is appended
-- to this list.
pub record IsNextOver (known : List MeterOver) (next : MeterOver) (after : List MeterOver) :
    Type 0 where
  pub earlier : All (λ one. is_before one.stands next.stands ≡ true) known
  pub after_is : after ≡ known ++ next ∷ []

-- States that `after` is the list `known` with the meter `next` added. Either `next` continues the
-- last meter in `known`, or all meters in `known` were closed before `next` began.
abbrev pub AddsOver : (known : List MeterOver) → MeterOver → (after : List MeterOver) → Type 0
AddsOver known next after = IsOneOver known next after ⊎ IsNextOver known next after

-- The data of the meters of an accounting register (a named counter) in all database files, file by
-- file. The meters of each file are in the order of installation.
abbrev pub parts_over : (register : List ℕ) → (files : List (List Fact)) → List MeterOver
parts_over register [] = []
parts_over register (facts ∷ files) =
    parts_over register files ++ map (meter_in facts) (installations_of facts register)

-- The database files join for the accounting register (a named counter): together they have one
-- history of the register's meters. The list `meters` has these meters, each over all files.
--
-- A meter that the latest file does not have keeps its data from the earlier files.
pub record AreMetersOver (register : List ℕ) (files : List (List Fact)) (meters : List MeterOver) :
    Type 0 where
  pub recorded : StaysRecorded register files
  pub joined : TakesAll AddsOver [] (parts_over register files) meters

-- The statement of a meter over all database files, to check a bill.
--
-- The statement of a meter has the meter's first and last entry and its corrections in the range of
-- days. The energy is that of the intervals that start in the range. The counts of rejected
-- readings are those in the range.
abbrev pub statement_over : Zone → DayRange → MeterOver → MeterStatement
statement_over zone range m = record {
  meter = m.stands.opening.meter;
  entries = tally_of zone range m.entries;
  mwh = energy_within zone range m.rows;
  held = held_within zone range m.holds;
}

-- The statements (reports, one for each meter) of the meters that were installed in the range of
-- days. A meter's first entry in the first database file that has the meter is its installation.
abbrev pub statements_over : Zone → DayRange → List MeterOver → List MeterStatement
statements_over zone range meters =
    map (statement_over zone range) (filter (λ m. was_installed zone range m.stands) meters)

-- True if `text` has the statements (reports) of the meters of an accounting register (a named
-- counter) over the database files `files`.
abbrev pub IsStatementOver : Zone → (register : List ℕ) → (files : List (List Fact))
    → StatementForm → (text : List ℕ) → Type 0
IsStatementOver zone register files form text = (meters : List MeterOver)
    × AreMetersOver register files meters
    × (text ≡ statement_text form (statements_over zone form.range meters))

-- The data of a meter that are collected for a statement (billing report): the state over all
-- database files, and the statement for the range of days.
abbrev pub kept_of : Zone → DayRange → MeterOver → KeptMeter
kept_of zone range m = record { stands = m.stands; reported = statement_over zone range m }

-- Each element of `kept` has the data collected over several database files for the meter at the
-- same index in `meters`.
abbrev pub AreReported : Zone → DayRange → List KeptMeter → List MeterOver → Type 0
AreReported zone range kept meters = kept ≡ map (kept_of zone range) meters

-- The state of a meter whose data were collected over several database files.
abbrev pub stands_of : KeptMeter → Installation
stands_of kept = kept.stands

-- The statement (report) of a meter whose data were collected over several database files.
abbrev pub reported_of : KeptMeter → MeterStatement
reported_of kept = kept.reported

-- The statements (reports) of those meters in `kept` that were installed in the range of days.
abbrev pub rows_of_those : Zone → DayRange → List KeptMeter → List MeterStatement
rows_of_those zone range kept =
    map reported_of (filter (λ one. was_installed zone range one.stands) kept)

-- True if `kept` has the statements (reports) of the meters of a register (a named counter) over
-- files that join (have one history), on the days of a range.
pub record HasStated (zone : Zone) (range : DayRange) (register : List ℕ)
    (files : List (List Fact)) (kept : JoinedStatement) : Type 0 where
  pub recorded : kept.is_recorded ≡ is_recorded_in register files
  pub zone_is : kept.zone ≡ zone
  pub meters : List MeterOver
  pub are : AreMetersOver register files meters
  pub reported : AreReported zone range kept.meters.items meters

-- States that the tally `new` counts the entries that the tally `old` counts, and also those in
-- `entries`. A tally has the first and last entry and the corrections of a meter.
abbrev pub TalliesOn : Zone → DayRange → List MeterEntry → (old new : EntryTally) → Type 0
TalliesOn zone range entries old new = (before : List MeterEntry)
    → old ≡ tally_of zone range before → new ≡ tally_of zone range (before ++ entries)

-- The statement (report) of a meter in one database file. The tally (first and last entry,
-- corrections) continues the tally of the earlier files. The energy and rejected readings are those
-- of this file alone.
pub record ReportsPart (zone : Zone) (range : DayRange) (meter : List ℕ) (goes_on : Bool)
    (facts : List Fact) (begun : EntryTally) (reported : MeterStatement) : Type 0 where
  pub meter_is : reported.meter ≡ meter
  pub entries : TalliesOn zone range (own_entries goes_on (all_entries facts meter)) begun
      reported.entries
  pub energy : reported.mwh ≡ energy_within zone range (rows_of_meter facts meter)
  pub held : reported.held ≡ held_within zone range (holds_of facts meter)

-- The sums of two counts of rejected readings, for each cause; each sum saturates at 2^64 - 1.
abbrev pub both_held : (one more : RejectedCounts) → RejectedCounts
both_held one more = record {
  not_accumulated = counted (one.not_accumulated + more.not_accumulated);
  scale_changed = counted (one.scale_changed + more.scale_changed);
  not_later = counted (one.not_later + more.not_later);
  span_too_long = counted (one.span_too_long + more.span_too_long);
  gap_too_long = counted (one.gap_too_long + more.gap_too_long);
  too_fast = counted (one.too_fast + more.too_fast);
  total_full = counted (one.total_full + more.total_full);
  not_below_range = counted (one.not_below_range + more.not_below_range);
}

-- The collected data of a meter over the earlier database files and the next file.
abbrev pub with_part : KeptMeter → Installation → (part : MeterStatement) → KeptMeter
with_part kept row part = record {
  stands = as_one kept.stands row;
  reported = record {
    meter = kept.reported.meter;
    entries = part.entries;
    mwh = min (kept.reported.mwh + part.mwh) (2 ^ 128 - 1);
    held = both_held kept.reported.held part.held;
  };
}

-- States that, if adding one more file's meters (those in `listed`) returns `None`, their data were
-- added to the collected data. For any other result (two conflicting meters), states nothing.
abbrev pub ReportsAll : Zone → DayRange → (facts : List Fact) → (listed : List Installation)
    → (old new : List KeptMeter) → Option Apart → Type 0
ReportsAll zone range facts listed old new None = (meters : List MeterOver)
    → AreReported zone range old meters
    → (after : List MeterOver) × TakesAll AddsOver meters (map (meter_in facts) listed) after
    × AreReported zone range new after
ReportsAll zone range facts listed old new (Some apart) = Unit {0}

-- If adding the meters of a database file returns `None`, they were added to the collected meters.
-- Any other result has a later meter, and an earlier meter with which the later meter conflicts
-- (they overlap in time or have one name).
abbrev pub AddsListed : Zone → DayRange → (facts : List Fact) → (listed : List Installation)
    → (old new : List KeptMeter) → Option Apart → Type 0
AddsListed zone range facts listed old new apart =
    AddOrAreApart (map stands_of old) listed (map stands_of new) apart
    × ReportsAll zone range facts listed old new apart

-- The database file does not continue the meter history of the earlier files, for a reason for
-- which a report of daily energy rejects the file too.
--
-- A statement (a report on meters) allows energy intervals (energies of quarter hours) that are not
-- in the order of time, since the statement only needs their sum.
abbrev pub DoesNotGoOn : (register : List ℕ) → (facts : List Fact) → (old : JoinedStatement)
    → Unjoined → Type 0
DoesNotGoOn register facts old unjoined.NotRecorded =
    (old.is_recorded ≡ true) × (is_recorded register facts ≡ false)
DoesNotGoOn register facts old (unjoined.Apart apart) =
    AreApart (map stands_of old.meters.items) (installations_of facts register) apart
DoesNotGoOn register facts old unjoined.OutOfTurn = ⊥

-- The text of the statements (reports on meters) in `rows` was printed. If a write failed, only a
-- beginning of the text was printed.
abbrev pub PrintsRows : {W : Type 0} → (contents : W → Option (List ℕ)) → StatementForm
    → List MeterStatement → ExitStatus → (had holds : W) → Type 0
PrintsRows contents form rows status had holds =
    IsReported (statement_text form rows) Fine status (contents had) (contents holds)

-- The statements (reports) on the meters of a register (a named counter) over several database
-- files were printed. If a write failed, only a beginning of the text was printed.
pub record PrintsStatement (zone : Zone) (register : List ℕ) (files : List (List Fact))
    (form : StatementForm) (status : ExitStatus) (had holds : Option (List ℕ)) : Type 0 where
  pub text : List ℕ
  pub is : IsStatementOver zone register files form text
  pub reported : IsReported text Fine status had holds

-- The statements (reports) on the meters of a register (a named counter) were printed for the
-- requested days. The data are of files that join (have one history of the register).
abbrev pub StatesJoined : {W : Type 0} → writers.Ghosts W → JoinedStatement → StatementForm
    → (had holds : W) → ExitStatus → Type 0
StatesJoined w joined form had holds status =
    (zone : Zone) (register : List ℕ) (files : List (List Fact))
    → HasStated zone form.range register files joined
    → PrintsStatement zone register files form status (w.contents had) (w.contents holds)

-- The theorem that a report over one database file has a statement (row) for each meter of the
-- file. The theorem assumes that the program wrote the file.
abbrev pub OneFileStatesItsMeters : Type 0
OneFileStatesItsMeters = (zone : Zone) (range : DayRange) (register : List ℕ) (facts : List Fact)
    (meters : List MeterOver)
    → AreLawful facts → AreMetersOver register (facts ∷ []) meters
    → statements_over zone range meters
    ≡ statements_of zone range facts (installations_of facts register)

-- A meter entry with its new index, after the entries of an old and a new file were put into one
-- file. There, `count` entries of the old file come before the new file's first entry.
abbrev pub moved_entry : (count : ℕ) → MeterEntry → MeterEntry
moved_entry count (entry.Opening last) = entry.Opening last
moved_entry count (entry.Later row sf) = entry.Later (moved_row count row) sf

-- True if `both` is the meter in one database file that has the history of the meter from the old
-- and the new file.
--
-- Consider the single database file that has the meter's history of an old and a new file. In it,
-- the new file's entries follow the old file's entries, and each quarter hour has the energy of
-- both files. The new file's rejected readings follow those of the old file.
pub record HaveOneJournal (old new both : MeterOver) : Type 0 where
  pub count : ℕ
  pub name : both.stands.opening.meter ≡ old.stands.opening.meter
  pub entries : both.entries
      ≡ old.entries ++ map (moved_entry count) (own_entries true new.entries)
  pub rows : AreCountedOnce old.rows new.rows both.rows
  pub holds : both.holds ≡ old.holds ++ new.holds

-- The theorem that the statement (report) of a meter over two database files equals the statement
-- over a single file.
--
-- The theorem on a meter's statement (report) over two database files assumes that the second file
-- continues the meter from its state at the end of the first. The single file, whose statement
-- equals that over both files, has the meter's history of both.
abbrev pub BothFilesStateTheJoinedMeter : Type 0
BothFilesStateTheJoinedMeter = (zone : Zone) (range : DayRange) (old new both : MeterOver)
    → HaveOneJournal old new both
    → statement_over zone range (both_of old new) ≡ statement_over zone range both

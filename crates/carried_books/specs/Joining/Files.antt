-- An accounting register (a named counter) over several successive database files. The files join
-- if together they have one history of each meter.
--
-- A database file is represented by its records. A list of database files has the latest file
-- first.
use Rattle.std.specs.Prelude.{◌≡◌, ℕ, Bool, true, false, List, [], ◌∷◌, ◌++◌, Option, Some, None, is_some}
use Rattle.std.specs.List.{list_any}
use Rattle.interval_core.specs.Fold.{HasTaken}
use Rattle.interval_core.specs.declared.day.DayFault.TheVariants.{Zone as OutOfTurn}
use Rattle.interval_core.specs.declared.shares.Share.{Share}
use Rattle.interval_core.specs.declared.zone.Zone.{Zone}
use Rattle.office_events.specs.declared.facts.Fact.{Fact}
use Rattle.office_events.specs.declared.questions.Installation.{Installation}
use Rattle.office_books.specs.Facts.{register_of}
use Rattle.office_books.specs.Intervals.{rows_of_register}
use Rattle.office_books.specs.declared.spans.Span.{Span}
use Rattle.office_books.specs.Entries.{installations_of}
use Rattle.office_books.specs.Rows.{TakesAll}
use Rattle.office_books.specs.Spans.{rows_within}
use Rattle.carried_books.specs.Joining.Days.{HasNumber, TakesShare}
use Rattle.carried_books.specs.Joining.Meters.{AddMeters, AreApart}
use Rattle.carried_books.specs.declared.joining.days.JoinedDays.{JoinedDays}
use Rattle.carried_books.specs.declared.joining.files.JoinedFiles.{JoinedFiles}
use Rattle.carried_books.specs.declared.joining.files.Unjoined.{Unjoined}
use Rattle.carried_books.specs.declared.joining.files.Unjoined.TheVariants as unjoined

-- True if the database file records an accounting register (a named counter) with this name.
abbrev pub is_recorded : (register : List ℕ) → List Fact → Bool
is_recorded register facts = is_some (register_of facts register)

-- True if one of the database files in `files` records an accounting register (a named counter)
-- with this name.
abbrev pub is_recorded_in : (register : List ℕ) → (files : List (List Fact)) → Bool
is_recorded_in register files = list_any (is_recorded register) files

-- The energy intervals (energies of quarter hours) of an accounting register (a named counter) in
-- successive database files, in the order of the files.
abbrev pub rows_over : (register : List ℕ) → (files : List (List Fact)) → List Share
rows_over register [] = []
rows_over register (facts ∷ files) = rows_over register files ++ rows_of_register facts register

-- The energy intervals (energies of quarter hours) of an accounting register (a named counter) in
-- all database files, limited to a span of time.
abbrev pub rows_over_within : Span → (register : List ℕ) → (files : List (List Fact)) → List Share
rows_over_within span register [] = []
rows_over_within span register (facts ∷ files) =
    rows_over_within span register files ++ rows_within span (rows_of_register facts register)

-- The meters that are assigned to an accounting register (a named counter) in all database files,
-- file by file. The meters of each file are in the order of installation.
abbrev pub meters_over : (register : List ℕ) → (files : List (List Fact)) → List Installation
meters_over register [] = []
meters_over register (facts ∷ files) =
    meters_over register files ++ installations_of facts register

-- States that, if a database file records an accounting register (a named counter), each later file
-- records this register too.
abbrev pub StaysRecorded : (register : List ℕ) → (files : List (List Fact)) → Type 0
StaysRecorded register [] = Unit {0}
StaysRecorded register (facts ∷ files) =
    (is_recorded_in register files ≡ true → is_recorded register facts ≡ true)
    × StaysRecorded register files

-- Several database files join for an accounting register (a named counter): together they have one
-- history of the register's meters `meters`.
--
-- If one file records the accounting register (a named counter), then all later files record this
-- register. Each meter of a file continues a meter of the previous files, or begins after the
-- earlier meters were closed.
pub record AreJoined (register : List ℕ) (files : List (List Fact)) (meters : List Installation) :
    Type 0 where
  pub recorded : StaysRecorded register files
  pub joined : AddMeters [] (meters_over register files) meters

-- True if the database files join (have one history), and `kept` has their data on an accounting
-- register (a named counter). These data are the register's meters, and the sum of its intervals in
-- a span of time by civil day.
--
-- Nothing is stated of the sum of the energy intervals of a register (a named counter) by civil day
-- if their total energy does not fit in 128 bits.
pub record HasJoined (zone : Zone) (span : Span) (register : List ℕ) (files : List (List Fact))
    (kept : JoinedFiles) : Type 0 where
  pub recorded : kept.is_recorded ≡ is_recorded_in register files
  pub meters : AreJoined register files kept.meters.items
  pub zone_is : kept.days.zone ≡ zone
  pub works : kept.days.fault ≡ None
  pub days : HasNumber (rows_over_within span register files)
      → HasTaken zone (rows_over_within span register files) kept.days.fold

-- States that a database file's energy intervals (energies of quarter hours) were added to the
-- energies by day, or that one of the intervals was out of order. An interval is out of order if it
-- starts before an interval added earlier, or after the largest supported timestamp.
abbrev pub AddDays : (rows : List Share) → (old new : JoinedDays) → Option Unjoined → Type 0
AddDays rows old new None = TakesAll TakesShare old rows new × (new.fault ≡ None)
AddDays rows old new (Some unjoined.OutOfTurn) =
    TakesAll TakesShare old rows new × (new.fault ≡ Some OutOfTurn)
AddDays rows old new (Some why) = ⊥

-- A database file continues the meter history of the earlier files. The file records the register
-- (a named counter) if an earlier file does, and the file's meters continue the earlier meters or
-- begin after these were closed. The file's energy intervals were added to the collected ones.
pub record JoinsFile (span : Span) (register : List ℕ) (facts : List Fact)
    (old new : JoinedFiles) : Type 0 where
  pub recorded : new.is_recorded ≡ is_recorded register facts
  pub stays : old.is_recorded ≡ true → is_recorded register facts ≡ true
  pub meters : AddMeters old.meters.items (installations_of facts register) new.meters.items
  pub days : AddDays (rows_within span (rows_of_register facts register)) old.days new.days None

-- One of the energy intervals (energies of quarter hours) of a database file starts before an
-- interval that was added earlier, from this file or an earlier one. Or the interval starts after
-- the largest supported timestamp.
pub record IsOutOfTurn (span : Span) (register : List ℕ) (facts : List Fact)
    (old : JoinedFiles) : Type 0 where
  pub days : JoinedDays
  pub added : AddDays (rows_within span (rows_of_register facts register)) old.days days
      (Some unjoined.OutOfTurn)

-- The meters and the energy intervals of a database file were added to those of the earlier files.
pub record AddsBoth (span : Span) (register : List ℕ) (facts : List Fact)
    (old new : JoinedFiles) : Type 0 where
  pub recorded : new.is_recorded ≡ old.is_recorded
  pub meters : AddMeters old.meters.items (installations_of facts register) new.meters.items
  pub days : AddDays (rows_within span (rows_of_register facts register)) old.days new.days None

-- If adding a database file returns `None`, the file's meters and energy intervals were added to
-- the collected data. Any other result is the reason why the file does not continue the meter
-- history of the earlier files.
abbrev pub AddsRows : Span → (register : List ℕ) → (facts : List Fact) → (old new : JoinedFiles)
    → Option Unjoined → Type 0
AddsRows span register facts old new None = AddsBoth span register facts old new
AddsRows span register facts old new (Some unjoined.NotRecorded) = ⊥
AddsRows span register facts old new (Some (unjoined.Apart apart)) =
    AreApart old.meters.items (installations_of facts register) apart
AddsRows span register facts old new (Some unjoined.OutOfTurn) =
    IsOutOfTurn span register facts old

-- If adding a database file returns `None`, the file continues the history of the register (a named
-- counter) in the earlier files. Any other result is the reason why the file does not continue this
-- history.
abbrev pub Joins : Span → (register : List ℕ) → (facts : List Fact) → (old new : JoinedFiles)
    → Option Unjoined → Type 0
Joins span register facts old new None = JoinsFile span register facts old new
Joins span register facts old new (Some unjoined.NotRecorded) =
    (old.is_recorded ≡ true) × (is_recorded register facts ≡ false)
Joins span register facts old new (Some (unjoined.Apart apart)) =
    AreApart old.meters.items (installations_of facts register) apart
Joins span register facts old new (Some unjoined.OutOfTurn) =
    IsOutOfTurn span register facts old

-- The new database file does not continue the history of the register (a named counter) in the
-- earlier files, for the reason `why`.
abbrev pub DoesNotJoin : Span → (register : List ℕ) → (facts : List Fact) → (old : JoinedFiles)
    → Unjoined → Type 0
DoesNotJoin span register facts old why =
    (new : JoinedFiles) × Joins span register facts old new (Some why)

-- Suppose that adding a database file returns `None`, and the earlier files join (have one history
-- of the register (a named counter)). Then these files and the added file join too. For any other
-- result, nothing is stated.
abbrev pub AllJoin : Span → (register : List ℕ) → (facts : List Fact) → (old new : JoinedFiles)
    → Option Unjoined → Type 0
AllJoin span register facts old new None = (zone : Zone) (files : List (List Fact))
    → HasJoined zone span register files old → HasJoined zone span register (facts ∷ files) new
AllJoin span register facts old new (Some why) = Unit {0}

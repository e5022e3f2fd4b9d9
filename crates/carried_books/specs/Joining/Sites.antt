-- The latest meter of an accounting register (a named counter) over earlier database files and the
-- file of the running program.
--
-- Each list of meters of a register (a named counter) is in the order of their installation.
use Rattle.std.specs.Prelude.{◌≡◌, ◌-◌, Bool, not, ◌&&◌, if◌then◌else◌, ℕ, length, List, [], ◌∷◌, Option, Some, None}
use Rattle.std.specs.List.{slice_get}
use Rattle.std.specs.Option.{option_map}
use Rattle.office_events.specs.declared.facts.Fact.{Fact}
use Rattle.office_events.specs.declared.questions.Installation.{Installation}
use Rattle.office_books.specs.Facts.{same}
use Rattle.office_books.specs.Lawful.{AreLawful}
use Rattle.office_books.specs.Meters.{installation_at}
use Rattle.office_books.specs.Entries.{installations_of}
use Rattle.carried_books.specs.Joining.Meters.{AddMeters, as_one}
use Rattle.carried_books.specs.declared.joining.earlier.EarlierRegister.{EarlierRegister}
use Rattle.carried_books.specs.declared.joining.sites.LatestMeter.{LatestMeter}

-- The meters that earlier database files assign to an accounting register (a named counter), each
-- with its data from all of these files. The list is empty if no file has the register.
abbrev pub earlier_meters : List EarlierRegister → (register : List ℕ) → List Installation
earlier_meters [] register = []
earlier_meters (one ∷ more) register =
    if same one.name register then one.meters.items else earlier_meters more register

-- True if the meter `stands` was still open at the end of the earlier database files, and the
-- current file's meter `row` has the name of `stands`.
abbrev pub is_left : (stands row : Installation) → Bool
is_left stands row = not stands.ended && same row.opening.meter stands.opening.meter

-- The latest meter of a register (a named counter) if only earlier database files have a meter of
-- this register. All energy of the meter is from these files.
abbrev pub of_earlier : Installation → LatestMeter
of_earlier stands = record { meter = stands; earlier = Some stands.total }

-- The latest meter of a register (a named counter) if the meter `row` begins in the current
-- database file. The meter has no energy from earlier files.
abbrev pub of_office : Installation → LatestMeter
of_office row = record { meter = row; earlier = None }

-- The latest meter of a register (a named counter). The current database file has the meter `row`,
-- and the last meter of the earlier files is `stands`.
--
-- If the current file's meter `row` continues the earlier files' meter `stands`, the register's
-- latest meter is one meter over all database files.
abbrev pub of_both : (stands row : Installation) → LatestMeter
of_both stands row =
    if is_left stands row
    then (record { meter = as_one stands row; earlier = Some stands.total })
    else of_office row

-- The latest meter of a register (a named counter) over all database files, from the earlier files'
-- last meter and the current file's latest meter. `None` if neither of these meters exists.
abbrev pub latest : (stands row : Option Installation) → Option LatestMeter
latest None None = None
latest None (Some row) = Some (of_office row)
latest (Some stands) None = Some (of_earlier stands)
latest (Some stands) (Some row) = Some (of_both stands row)

-- The last meter of a list; `None` if the list is empty.
abbrev pub last_of : List Installation → Option Installation
last_of meters = slice_get meters (length meters - 1)

-- The latest meter of an accounting register (a named counter) over all database files. It is found
-- from the earlier files' meters and the current file's latest meter.
abbrev pub latest_meter : (earlier : List Installation) → (row : Option Installation)
    → Option LatestMeter
latest_meter earlier row = latest (last_of earlier) row

-- The opening (first entry) and the state of the latest meter of an accounting register (a named
-- counter).
abbrev pub meter_of : LatestMeter → Installation
meter_of reported = reported.meter

-- The theorem on the latest meter of an accounting register (a named counter). Suppose that the
-- current file's meters continue those of the earlier files, or begin after these were closed. Then
-- the reported meter is the last meter of all files.
abbrev pub LatestIsOfAllFiles : Type 0
LatestIsOfAllFiles = (register : List ℕ) (facts : List Fact) (earlier all : List Installation)
    → AreLawful facts
    → AddMeters earlier (installations_of facts register) all
    → option_map meter_of (latest_meter earlier (installation_at facts register)) ≡ last_of all

-- The energy of meters and accounting registers (energy counters) by quarter hour and by civil day.
use Rattle.std.specs.Prelude.{ℕ, List, [], reverse, Option, Some, None}
use Rattle.std.specs.List.{filter, flat_map}
use Rattle.interval_core.specs.declared.shares.Share.{Share}
use Rattle.interval_core.specs.declared.zone.Zone.{Zone}
use Rattle.interval_core.specs.Days.{DayAccount, AreAccounts}
use Rattle.meter_journal.specs.Books as books
use Rattle.office_events.specs.declared.facts.Opening.{Opening}
use Rattle.office_events.specs.declared.facts.Fact.{Fact}
use Rattle.office_books.specs.Facts.{same, openings_in, opening_of}
use Rattle.office_books.specs.Meters.{installed, journal_of}

-- The interval rows (energy by quarter hour) of the meter with a given opening (installation
-- record), in order of time. A quarter hour has a row if it overlaps the time between two
-- consecutive valid (not voided) entries.
abbrev pub rows_of_opening : List Fact → Opening → List Share
rows_of_opening facts opening =
    books.interval_rows (installed opening) (journal_of facts opening.meter)

-- The interval rows (energy by quarter hour) of the meter with a given opening (installation
-- record), or no rows for `None`.
abbrev pub rows_of_installed : List Fact → Option Opening → List Share
rows_of_installed facts None = []
rows_of_installed facts (Some opening) = rows_of_opening facts opening

-- The interval rows (energy by quarter hour) of the meter with a given name. The list is empty if
-- no meter has the name.
abbrev pub rows_of_meter : List Fact → List ℕ → List Share
rows_of_meter facts meter = rows_of_installed facts (opening_of facts meter)

-- The openings (installation records) of all meters that were installed at the accounting register
-- (an energy counter) with a given name. The earliest opening comes first.
abbrev pub installations_at : List Fact → List ℕ → List Opening
installations_at facts register =
    reverse (filter (λ opening. same opening.register register) (openings_in facts))

-- The interval rows (energy by quarter hour) of all meters of an accounting register (an energy
-- counter), one meter after another. If the records follow the rules for adding records
-- (`AreLawful`), the start times of the rows never decrease.
abbrev pub rows_of_register : List Fact → List ℕ → List Share
rows_of_register facts register = flat_map (rows_of_opening facts) (installations_at facts register)

-- True if the list of days has the energy of an accounting register (an energy counter) by civil
-- day of the time zone.
abbrev pub AreDaysOf : Zone → List Fact → List ℕ → List DayAccount → Type 0
AreDaysOf zone facts register days = AreAccounts zone (rows_of_register facts register) days

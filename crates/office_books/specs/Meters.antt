-- The meters in the records: their journals (histories), their states, and the meters that were
-- installed at each accounting register (an energy counter).
use Rattle.std.specs.Prelude.{ℕ, Bool, List, Option, Some, None, if◌then◌else◌}
use Rattle.std.specs.List.{filter_map}
use Rattle.std.specs.Option.{option_map, option_and_then}
use Rattle.energy_core.specs.declared.entries.Last.{Last}
use Rattle.energy_core.specs.declared.entries.Entry.{Entry}
use Rattle.energy_core.specs.declared.entries.Step.{Step}
use Rattle.meter_journal.specs.declared.lines.Installed.{Installed}
use Rattle.meter_journal.specs.Books as books
use Rattle.meter_journal.specs.Journal as journal
use Rattle.meter_journal.specs.declared.lines.EntryRow.{EntryRow}
use Rattle.office_events.specs.declared.facts.Opening.{Opening}
use Rattle.office_events.specs.declared.facts.HeldReading.{HeldReading}
use Rattle.office_events.specs.declared.facts.Fact.{Fact}
use Rattle.office_events.specs.declared.facts.Fact.TheVariants as fact
use Rattle.office_events.specs.declared.questions.Installation.{Installation}
use Rattle.office_events.specs.declared.questions.EntryContext.{EntryContext}
use Rattle.office_books.specs.Facts.{same, opening_of, installed_at}

-- The line of a rejected reading in the journal (history) of the reading's meter, with the cause of
-- the rejection.
abbrev pub held_line : HeldReading → journal.Line
held_line held = journal.Held (record { at = held.at; raw = held.raw; sf = held.sf }) held.cause

-- The line that a record adds to the journal (history) of a meter. `None` for records of other
-- meters and for records that add no line.
abbrev pub line_of : (meter : List ℕ) → Fact → Option journal.Line
line_of meter (fact.Entry booked) =
    if same booked.meter meter then Some (journal.Entered booked.kind booked.entry) else None
line_of meter (fact.Hold held) =
    if same held.meter meter then Some (held_line held) else None
line_of meter (fact.Void voided) =
    if same voided.meter meter then Some (journal.Voided voided.place) else None
line_of meter _ = None

-- The journal (history) of the meter with a given name. The latest line comes first.
abbrev pub journal_of : List Fact → (meter : List ℕ) → journal.Journal
journal_of facts meter = filter_map (line_of meter) facts

-- The state of a meter's counter when the meter was installed: the time, the counter value and the
-- scale factor.
abbrev pub opened : Opening → Last
opened opening = record { at = opening.at; raw = opening.raw; sf = opening.sf }

-- An installed meter: its range in counts, its greatest power in W, and the state of its counter at
-- the installation.
abbrev pub installed : Opening → Installed
installed opening =
    record { range = opening.range; ceiling = opening.ceiling; opening = opened opening }

-- The entry rows of a meter after its opening (first entry), including voided (cancelled) entries.
abbrev pub rows_of : List Fact → Opening → List EntryRow
rows_of facts opening = journal.rows_of (opened opening) (journal_of facts opening.meter)

-- The valid entries of a meter, without its opening (first entry) and without voided (cancelled)
-- entries.
abbrev pub entries_of : List Fact → Opening → List Entry
entries_of facts opening = journal.entries_of (opened opening) (journal_of facts opening.meter)

-- True if a meter was closed.
abbrev pub is_ended : List Fact → Opening → Bool
is_ended facts opening = journal.is_ended (journal_of facts opening.meter)

-- The steps from each valid (not voided) entry of a meter to the next valid entry, each with its
-- energy. The latest step comes first.
abbrev pub steps_in : List Fact → Opening → List Step
steps_in facts opening = books.steps_in (installed opening) (journal_of facts opening.meter)

-- The state of a meter with a given opening (installation record) after a list of valid (not
-- voided) entries was added.
abbrev pub standing : Opening → List Entry → (ended : Bool) → Installation
standing opening es ended = record {
  opening = opening;
  last = books.last_after (installed opening) es;
  total = books.total_after (installed opening) es;
  ended = ended;
}

-- The state of a meter: its opening (installation record), its counter, its total energy in mWh,
-- and whether it was closed.
abbrev pub installation_of : List Fact → Opening → Installation
installation_of facts opening = standing opening (entries_of facts opening) (is_ended facts opening)

-- The state of the meter with a given name, or `None` if no meter has the name.
abbrev pub meter_of : List Fact → List ℕ → Option Installation
meter_of facts meter = option_map (installation_of facts) (opening_of facts meter)

-- The state of the latest meter, open or closed, that was installed at the accounting register (an
-- energy counter) with a given name. `None` if no meter was installed there.
abbrev pub installation_at : List Fact → List ℕ → Option Installation
installation_at facts register = option_map (installation_of facts) (installed_at facts register)

-- The given state of a meter, or `None` if the meter was closed.
abbrev pub if_open : Installation → Option Installation
if_open row = if row.ended then None else Some row

-- The state of the open meter at the accounting register (an energy counter) with a given name, or
-- `None` if no meter is open there.
abbrev pub open_at : List Fact → List ℕ → Option Installation
open_at facts register = option_and_then if_open (installation_at facts register)

-- An entry in its context: the meter's state before the entry, the entry's row, and the next valid
-- (not voided) entry.
abbrev pub place_in : List Fact → Opening → journal.Around → EntryContext
place_in facts opening around = record {
  before = standing opening (journal.entries_in around.before) (is_ended facts opening);
  row = around.row;
  next = around.next;
}

-- The entry with the sequence number `place`, at least 2, of the meter with a given name. `None` if
-- no such entry exists.
abbrev pub entry_at : List Fact → (meter : List ℕ) → (place : ℕ) → Option EntryContext
entry_at facts meter place =
    option_and_then
    (λ opening. option_map (place_in facts opening)
    (journal.row_at place (rows_of facts opening))) (opening_of facts meter)

-- Defines the printed lines of an audit: one line for each discrepancy, and a last line. Each
-- definition `with_..` appends text to a given text.
use Rattle.std.specs.Prelude.{◌+◌, ℕ, ◌==◌, Bool, true, false, List, [], ◌∷◌, ◌++◌, length, Option, Some, None, if◌then◌else◌}
use Rattle.std.specs.Prelude.{codes, decimal, String, string_bytes}
use Rattle.std.specs.Fmt.{signed_decimal}
use Rattle.energy_core.specs.declared.entries.Last.{Last}
use Rattle.energy_core.specs.Verdict.{cause_number}
use Rattle.energy_core.specs.Admission.{fault_number}
use Rattle.meter_journal.specs.declared.audit.faults.RowFault.{RowFault}
use Rattle.meter_journal.specs.declared.audit.faults.RowFault.TheVariants as cause
use Rattle.meter_journal.specs.declared.audit.intervals.IntervalFault.{IntervalFault}
use Rattle.meter_journal.specs.declared.audit.intervals.IntervalFault.TheVariants as fault
use Rattle.table_audit.specs.declared.differences.Difference.{Difference}
use Rattle.table_audit.specs.declared.differences.Difference.TheVariants as difference
use Rattle.table_audit.specs.declared.differences.NamedTable.{NamedTable}
use Rattle.table_audit.specs.declared.differences.NamedTable.TheVariants as named
use Rattle.table_audit.specs.declared.differences.PollFault.{PollFault}
use Rattle.table_audit.specs.declared.differences.PollFault.TheVariants as of_poll
use Rattle.table_audit.specs.declared.differences.Table.{Table}
use Rattle.table_audit.specs.declared.differences.Table.TheVariants as table
use Rattle.table_audit.specs.declared.findings.Counts.{Counts}
use Rattle.table_audit.specs.declared.findings.Finding.{Finding}
use Rattle.table_audit.specs.declared.findings.Findings.{Findings}
use Rattle.table_audit.specs.Meters.{up_to_most}
use Rattle.table_audit.specs.Values.{number_of, energy_text, moment_text}

-- The SQL name of a table that has rows of meters.
abbrev pub table_name : Table → List ℕ
table_name table.Installations = codes "installations"
table_name table.Ranges = codes "ranges"
table_name table.Entries = codes "entries"
table_name table.Voids = codes "voids"
table_name table.Intervals = codes "intervals"

-- Appends to a text the reason for which the rules for entries reject a meter entry, given the
-- earlier entries. Some reasons are printed with a numeric code.
abbrev pub with_cause : List ℕ → RowFault → List ℕ
with_cause text (cause.Place wanted) = text ++ codes "the next place is " ++ decimal wanted
with_cause text cause.OpenedAgain = text ++ codes "the meter was opened before"
with_cause text cause.AfterClosing = text ++ codes "the meter was closed before"
with_cause text cause.CannotBeVoided = text ++ codes "a void names it, and it is no reading"
with_cause text cause.Unused =
    text ++ codes "a column that its kind has no use for is not 0"
with_cause text (cause.Scale wanted) =
    text ++ codes "the scale factor there is " ++ signed_decimal wanted
with_cause text (cause.Held why) =
    text ++ codes "it would be held, cause " ++ decimal (cause_number why)
with_cause text (cause.Rolls wanted) =
    text ++ codes "the rollovers there are " ++ decimal wanted
with_cause text (cause.Refused why) =
    text ++ codes "it would be refused, fault " ++ decimal (fault_number why)

-- Appends the prefix `before`, then the stored energy and the energy that follows from the meter's
-- entries.
abbrev pub with_energies : List ℕ → (before : List ℕ) → (has wanted : ℕ) → List ℕ
with_energies text before has wanted =
    text ++ before ++ energy_text has ++ codes ", entries give " ++ energy_text wanted

-- Appends in which way the stored energy of a quarter hour differs from the energy that follows
-- from the meter's entries.
abbrev pub with_interval : List ℕ → IntervalFault → List ℕ
with_interval text (fault.Missing start wanted) =
    text ++ codes "interval " ++ moment_text start ++ codes " has no row, entries give "
    ++ energy_text wanted
with_interval text (fault.Unwanted start has) =
    text ++ codes "interval " ++ moment_text start ++ codes " has " ++ energy_text has
    ++ codes ", entries give none"
with_interval text (fault.Differs start has wanted) =
    with_energies (text ++ codes "interval " ++ moment_text start) (codes " has ") has wanted

-- Appends to a text the prefix `before`, then a counter's timestamp, raw value and scale factor.
abbrev pub with_stand : List ℕ → (before : List ℕ) → Last → List ℕ
with_stand text before last =
    text ++ before ++ moment_text last.at ++ codes " " ++ decimal last.raw ++ codes " "
    ++ signed_decimal last.sf

-- Appends to a text the words that say that the void of the entry at index `place` is earlier than
-- the entry.
abbrev pub with_early_void : List ℕ → (place moment entered : ℕ) → List ℕ
with_early_void text place moment entered =
    text ++ codes "void " ++ decimal place ++ codes " at " ++ moment_text moment
    ++ codes " is before its entry at " ++ moment_text entered

-- Appends to a text the words for a closed flag that disagrees with the meter's entries.
abbrev pub with_ended : List ℕ → Bool → List ℕ
with_ended text true = text ++ codes "is not ended, entries end it"
with_ended text false = text ++ codes "is ended, entries don't end it"

-- Appends to a text the number of a poll, and what is wrong with the poll.
abbrev pub with_poll : List ℕ → (poll : ℕ) → PollFault → List ℕ
with_poll text poll of_poll.OutOfRange =
    text ++ codes "poll " ++ decimal poll ++ codes " has a value that none may have"
with_poll text poll of_poll.EndOutOfRange =
    text ++ codes "poll " ++ decimal poll ++ codes " outcome has a value that none may have"
with_poll text poll of_poll.OutOfOrder =
    text ++ codes "poll " ++ decimal poll ++ codes " is out of order"
with_poll text poll of_poll.EndedBefore =
    text ++ codes "poll " ++ decimal poll ++ codes " outcome comes before the poll"
with_poll text poll of_poll.StartedBefore =
    text ++ codes "poll " ++ decimal poll ++ codes " starts before an earlier poll"

-- Appends to a text the words that say that the polls with the numbers from `first` to `last` are
-- missing.
abbrev pub with_missing : List ℕ → (first last : ℕ) → List ℕ
with_missing text first last =
    if first == last then text ++ codes "poll " ++ decimal first ++ codes " is missing"
    else text ++ codes "polls " ++ decimal first ++ codes " to " ++ decimal last
    ++ codes " are missing"

-- The SQL name of a table whose rows have names of their own.
abbrev pub named_table : NamedTable → List ℕ
named_table named.Installations = codes "installations"
named_table named.Devices = codes "devices"
named_table named.Points = codes "points"
named_table named.Registers = codes "registers"

-- The text after the number of a row without a valid name.
abbrev pub unnamed_text : NamedTable → List ℕ
unnamed_text named.Installations = codes " of installations names no meter"
unnamed_text named.Devices = codes " of devices names no device"
unnamed_text named.Points = codes " of points names no point"
unnamed_text named.Registers = codes " of registers names no register"

-- Appends the text that says that two meters of a register overlap.
abbrev pub with_overlap : List ℕ → (register earlier later : List ℕ) → List ℕ
with_overlap text register earlier later =
    text ++ codes "register " ++ register ++ codes ": meters " ++ earlier ++ codes " and "
    ++ later ++ codes " overlap"

-- Appends the printed text of a discrepancy that an audit found.
abbrev pub with_difference : List ℕ → Difference → List ℕ
with_difference text (difference.OutOfRange name) =
    text ++ codes "has a row in " ++ table_name name ++ codes " with a value that none may have"
with_difference text (difference.Unnamed of_table row) =
    text ++ codes "row " ++ decimal row ++ unnamed_text of_table
with_difference text (difference.Unreadable of_table row) =
    text ++ named_table of_table ++ codes " row " ++ decimal row
    ++ codes " has a value out of its range"
with_difference text (difference.Installation has wanted) =
    text ++ codes "place has " ++ decimal has ++ codes ", the next is " ++ decimal wanted
with_difference text difference.NotOpened = text ++ codes "is opened by no lawful entry"
with_difference text (difference.Entry place why) =
    with_cause (text ++ codes "entry " ++ decimal place ++ codes " can't come there: ") why
with_difference text (difference.Void place) =
    text ++ codes "void of entry " ++ decimal place
    ++ codes " names none, or one that another names"
with_difference text (difference.EarlyVoid place moment entered) =
    with_early_void text place moment entered
with_difference text (difference.Interval differs) = with_interval text differs
with_difference text (difference.Last has wanted) =
    with_stand (with_stand text (codes "last has ") has) (codes ", entries give ") wanted
with_difference text (difference.Total has wanted) =
    with_energies text (codes "total has ") has wanted
with_difference text (difference.Ended wanted) = with_ended text wanted
with_difference text (difference.NoPolls first last) = with_missing text first last
with_difference text (difference.Poll poll of_it) = with_poll text poll of_it
with_difference text (difference.Overlap register earlier later) =
    with_overlap text register earlier later

-- Appends to a text the meter's name of an audit's finding, if the finding has a meter's name.
abbrev pub with_meter : {Z : Type 0} → List ℕ → Option (String Z) → List ℕ
with_meter text None = text
with_meter text (Some name) = text ++ codes "meter " ++ string_bytes name ++ codes " "

-- Appends to a text the printed line of an audit's finding: the name of the meter, if the finding
-- has one, and the discrepancy.
abbrev pub with_line : List ℕ → Finding → List ℕ
with_line text finding =
    with_difference (with_meter text finding.meter) finding.difference ++ codes "\n"

abbrev pub with_lines : List ℕ → List Finding → List ℕ
with_lines text [] = text
with_lines text (finding ∷ findings) = with_lines (with_line text finding) findings

-- If the number of unprinted discrepancies is not 0, appends a line with this number to the text of
-- an audit.
abbrev pub with_more : List ℕ → ℕ → List ℕ
with_more text more =
    if more == 0 then text else text ++ codes "and " ++ decimal more ++ codes " more\n"

-- Appends to a text the last line of an audit that found no discrepancy, with the counts of rows.
abbrev pub with_counts : List ℕ → Counts → List ℕ
with_counts text counts =
    text ++ codes "fine: " ++ number_of counts.meters (codes "meter") (codes "meters") ++ codes ", "
    ++ number_of counts.entries (codes "entry") (codes "entries") ++ codes ", "
    ++ number_of counts.intervals (codes "interval") (codes "intervals") ++ codes ", "
    ++ number_of counts.polls (codes "poll") (codes "polls") ++ codes "\n"

-- Appends to a text the last line of an audit that found discrepancies, with the number of
-- discrepancies.
abbrev pub with_total : List ℕ → ℕ → List ℕ
with_total text all =
    text ++ number_of all (codes "difference") (codes "differences") ++ codes "\n"

-- Appends to a text the last line of an audit: the word `fine` with the counts of rows, or the
-- number of discrepancies.
abbrev pub with_end : List ℕ → Findings → List ℕ
with_end text found =
    if length found.first.items == 0 then with_counts text found.counts
    else with_total text (up_to_most (length found.first.items + found.more))

-- Appends to a text all printed lines of an audit.
abbrev pub with_findings : List ℕ → Findings → List ℕ
with_findings text found =
    with_end (with_more (with_lines text found.first.items) found.more) found

-- Defines the JSON text of an audit: one object a line for each discrepancy, and a last object with
-- the verdict. Names consist of letters, digits, `_` and `-`, so JSON need not escape them.
use Rattle.std.specs.Prelude.{ℕ, ◌+◌, ◌==◌, Bool, true, false, List, [], ◌∷◌, ◌++◌, length, Option, Some, None, if◌then◌else◌}
use Rattle.std.specs.Prelude.{codes, decimal, String, string_bytes}
use Rattle.std.specs.Fmt.{signed_decimal}
use Rattle.energy_core.specs.declared.entries.Last.{Last}
use Rattle.meter_journal.specs.declared.audit.intervals.IntervalFault.{IntervalFault}
use Rattle.meter_journal.specs.declared.audit.intervals.IntervalFault.TheVariants as fault
use Rattle.table_audit.specs.declared.differences.Difference.{Difference}
use Rattle.table_audit.specs.declared.differences.Difference.TheVariants as difference
use Rattle.table_audit.specs.declared.differences.PollFault.{PollFault}
use Rattle.table_audit.specs.declared.differences.PollFault.TheVariants as of_poll
use Rattle.table_audit.specs.declared.findings.Counts.{Counts}
use Rattle.table_audit.specs.declared.findings.Finding.{Finding}
use Rattle.table_audit.specs.declared.findings.Findings.{Findings}
use Rattle.table_audit.specs.Meters.{up_to_most}
use Rattle.table_audit.specs.Texts.{named_table, table_name, with_cause}

-- The value of the member `kind`, which names the kind of a discrepancy.
abbrev pub kind_word : Difference → List ℕ
kind_word (difference.OutOfRange name) = codes "range"
kind_word (difference.Unnamed name row) = codes "unnamed"
kind_word (difference.Unreadable name row) = codes "unreadable"
kind_word (difference.Installation has wanted) = codes "place"
kind_word difference.NotOpened = codes "opening"
kind_word (difference.Entry place why) = codes "entry"
kind_word (difference.Void place) = codes "void"
kind_word (difference.EarlyVoid place moment entered) = codes "void_early"
kind_word (difference.Interval differs) = codes "interval"
kind_word (difference.Last has wanted) = codes "last"
kind_word (difference.Total has wanted) = codes "total"
kind_word (difference.Ended wanted) = codes "ended"
kind_word (difference.NoPolls first last) = codes "polls_missing"
kind_word (difference.Poll poll of_it) = codes "poll"
kind_word (difference.Overlap register earlier later) = codes "overlap"

-- Appends the text `before`, and a word in quotes.
abbrev pub with_quoted : List ℕ → (before word : List ℕ) → List ℕ
with_quoted text before word = text ++ before ++ codes "\"" ++ word ++ codes "\""

-- Appends the member `has`, an energy in mWh as a text of decimal digits.
abbrev pub with_has : List ℕ → (mwh : ℕ) → List ℕ
with_has text mwh = text ++ codes ",\"has\":\"" ++ decimal mwh ++ codes "\""

-- Appends the member `expected`, an energy in mWh as a text of decimal digits.
abbrev pub with_expected : List ℕ → (mwh : ℕ) → List ℕ
with_expected text mwh = text ++ codes ",\"expected\":\"" ++ decimal mwh ++ codes "\""

-- Appends the members about the energy of a quarter hour. An energy that is missing is `null`.
abbrev pub with_interval : List ℕ → IntervalFault → List ℕ
with_interval text (fault.Missing start wanted) =
    with_expected (text ++ codes ",\"start\":" ++ decimal start ++ codes ",\"has\":null") wanted
with_interval text (fault.Unwanted start has) =
    with_has (text ++ codes ",\"start\":" ++ decimal start) has ++ codes ",\"expected\":null"
with_interval text (fault.Differs start has wanted) =
    with_expected (with_has (text ++ codes ",\"start\":" ++ decimal start) has) wanted

-- Appends the text `before`, and a counter as an object with its timestamp, raw value and scale
-- factor.
abbrev pub with_stand : List ℕ → (before : List ℕ) → Last → List ℕ
with_stand text before last =
    text ++ before ++ codes "{\"at\":" ++ decimal last.at ++ codes ",\"raw\":" ++ decimal last.raw
    ++ codes ",\"scale\":" ++ signed_decimal last.sf ++ codes "}"

-- The members of a closed flag that should have the given value.
abbrev pub ended_members : (wanted : Bool) → List ℕ
ended_members true = codes ",\"has\":false,\"expected\":true"
ended_members false = codes ",\"has\":true,\"expected\":false"

-- The value of the member `fault`, which says what is wrong with a poll.
abbrev pub poll_word : PollFault → List ℕ
poll_word of_poll.OutOfRange = codes "value"
poll_word of_poll.EndOutOfRange = codes "outcome_value"
poll_word of_poll.OutOfOrder = codes "order"
poll_word of_poll.EndedBefore = codes "outcome_before"
poll_word of_poll.StartedBefore = codes "start_before"

-- Appends the members of a discrepancy after its kind and its meter.
abbrev pub with_members : List ℕ → Difference → List ℕ
with_members text (difference.OutOfRange name) =
    with_quoted text (codes ",\"table\":") (table_name name)
with_members text (difference.Unnamed name row) =
    with_quoted text (codes ",\"table\":") (named_table name) ++ codes ",\"row\":" ++ decimal row
with_members text (difference.Unreadable name row) =
    with_quoted text (codes ",\"table\":") (named_table name) ++ codes ",\"row\":" ++ decimal row
with_members text (difference.Installation has wanted) =
    text ++ codes ",\"has\":" ++ decimal has ++ codes ",\"expected\":" ++ decimal wanted
with_members text difference.NotOpened = text
with_members text (difference.Entry place why) =
    with_cause (text ++ codes ",\"index\":" ++ decimal place ++ codes ",\"reason\":\"") why
    ++ codes "\""
with_members text (difference.Void place) = text ++ codes ",\"index\":" ++ decimal place
with_members text (difference.EarlyVoid place moment entered) =
    text ++ codes ",\"index\":" ++ decimal place ++ codes ",\"at\":" ++ decimal moment
    ++ codes ",\"entered\":" ++ decimal entered
with_members text (difference.Interval differs) = with_interval text differs
with_members text (difference.Last has wanted) =
    with_stand (with_stand text (codes ",\"has\":") has) (codes ",\"expected\":") wanted
with_members text (difference.Total has wanted) = with_expected (with_has text has) wanted
with_members text (difference.Ended wanted) = text ++ ended_members wanted
with_members text (difference.NoPolls first last) =
    text ++ codes ",\"first\":" ++ decimal first ++ codes ",\"last\":" ++ decimal last
with_members text (difference.Poll poll of_it) =
    with_quoted (text ++ codes ",\"poll\":" ++ decimal poll) (codes ",\"fault\":") (poll_word of_it)
with_members text (difference.Overlap register earlier later) =
    with_quoted (with_quoted (with_quoted text (codes ",\"register\":") register)
    (codes ",\"earlier\":") earlier) (codes ",\"later\":") later

-- Appends the member `meter`, if the finding has a meter's name.
abbrev pub with_meter : {Z : Type 0} → List ℕ → Option (String Z) → List ℕ
with_meter text None = text
with_meter text (Some name) = with_quoted text (codes ",\"meter\":") (string_bytes name)

-- Appends the object of an audit's finding, and the end of its line.
abbrev pub with_object : List ℕ → Finding → List ℕ
with_object text finding =
    with_members (with_meter (with_quoted text (codes "{\"kind\":") (kind_word finding.difference))
    finding.meter) finding.difference ++ codes "}\n"

-- Appends the objects of an audit's findings, in order.
abbrev pub with_objects : List ℕ → List Finding → List ℕ
with_objects text [] = text
with_objects text (finding ∷ findings) = with_objects (with_object text finding) findings

-- Appends the last object of an audit that found no discrepancy, with the counts of rows.
abbrev pub with_counts : List ℕ → Counts → List ℕ
with_counts text counts =
    text ++ codes "{\"fine\":true,\"meters\":" ++ decimal counts.meters ++ codes ",\"entries\":"
    ++ decimal counts.entries ++ codes ",\"intervals\":" ++ decimal counts.intervals
    ++ codes ",\"polls\":" ++ decimal counts.polls ++ codes "}\n"

-- Appends the last object of an audit that found discrepancies, with the number of discrepancies.
-- It also counts the discrepancies that have no object.
abbrev pub with_total : List ℕ → ℕ → List ℕ
with_total text all = text ++ codes "{\"fine\":false,\"differences\":" ++ decimal all ++ codes "}\n"

-- Appends the last object of an audit: the verdict with the counts of rows, or with the number of
-- discrepancies.
abbrev pub with_verdict : List ℕ → Findings → List ℕ
with_verdict text found =
    if length found.first.items == 0 then with_counts text found.counts
    else with_total text (up_to_most (length found.first.items + found.more))

-- Appends the whole JSON text of an audit.
abbrev pub with_json : List ℕ → Findings → List ℕ
with_json text found = with_verdict (with_objects text found.first.items) found

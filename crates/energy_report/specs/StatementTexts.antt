-- The text of a statement (a report to check bills): a row for each meter, in one of three formats,
-- with energies in mWh or kWh. Timestamps are in seconds since 1970-01-01 UTC.
use Rattle.std.specs.Prelude.{ℕ, Bool, true, false, not, ◌==◌, ◌++◌, List, [], ◌∷◌, length, codes, Option, Some, None, if◌then◌else◌}
use Rattle.std.specs.List.{filter, join_by}
use Rattle.std.specs.Fmt.{decimal}
use Rattle.energy_core.specs.declared.entries.Last.{Last}
use Rattle.energy_core.specs.Verdict.{cause_number}
use Rattle.energy_report.specs.declared.form.EnergyUnit.{EnergyUnit}
use Rattle.energy_report.specs.declared.form.Format.{Format}
use Rattle.energy_report.specs.declared.form.Format.TheVariants.{Text, Csv, Json}
use Rattle.energy_report.specs.declared.form.StatementForm.{StatementForm}
use Rattle.energy_report.specs.declared.held_counts.HeldCount.{HeldCount}
use Rattle.energy_report.specs.declared.held_counts.RejectedCounts.{RejectedCounts}
use Rattle.energy_report.specs.declared.meter_statement.MeterStatement.{MeterStatement}
use Rattle.energy_report.specs.declared.tallies.EntryTally.{EntryTally}
use Rattle.energy_report.specs.Held.{by_cause}
use Rattle.energy_report.specs.Statements.{worth_of}
use Rattle.energy_report.specs.Texts.{ending_by, energy_text, separator_by, unit_word}

-- Definitions for the texts of the state of a counter: its timestamp and its value.

-- The text that is printed instead of a counter's state if the meter has no valid (not voided)
-- entry in the requested range of days.
abbrev pub nothing : Format → List ℕ
nothing Text = codes "-"
nothing Csv = []
nothing Json = codes "null"

-- The quotation mark around a value in JSON. In other formats, this text is empty.
abbrev pub quote : Format → List ℕ
quote Text = []
quote Csv = []
quote Json = codes "\""

-- The timestamp of a counter's state in an output format. If there is no state, the text is
-- `nothing`, such as `-`.
abbrev pub moment_text : Format → Option Last → List ℕ
moment_text format None = nothing format
moment_text format (Some stand) = decimal stand.at

-- The energy that a counter's state shows, in an output format and a unit. If there is no state,
-- the text is `nothing`, such as `-`.
abbrev pub worth_text : Format → EnergyUnit → Option Last → List ℕ
worth_text format unit None = nothing format
worth_text format unit (Some stand) =
    quote format ++ energy_text unit (worth_of stand) ++ quote format

-- Definitions for the texts of counts of rejected readings, such as `2=3,5=1` (three readings for
-- cause 2, one for cause 5).

-- The text between two counts of rejected readings. In CSV, the separator is not a comma, because
-- commas separate fields.
abbrev pub held_mark : Format → List ℕ
held_mark Text = codes ","
held_mark Csv = codes ";"
held_mark Json = codes ","

-- The text between a cause of rejection and its count. Except in JSON, this text is not a colon,
-- because spreadsheets read `2:3` as a time.
abbrev pub count_mark : Format → List ℕ
count_mark Text = codes "="
count_mark Csv = codes "="
count_mark Json = codes ":"

-- The text of one count of rejected readings: the numeric code of the cause, and the number of
-- readings rejected for this cause.
abbrev pub count_text : Format → HeldCount → List ℕ
count_text format one =
    quote format ++ decimal (cause_number one.cause) ++ quote format ++ count_mark format
    ++ decimal one.count

-- The text of several counts of rejected readings, with a separator between them.
abbrev pub counts_text : Format → List HeldCount → List ℕ
counts_text format counts = join_by (count_text format) (held_mark format) counts

-- The counts of rejected readings that are not 0, in the order of the causes' numeric codes.
unfoldable pub held_some : RejectedCounts → List HeldCount
held_some held = filter (λ one. not (one.count == 0)) (by_cause held)

-- The text of several counts of rejected readings, or `0` if the list is empty.
abbrev pub counts_or_zero : Format → List HeldCount → List ℕ
counts_or_zero format [] = codes "0"
counts_or_zero format (first ∷ counts) = counts_text format (first ∷ counts)

-- The text of all counts of rejected readings, which is a field in text and CSV, and an object in
-- JSON.
abbrev pub held_text : Format → RejectedCounts → List ℕ
held_text Text held = counts_or_zero Text (held_some held)
held_text Csv held = counts_or_zero Csv (held_some held)
held_text Json held = codes "{" ++ counts_text Json (held_some held) ++ codes "}"

-- True if a list of counts of rejected readings is empty.
abbrev pub are_none : List HeldCount → Bool
are_none [] = true
are_none (first ∷ counts) = false

-- The text of a count of rejected readings, preceded by a separator if the count is not the first.
-- The text is empty if the count is 0.
abbrev pub count_piece : Format → (is_first : Bool) → HeldCount → List ℕ
count_piece format is_first one =
    if one.count == 0 then [] else
    (if is_first then [] else held_mark format) ++ count_text format one

-- Definitions for the statement (billing report) of a meter as separated fields: a line of text, or
-- a record of CSV.

-- The timestamp and the energy of a counter's state as two fields, each preceded by the separator
-- `mark`.
abbrev pub stand_fields : StatementForm → (mark : List ℕ) → Option Last → List ℕ
stand_fields form mark stand =
    mark ++ moment_text form.format stand ++ mark ++ worth_text form.format form.unit stand

-- The numbers of a meter's corrections (readings by hand, resets, rescales, voids) as fields, each
-- preceded by the separator `mark`.
abbrev pub count_fields : (mark : List ℕ) → EntryTally → List ℕ
count_fields mark tally =
    mark ++ decimal tally.by_hand ++ mark ++ decimal tally.resets ++ mark
    ++ decimal tally.rescales ++ mark ++ decimal tally.voids

-- The numbers of a meter's openings (first entries) and closings (last entries) as fields, each
-- preceded by the separator `mark`.
abbrev pub opening_and_closing_fields : (mark : List ℕ) → EntryTally → List ℕ
opening_and_closing_fields mark tally =
    mark ++ decimal tally.openings ++ mark ++ decimal tally.closings

-- The statement (billing report) of a meter as fields, with the separator `mark` between them.
abbrev pub fields : StatementForm → (mark : List ℕ) → MeterStatement → List ℕ
fields form mark row =
    row.meter ++ stand_fields form mark row.entries.first
    ++ stand_fields form mark row.entries.last
    ++ mark ++ energy_text form.unit row.mwh ++ count_fields mark row.entries
    ++ mark ++ held_text form.format row.held
    ++ opening_and_closing_fields mark row.entries

-- Definitions for the statement (billing report) of a meter as a JSON object.

-- The timestamp and the energy of a counter's state as members of a JSON object.
abbrev pub stand_members : EnergyUnit → (word : List ℕ) → Option Last → List ℕ
stand_members unit word stand =
    codes "\"" ++ word ++ codes "\":" ++ moment_text Json stand ++ codes ",\"" ++ word ++ codes "_"
    ++ unit_word unit ++ codes "\":" ++ worth_text Json unit stand ++ codes ","

-- The numbers of a meter's corrections (readings by hand, resets, rescales, voids), openings and
-- closings as members of a JSON object.
abbrev pub count_members : EntryTally → List ℕ
count_members tally =
    codes ",\"by_hand\":" ++ decimal tally.by_hand ++ codes ",\"resets\":" ++ decimal tally.resets
    ++ codes ",\"rescales\":" ++ decimal tally.rescales ++ codes ",\"voids\":"
    ++ decimal tally.voids ++ codes ",\"openings\":" ++ decimal tally.openings
    ++ codes ",\"closings\":" ++ decimal tally.closings

-- The statement (billing report) of a meter as the text of a JSON object.
abbrev pub object : EnergyUnit → MeterStatement → List ℕ
object unit row =
    codes "{\"meter\":\"" ++ row.meter ++ codes "\","
    ++ stand_members unit (codes "first") row.entries.first
    ++ stand_members unit (codes "last") row.entries.last
    ++ codes "\"energy_" ++ unit_word unit ++ codes "\":\"" ++ energy_text unit row.mwh
    ++ codes "\"" ++ count_members row.entries ++ codes ",\"held\":" ++ held_text Json row.held
    ++ codes "}"

-- The statement (billing report) of a meter as a row in a given format.
abbrev pub row_by : Format → StatementForm → MeterStatement → List ℕ
row_by Text form row = fields form (codes " ") row ++ codes "\n"
row_by Csv form row = fields form (codes ",") row ++ codes "\r\n"
row_by Json form row = object form.unit row

-- The statement (billing report) of a meter as a row in the requested format.
abbrev pub row_text : StatementForm → MeterStatement → List ℕ
row_text form row = row_by form.format form row

-- The header of a statement (billing report) in CSV.
abbrev pub csv_header : EnergyUnit → List ℕ
csv_header unit =
    codes "meter,first,first_" ++ unit_word unit ++ codes ",last,last_" ++ unit_word unit
    ++ codes ",energy_" ++ unit_word unit
    ++ codes ",by_hand,resets,rescales,voids,held,openings,closings\r\n"

-- The text before the first row of a statement (billing report) in a given format.
abbrev pub opening_by : Format → EnergyUnit → List ℕ
opening_by Text unit = []
opening_by Csv unit = csv_header unit
opening_by Json unit = codes "["

-- The text before the first row of a statement (billing report) in the requested format.
abbrev pub opening : StatementForm → List ℕ
opening form = opening_by form.format form.unit

-- The text between two rows of a statement (billing report) in the requested format.
abbrev pub separator : StatementForm → List ℕ
separator form = separator_by form.format

-- The text before a row of a statement (billing report), which is empty for the first row. Before
-- each later row, the text is the separator of two rows.
abbrev pub lead : (is_first : Bool) → StatementForm → List ℕ
lead true form = []
lead false form = separator form

-- The text of a statement (billing report) with the given rows, without the ending (`ending_by`)
-- that the report's format adds after the last row.
abbrev pub begun_text : StatementForm → List MeterStatement → List ℕ
begun_text form rows = opening form ++ join_by (row_text form) (separator form) rows

-- The complete text of the statements (billing reports) of a list of meters.
abbrev pub statement_text : StatementForm → List MeterStatement → List ℕ
statement_text form rows = begun_text form rows ++ ending_by form.format (length rows)

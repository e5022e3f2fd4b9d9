-- Defines the printed lines of the check that each database file continues the meters of the files
-- before it. There is a line for each difference, and a last line with the number of differences.
use Rattle.std.specs.Prelude.{ℕ, ◌-◌, ◌==◌, List, [], ◌++◌, take, map, length, flat_map, if◌then◌else◌, codes, decimal, string_bytes, Vec}
use Rattle.std.specs.Fmt.{signed_decimal}
use Rattle.energy_core.specs.declared.entries.Last.{Last}
use Rattle.table_audit.specs.declared.differences.TheConstants.{MOST}
use Rattle.table_audit.specs.Values.{number_of, moment_text}
use Rattle.table_seals.specs.declared.filed.FiledMeter.{FiledMeter}
use Rattle.table_seals.specs.declared.join_faults.JoinFault.{JoinFault}
use Rattle.table_seals.specs.declared.join_faults.JoinFault.TheVariants as fault
use Rattle.table_seals.specs.Joins.{Join, OtherZone, Differs, Overlaps, Missing}

-- The text of a counter's timestamp, with its date and time in UTC, raw value and scale factor.
abbrev pub stand : Last → List ℕ
stand last =
    moment_text last.at ++ codes " " ++ decimal last.raw ++ codes " " ++ signed_decimal last.sf

-- The text that states a value in a file and the different value in the earlier file.
abbrev pub both_say : (what : List ℕ) → (has had : List ℕ) → (old new : FiledMeter) → List ℕ
both_say what has had old new =
    what ++ has ++ codes " in " ++ new.file.now ++ codes ", and " ++ had ++ codes " in "
    ++ old.file.now

-- The text of a difference between a meter in a file and the meter in the earlier file, with the
-- names of the two files.
abbrev pub both_files : (before between : List ℕ) → (old new : FiledMeter) → List ℕ
both_files before between old new = before ++ new.file.now ++ between ++ old.file.now

abbrev pub one_file : (before after : List ℕ) → (new : FiledMeter) → List ℕ
one_file before after new = before ++ new.file.now ++ after

-- The text that states why a meter in a new database file does not continue the meter in an earlier
-- file.
abbrev pub fault_text : JoinFault → (old new : FiledMeter) → List ℕ
fault_text fault.Closed old new =
    both_files (codes "is in ") (codes ", and was closed in ") old new
fault_text fault.Register old new =
    both_say (codes "register is ") (string_bytes new.register) (string_bytes old.register) old new
fault_text fault.Range old new =
    both_say (codes "range is ") (decimal new.installed.range) (decimal old.installed.range) old new
fault_text fault.Ceiling old new =
    both_say (codes "ceiling is ") (decimal new.installed.ceiling) (decimal old.installed.ceiling)
    old new
fault_text fault.Opening old new =
    codes "begins in " ++ new.file.now ++ codes " at " ++ stand new.installed.opening
    ++ codes ", stands in " ++ old.file.now ++ codes " at " ++ stand old.standing.last
fault_text fault.Energy old new =
    one_file (codes "has more energy in all files up to ") (codes " than a meter may have") new

-- The beginning of a printed line about a meter: the meter's name.
abbrev pub meter_said : FiledMeter → List ℕ
meter_said meter = codes "meter " ++ string_bytes meter.meter ++ codes " "

-- The printed line of a difference between a file and the earlier files.
abbrev pub join_line : Join → List ℕ
join_line (OtherZone old new) =
    codes "zone is " ++ new.zone ++ codes " in " ++ new.file ++ codes ", and " ++ old.zone
    ++ codes " in " ++ old.file ++ codes "\n"
join_line (Differs why old new) = meter_said new ++ fault_text why old new ++ codes "\n"
join_line (Overlaps old new) =
    meter_said new ++ codes "begins in " ++ new.file.now ++ codes " at "
    ++ stand new.installed.opening ++ codes ", meter " ++ string_bytes old.meter
    ++ codes " stands at its register in " ++ old.file.now ++ codes " at "
    ++ stand old.standing.last ++ codes "\n"
join_line (Missing old file) =
    meter_said old ++ codes "is not in " ++ file ++ codes ", and is open in " ++ old.file.now
    ++ codes "\n"

-- The printed lines of differences between files, in the order of the list of differences.
abbrev pub lines_of : List Join → List (List ℕ)
lines_of joins = map join_line joins

-- The bytes of a printed line about a difference between database files.
abbrev pub text_in : {Z : Type 0} → Vec ℕ Z → List ℕ
text_in line = line.items

abbrev pub texts_of : {Z : Type 0} → List (Vec ℕ Z) → List (List ℕ)
texts_of lines = map text_in lines

-- The line with the number of lines that the check of successive files (does each continue the
-- earlier meters?) omits, or an empty text if no line is omitted.
abbrev pub more_lines : ℕ → List ℕ
more_lines more = if more == 0 then [] else codes "and " ++ decimal more ++ codes " more\n"

-- The line with the number of differences between files.
abbrev pub differences_line : ℕ → List ℕ
differences_line all =
    number_of all (codes "difference") (codes "differences") ++ codes " between files\n"

-- The last line of the check. It has the number of differences, or says that the files continue
-- each other.
abbrev pub all_lines : ℕ → List ℕ
all_lines all =
    if all == 0 then codes "joined: fine\n" else differences_line all

-- All printed text of the check that each database file continues the meters of the files before
-- it: the first lines, the number of omitted lines, and the last line.
abbrev pub joined_text : {Z : Type 0} → List (Vec ℕ Z) → List ℕ
joined_text lines =
    flat_map text_in (take MOST lines) ++ more_lines (length lines - MOST)
    ++ all_lines (length lines)

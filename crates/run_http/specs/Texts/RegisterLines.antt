-- The text lines of an accounting register's past and present meters, and a last line with the
-- number of meters. An accounting register is a named energy counter.
use Rattle.std.specs.Prelude.{ℕ, Bool, true, false, List, ◌++◌, length, flat_map, codes, decimal}
use Rattle.std.specs.Fmt.{signed_decimal}
use Rattle.energy_core.specs.declared.entries.Last.{Last}
use Rattle.interval_core.specs.Lines.{end_line}
use Rattle.office_events.specs.declared.questions.Installation.{Installation}

-- The time, the counter value and the scale factor of a meter entry.
abbrev pub last_text : Last → List ℕ
last_text last =
    codes " " ++ decimal last.at ++ codes " " ++ decimal last.raw ++ codes " "
    ++ signed_decimal last.sf

-- The word that says whether a meter was closed (`ended`) or is open.
abbrev pub state_word : (ended : Bool) → List ℕ
state_word true = codes " ended\n"
state_word false = codes " open\n"

-- The line of a meter: NAME OPENED AT RAW SF TOTAL, and whether the meter was closed. OPENED is the
-- time of its opening entry. AT, RAW and SF are the time, counter and scale of its last valid (not
-- voided) entry. TOTAL is its energy in mWh.
abbrev pub meter_line : Installation → List ℕ
meter_line row =
    row.opening.meter ++ codes " " ++ decimal row.opening.at ++ last_text row.last ++ codes " "
    ++ decimal row.total ++ state_word row.ended

-- One line of text for each given meter (its name, installation, last entry, energy and state), and
-- a last line with the number of meters.
abbrev pub meters_text : List Installation → List ℕ
meters_text rows = flat_map meter_line rows ++ end_line (length rows)

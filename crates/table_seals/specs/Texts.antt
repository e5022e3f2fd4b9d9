-- Defines the text of a meter's entries that a seal digests, the text of a seal, and the printed
-- lines of a check.
use Rattle.std.specs.Prelude.{ℕ, ◌==◌, Bool, true, false, List, [], ◌++◌, length, flat_map, if◌then◌else◌}
use Rattle.std.specs.Prelude.{codes, decimal, String, Vec, string_bytes}
use Rattle.std.specs.Fmt.{signed_decimal}
use Rattle.hex.specs.Hex.{encode_lower}
use Rattle.sha2.specs.Sha256.{sha256}
use Rattle.meter_journal.specs.declared.audit.rows.RowKind.{RowKind}
use Rattle.meter_journal.specs.declared.audit.rows.RowKind.TheVariants.{Opening, Reading, Manual, Closing, Reset, Rescale}
use Rattle.meter_journal.specs.declared.audit.rows.TableRow.{TableRow}
use Rattle.table_seals.specs.declared.checks.Checked.{Checked}
use Rattle.table_seals.specs.declared.seals.MeterSeal.{MeterSeal}
use Rattle.table_seals.specs.declared.seals.MonthSeal.{MonthSeal}
use Rattle.table_audit.specs.Values.{number_of}
use Rattle.table_audit.specs.declared.rows.VoidRow.{VoidRow}
use Rattle.table_seals.specs.Sealed.{Sealed, SealedMonth, SealedPolls, SealedTables, sealed_month_of, sealed_of}

-- The word for the kind of a meter entry in the digested text, such as `opening`.
abbrev pub kind_word : RowKind → List ℕ
kind_word Opening = codes " opening "
kind_word Reading = codes " reading "
kind_word Manual = codes " manual "
kind_word Closing = codes " closing "
kind_word Reset = codes " reset "
kind_word Rescale = codes " rescale "

-- The number of counter rollovers in an entry's line of the text that a seal digests. A reading's
-- line omits this number, because voiding (cancelling) the previous entry changes it.
abbrev pub own_rolls : RowKind → ℕ → List ℕ
own_rolls Opening rolls = codes " " ++ decimal rolls
own_rolls Reading rolls = []
own_rolls Manual rolls = codes " " ++ decimal rolls
own_rolls Closing rolls = codes " " ++ decimal rolls
own_rolls Reset rolls = codes " " ++ decimal rolls
own_rolls Rescale rolls = codes " " ++ decimal rolls

-- The digested line of a meter's entry: PLACE KIND MOMENT RAW AFTER SF, and ROLLS for all kinds
-- except readings. The line does not show whether the entry is voided (cancelled).
abbrev pub entry_line : TableRow → List ℕ
entry_line entry =
    decimal entry.place ++ kind_word entry.kind ++ decimal entry.moment ++ codes " "
    ++ decimal entry.raw ++ codes " " ++ decimal entry.after ++ codes " "
    ++ signed_decimal entry.sf ++ own_rolls entry.kind entry.rolls ++ codes "\n"

-- The text of a meter's entries from which a seal's digest is computed: one line per entry, in the
-- order of the list.
abbrev pub entries_text : List TableRow → List ℕ
entries_text entries = flat_map entry_line entries

-- The line `meter` of a seal (digests of earlier records), with all values of the meter's seal
-- except its voids (cancellations of entries) and its energies by month.
abbrev pub meter_line : Sealed → List ℕ
meter_line seal =
    codes "meter " ++ seal.meter ++ codes " number " ++ decimal seal.place ++ codes " at "
    ++ seal.register ++ codes " range " ++ decimal seal.range ++ codes " ceiling "
    ++ decimal seal.ceiling ++ codes " entries " ++ decimal seal.entries ++ codes " sha256 "
    ++ encode_lower seal.digest ++ codes "\n"

-- The line `void` of a seal (digests of earlier records), with a meter's name, the index of its
-- voided (cancelled) entry, and the time of the void.
abbrev pub void_line : (meter : List ℕ) → VoidRow → List ℕ
void_line meter void =
    codes "void " ++ meter ++ codes " " ++ decimal void.place ++ codes " at "
    ++ decimal void.moment ++ codes "\n"

-- The line `month` of a seal (digests of earlier records), with a meter's name, a calendar month
-- and the meter's energy in that month, in mWh.
abbrev pub month_line : (meter : List ℕ) → SealedMonth → List ℕ
month_line meter month =
    codes "month " ++ meter ++ codes " " ++ month.month ++ codes " " ++ decimal month.mwh
    ++ codes "\n"

-- The lines of a meter's seal (digests of earlier records): the line `meter`, a line for each
-- voided (cancelled) entry, and a line for each calendar month.
abbrev pub meter_text : Sealed → List ℕ
meter_text seal =
    meter_line seal ++ flat_map (void_line seal.meter) seal.voids
    ++ flat_map (month_line seal.meter) seal.months

-- The line `polls` of a seal (digests of earlier records): the number of polls, and the digest of a
-- text with a line for each poll and each outcome.
abbrev pub polls_line : SealedPolls → List ℕ
polls_line seal =
    codes "polls " ++ decimal seal.count ++ codes " sha256 " ++ encode_lower seal.digest
    ++ codes "\n"

-- The line `pending` of a seal (digests of earlier records), with the number of a poll without an
-- outcome.
abbrev pub pending_line : (poll : ℕ) → List ℕ
pending_line poll = codes "pending " ++ decimal poll ++ codes "\n"

-- The lines of the polls' seal (digests of earlier records): the line `polls`, and a line for each
-- pending poll.
abbrev pub polls_part : SealedPolls → List ℕ
polls_part seal = polls_line seal ++ flat_map pending_line seal.pending

-- A line of the time zone, a device or a register in a seal (digests of earlier records), with its
-- line end.
abbrev pub setup_line : (line : List ℕ) → List ℕ
setup_line line = line ++ codes "\n"

-- The lines of the time zone, the devices and the registers in a seal (digests of earlier records).
abbrev pub setup_text : (setup : List (List ℕ)) → List ℕ
setup_text setup = flat_map setup_line setup

-- The line of the program's `Vec` of a line's bytes.
abbrev pub setup_line_of : {Z : Type 0} → Vec ℕ Z → List ℕ
setup_line_of line = setup_line line.items

-- The line `month` of the program's `MonthSeal` value.
abbrev pub month_line_of : (meter : List ℕ) → MonthSeal → List ℕ
month_line_of meter seal = month_line meter (sealed_month_of seal)

-- The text of a seal without its last line, which has the digest of this text.
abbrev pub body_text : SealedTables → List ℕ
body_text seal =
    codes "seal 3\n" ++ setup_text seal.setup ++ flat_map meter_text seal.meters
    ++ polls_part seal.polls

-- The last line of a seal: the SHA-256 digest of all earlier lines.
abbrev pub last_line : (body : List ℕ) → List ℕ
last_line body = codes "sha256 " ++ encode_lower (sha256 body) ++ codes "\n"

-- The complete text of a file's seal (digests of earlier records).
abbrev pub seal_text : SealedTables → List ℕ
seal_text seal = body_text seal ++ last_line (body_text seal)

-- The lines of the program's `MeterSeal` value: the line `meter`, a line for each voided
-- (cancelled) entry, and a line for each calendar month.
abbrev pub text_of : MeterSeal → List ℕ
text_of seal = meter_text (sealed_of seal)

-- The printed line for a meter that differs from its seal (digests of earlier records).
abbrev pub difference_line : {Z : Type 0} → String Z → List ℕ
difference_line meter = codes "meter " ++ string_bytes meter ++ codes " differs from the seal\n"

-- The printed line for a sealed time zone, device or register that the file no longer has. The line
-- repeats the line of the seal.
abbrev pub setup_difference : {Z : Type 0} → Vec ℕ Z → List ℕ
setup_difference line = codes "not in the file: " ++ line.items ++ codes "\n"

-- The printed line for polls that differ from their seal (digests of earlier records), or an empty
-- text if the polls match the seal.
abbrev pub polls_difference : (differ : Bool) → List ℕ
polls_difference true = codes "polls differ from the seal\n"
polls_difference false = []

-- The printed verdict of a check in which all meters match the seal (digests of earlier records).
-- It says whether the time zone, the devices, the registers and the polls match the seal too.
-- `setup` is the number of sealed lines that the file no longer has.
abbrev pub rest_line : (setup : ℕ) → (polls_differ : Bool) → List ℕ
rest_line setup polls_differ =
    if setup == 0 then (if polls_differ then codes "polls differ\n" else codes "sealed: fine\n")
    else codes "zone, devices or registers differ\n"

-- The printed verdict of a check in which a meter differs from the seal (digests of earlier
-- records): the number of these meters.
abbrev pub differing_line : (differing meters : ℕ) → List ℕ
differing_line differing meters =
    decimal differing ++ codes " of " ++ number_of meters (codes "meter") (codes "meters")
    ++ (if differing == 1 then codes " differs\n" else codes " differ\n")

-- The printed verdict of a check against a seal (digests of earlier records). It has the number of
-- differing meters, or the result for the rest if no meter differs.
abbrev pub total_line : (differing meters setup : ℕ) → (polls_differ : Bool) → List ℕ
total_line differing meters setup polls_differ =
    if differing == 0 then rest_line setup polls_differ
    else differing_line differing meters

-- All printed lines of the check of a seal (digests of earlier records): the differences, the
-- verdict, and the changes that later voids made to sealed months.
abbrev pub checked_text : Checked → List ℕ
checked_text checked =
    flat_map difference_line checked.differing.items
    ++ flat_map setup_difference checked.setup.items ++ polls_difference checked.polls_differ
    ++ total_line (length checked.differing.items) checked.meters (length checked.setup.items)
    checked.polls_differ
    ++ checked.notes.items

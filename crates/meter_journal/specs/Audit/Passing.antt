-- The rules by which a row of a meter's table passes the check after the rows before it, or is
-- refused for its first fault.
use Rattle.std.specs.Prelude.{ℕ, ◌+◌, ◌^◌, ◌<◌, ◌≤◌, ◌==◌, nat_lt, nat_le, Bool, true, false, not, ◌&&◌, Option, Some, None, Result, Ok, Err, if◌then◌else◌}
use Rattle.std.specs.Ordering.{int_eq}
use Rattle.energy_core.specs.declared.limits.TheConstants.{MAX_CEILING, MAX_TOTAL}
use Rattle.energy_core.specs.declared.entries.Last.{Last}
use Rattle.energy_core.specs.declared.entries.Step.{Step}
use Rattle.energy_core.specs.declared.entries.Entry.{Entry}
use Rattle.energy_core.specs.declared.entries.Entry.TheVariants as entry
use Rattle.energy_core.specs.declared.admission.TermFault.{TermFault}
use Rattle.energy_core.specs.declared.verdicts.Terms.{Terms}
use Rattle.energy_core.specs.declared.verdicts.Cause.TheVariants as cause
use Rattle.energy_core.specs.declared.verdicts.Verdict.{Verdict}
use Rattle.energy_core.specs.declared.verdicts.Verdict.TheVariants as verdict
use Rattle.energy_core.specs.Account.{IsScale}
use Rattle.energy_core.specs.Admission.{entered}
use Rattle.energy_core.specs.Ranged.{IsRange}
use Rattle.energy_core.specs.Verdict.{verdict_of}
use Rattle.meter_journal.specs.declared.lines.Installed.{Installed}
use Rattle.meter_journal.specs.declared.lines.EntryKind.{EntryKind}
use Rattle.meter_journal.specs.declared.lines.EntryKind.TheVariants as kind
use Rattle.meter_journal.specs.Books.{IsWellInstalled}
use Rattle.meter_journal.specs.Fitting.{reading_at}
use Rattle.meter_journal.specs.Journal.{is_reading, is_closing}
use Rattle.meter_journal.specs.declared.audit.checks.Check.{Check}
use Rattle.meter_journal.specs.declared.audit.faults.RowFault.{RowFault}
use Rattle.meter_journal.specs.declared.audit.faults.RowFault.TheVariants as fault
use Rattle.meter_journal.specs.declared.audit.rows.RowKind.{RowKind}
use Rattle.meter_journal.specs.declared.audit.rows.RowKind.TheVariants as row_kind
use Rattle.meter_journal.specs.declared.audit.rows.TableRow.{TableRow}

-- States that the meter may be checked: its range, its ceiling (maximum power) and its opening
-- (first) entry are within their limits.
pub record MayBeChecked (meter : Installed) : Type 0 where
  pub range : IsRange meter.range
  pub ceiling : (1 ≤ meter.ceiling) × (meter.ceiling ≤ MAX_CEILING)
  pub installed : IsWellInstalled meter

-- States that the numbers in the state of a check of a meter's rows are within their limits:
-- sequence number, total energy, count and scale factor.
pub record IsSoundCheck (meter : Installed) (check : Check) : Type 0 where
  pub place : check.place < 2 ^ 63
  pub total : check.total ≤ MAX_TOTAL
  pub raw : check.last.raw < meter.range
  pub scale : IsScale check.last.sf

-- The state of the check of a meter's rows after the opening row, which has the meter's first
-- count.
abbrev pub begun : Installed → Check
begun meter = record {
  place = 1;
  last = meter.opening;
  total = 0;
  is_ended = false;
  stands = true;
}

-- The kind of an entry, given the kind column of its row in the table of entries, or `None` for an
-- opening, the first entry of a meter.
abbrev pub kind_in : RowKind → Option EntryKind
kind_in row_kind.Opening = None
kind_in row_kind.Reading = Some kind.Reading
kind_in row_kind.Manual = Some kind.Manual
kind_in row_kind.Closing = Some kind.Closing
kind_in row_kind.Reset = Some kind.Reset
kind_in row_kind.Rescale = Some kind.Rescale

-- True if entries of this kind (resets and rescales) set the counter to another count.
abbrev pub is_change : EntryKind → Bool
is_change kind.Reset = true
is_change kind.Rescale = true
is_change _ = false

-- The meter entry that a row of the table of entries records. `k` is the entry's kind.
abbrev pub entry_in : EntryKind → TableRow → Entry
entry_in k row =
    if is_change k then entry.Change row.moment row.raw row.after row.sf
    else entry.Step row.moment row.raw row.rolls

-- True if a column of a row of the table of entries is not 0 although entries of the row's kind `k`
-- do not use the column.
abbrev pub has_unused : EntryKind → TableRow → Bool
has_unused k row = if is_change k then not (row.rolls == 0) else not (row.after == 0)

-- True if the kind of an entry is a rescale.
abbrev pub is_rescale : EntryKind → Bool
is_rescale kind.Rescale = true
is_rescale _ = false

-- True if the scale factor of the row differs from the scale factor before it, although the row is
-- not a rescale (an entry that changes the scale factor).
abbrev pub is_off_scale : Check → EntryKind → TableRow → Bool
is_off_scale check k row = not (is_rescale k) && not (int_eq row.sf check.last.sf)

-- The kind of a row whose sequence number is correct, if the row may follow the rows before it and
-- its columns suit its kind. Otherwise, the first fault.
abbrev pub shape_by : Check → TableRow → Option EntryKind → Result EntryKind RowFault
shape_by check row None = Err fault.OpenedAgain
shape_by check row (Some k) =
    if check.is_ended then Err fault.AfterClosing else
    if row.is_voided && not (is_reading k) then Err fault.CannotBeVoided else
    if has_unused k row then Err fault.Unused else
    if is_off_scale check k row then Err (fault.Scale check.last.sf) else Ok k

-- The kind of a row, if the row has the next sequence number and its columns suit its kind.
-- Otherwise, the first fault.
abbrev pub shape_of : Check → TableRow → Result EntryKind RowFault
shape_of check row =
    if row.place == check.place + 1 then shape_by check row (kind_in row.kind)
    else Err (fault.Place (check.place + 1))

-- The fault of a reading, given the verdict of the rules for meter entries. Either the rules
-- rejected the reading, or the reading's rollovers differ from the number that the rules require.
-- `None` if there is no fault.
abbrev pub fault_by : (rolls : ℕ) → Verdict → Option RowFault
fault_by rolls (verdict.Held why) = Some (fault.Held why)
fault_by rolls (verdict.Accepted wanted step) =
    if rolls == wanted then None else Some (fault.Rolls wanted)

-- The values by which the check of a meter's tables judges a reading: the meter's ceiling (maximum
-- power) and the total energy of the rows before the reading.
abbrev pub terms_of : Installed → Check → Terms
terms_of meter check = record { ceiling = meter.ceiling; total = check.total }

-- The reason why the rules for meter entries reject a row as a valid (not voided) reading. `None`
-- if the rules accept the reading, or if the row's kind is not a reading.
abbrev pub reading_fault : Installed → Check → EntryKind → TableRow → Option RowFault
reading_fault meter check k row =
    if is_reading k
    then fault_by row.rolls (verdict_of meter.range (terms_of meter check) check.last
    (reading_at check.last row.moment row.raw))
    else None

-- The reason why the rules for meter entries reject a voided (cancelled) reading whose previous row
-- is valid. `None` if the rules accept the reading, or if the previous row is voided too.
abbrev pub stood_fault : Installed → Check → EntryKind → TableRow → Option RowFault
stood_fault meter check k row = if check.stands then reading_fault meter check k row else None

-- The reason why a voided (cancelled) reading can't have been accepted when it was recorded. The
-- reading shows 0 or a count not below the counter's range, is not later than the last valid entry,
-- or has more than one rollover.
abbrev pub voided_fault : Installed → Check → TableRow → Option RowFault
voided_fault meter check row =
    if row.raw == 0 then Some (fault.Held cause.NotAccumulated) else
    if nat_le meter.range row.raw then Some (fault.Held cause.NotBelowRange) else
    if nat_le row.moment check.last.at then Some (fault.Held cause.NotLater) else
    if nat_lt 1 row.rolls then Some (fault.Rolls 1) else None

-- The given row fault as an error, or the given result `answer` if there is no fault.
abbrev pub unless : {X : Type 0} → Option RowFault → Result X RowFault → Result X RowFault
unless (Some f) answer = Err f
unless None answer = answer

-- The energy of a step (between two consecutive entries) in mWh, or 0 without a step.
abbrev pub energy_in : Option Step → ℕ
energy_in None = 0
energy_in (Some step) = step.mwh

-- The state of the check of a meter's rows after an entry that the rules for meter entries
-- accepted, with the energy since the last valid (not voided) entry. If the rules refused the
-- entry, the fault.
abbrev pub following : Check → EntryKind → TableRow → Result (Last × Step) TermFault
    → Result (Check × Option Step) RowFault
following check k row (Err f) = Err (fault.Refused f)
following check k row (Ok (last, step)) = Ok (
  record {
    place = row.place;
    last = last;
    total = check.total + step.mwh;
    is_ended = is_closing k;
    stands = true;
  },
  Some step,
)

-- The state of the check of a meter's rows after a valid (not voided) row, with the step to the
-- row's entry (the energy since the last valid entry). If the row has a fault, the first fault.
abbrev pub stood : Installed → Check → EntryKind → TableRow → Result (Check × Option Step) RowFault
stood meter check k row =
    unless (reading_fault meter check k row)
    (following check k row (entered meter.range check.total check.last (entry_in k row)))

-- The state of the check of a meter's rows after a voided (cancelled) row, which adds no energy, or
-- the first fault of the row.
abbrev pub voided : Installed → Check → EntryKind → TableRow
    → Result (Check × Option Step) RowFault
voided meter check k row =
    unless (voided_fault meter check row)
    (unless (stood_fault meter check k row)
    (Ok (record check { place = row.place; stands = false }, None)))

-- The state of the check of a meter's rows after a valid or voided (cancelled) row of the given
-- kind, or the first fault of the row.
abbrev pub passed_by : Installed → Check → TableRow → Result EntryKind RowFault
    → Result (Check × Option Step) RowFault
passed_by meter check row (Err f) = Err f
passed_by meter check row (Ok k) =
    if row.is_voided then voided meter check k row else stood meter check k row

-- The state of the check of a meter's rows after a table row, with the step to the row's entry (the
-- energy since the last valid entry). If the row has a fault, the first fault. A voided (cancelled)
-- row has no step.
abbrev pub passed : Installed → Check → TableRow → Result (Check × Option Step) RowFault
passed meter check row = passed_by meter check row (shape_of check row)

-- Defines the printed lines about voids (cancellations of entries) that were recorded after a seal,
-- and about the energy that they changed in sealed months.
use Rattle.std.specs.Prelude.{⊤, ◌≡◌, ◌⊎◌, ℕ, ◌-◌, ◌==◌, nat_le, Bool, not, ◌&&◌, List, [], ◌∷◌, ◌++◌, take, drop, flat_map, Ok, codes, decimal, bytes_eq, if◌then◌else◌}
use Rattle.std.specs.Cmp.Lexicographic.{slice_cmp}
use Rattle.std.specs.List.{filter}
use Rattle.std.specs.Ordering.{is_gt, nat_cmp}
use Rattle.jiff.specs.Words.{epoch_day}
use Rattle.interval_core.specs.declared.zone.Zone.{Zone}
use Rattle.interval_core.specs.Zone.{day_at}
use Rattle.energy_report.specs.declared.form.Period.TheVariants as period
use Rattle.energy_report.specs.Texts.{period_text}
use Rattle.meter_journal.specs.declared.audit.rows.TableRow.{TableRow}
use Rattle.table_audit.specs.declared.rows.MeterRows.{MeterRows}
use Rattle.table_audit.specs.declared.rows.VoidRow.{VoidRow}
use Rattle.table_audit.specs.Reading.{entry_in, all_in}
use Rattle.table_audit.specs.Values.{energy_text}
use Rattle.table_seals.specs.declared.notes.VoidNote.{VoidNote}
use Rattle.table_seals.specs.Months.{HasMonths}
use Rattle.table_seals.specs.Sealed.{Sealed, SealedMonth}
use Rattle.table_seals.specs.Tables.{HasRead, is_void_among}

-- True if a void (the cancellation of an entry) is not in a meter's seal, and names a sealed entry.
abbrev pub is_since : Sealed → VoidRow → Bool
is_since seal void = not (is_void_among seal.voids void) && nat_le void.place seal.entries

-- The voids (cancellations of entries) that are not in a meter's seal, and that name a sealed
-- entry.
abbrev pub voids_since : Sealed → List VoidRow → List VoidRow
voids_since seal voids = filter (is_since seal) voids

-- The time of the last valid (not voided) entry in a list, or `otherwise` if there is none.
abbrev pub last_valid : (otherwise : ℕ) → List TableRow → ℕ
last_valid otherwise [] = otherwise
last_valid otherwise (row ∷ rows) =
    last_valid (if row.is_voided then otherwise else row.moment) rows

-- The time of the first valid (not voided) entry in a list, or `otherwise` if there is none.
abbrev pub first_valid : (otherwise : ℕ) → List TableRow → ℕ
first_valid otherwise [] = otherwise
first_valid otherwise (row ∷ rows) =
    if row.is_voided then first_valid otherwise rows else row.moment

-- The time from which voiding (cancelling) the entry at the index `place` changes energy: that of
-- the last valid entry before it. `sealed` has the sealed entries, with the voids at that time.
abbrev pub changes_from : (sealed : List TableRow) → (place : ℕ) → ℕ
changes_from sealed place = last_valid 0 (take (place - 1) sealed)

-- The time up to which voiding (cancelling) the entry at the index `place` changes sealed energy:
-- that of the first valid sealed entry after it, or its own time.
abbrev pub changes_till : (sealed : List TableRow) → (place : ℕ) → ℕ
changes_till sealed place =
    first_valid (last_valid 0 (take place sealed)) (drop place sealed)

-- States that a note has the civil days from and up to which a void (the cancellation of an entry)
-- changes energy.
pub record IsNoteOf (zone : Zone) (sealed : List TableRow) (void : VoidRow) (note : VoidNote) :
    Type 0 where
  pub place : note.place ≡ void.place
  pub from : epoch_day note.from ≡ day_at zone (changes_from sealed void.place)
  pub till : epoch_day note.till ≡ day_at zone (changes_till sealed void.place)

-- States that a list has a note for each void (cancellation of an entry), in order.
abbrev pub AreNotesOf : Zone → (sealed : List TableRow) → List VoidRow → List VoidNote → Type 0
AreNotesOf zone sealed [] [] = ⊤
AreNotesOf zone sealed (void ∷ voids) (note ∷ notes) =
    IsNoteOf zone sealed void note × AreNotesOf zone sealed voids notes
AreNotesOf zone sealed [] (note ∷ notes) = ⊥
AreNotesOf zone sealed (void ∷ voids) [] = ⊥

-- The printed line about a void (the cancellation of an entry) that was recorded after the seal.
abbrev pub void_note_line : (meter : List ℕ) → VoidNote → List ℕ
void_note_line meter note =
    codes "void " ++ meter ++ codes " " ++ decimal note.place ++ codes " changes energy from "
    ++ period_text period.Day note.from ++ codes " to " ++ period_text period.Day note.till
    ++ codes "\n"

-- True if a text is not after another one in the order of their bytes. Of months as `2026-01`, this
-- is their order in time.
abbrev pub is_up_to : (text other : List ℕ) → Bool
is_up_to text other = not (is_gt (slice_cmp nat_cmp text other))

-- True if a void (the cancellation of an entry) changes energy from a day in or before the calendar
-- month `month`, to a day in or after this month.
abbrev pub touches : (month : List ℕ) → VoidNote → Bool
touches month note =
    is_up_to (period_text period.Month note.from) month
    && is_up_to month (period_text period.Month note.till)

-- The words for a void (the cancellation of an entry) that changed a month's energy.
abbrev pub cause_words : VoidNote → List ℕ
cause_words note = codes ", by void " ++ decimal note.place

-- The energy of a calendar month in a list of months, or 0 if the list does not have the month.
abbrev pub energy_in : List SealedMonth → (month : List ℕ) → ℕ
energy_in [] month = 0
energy_in (other ∷ months) month =
    if bytes_eq other.month month then other.mwh else energy_in months month

-- The printed line about a sealed month whose energy is another one now, with the voids
-- (cancellations of entries) that changed it. Otherwise an empty text.
abbrev pub month_note : (meter : List ℕ) → List VoidNote → (now : List SealedMonth) → SealedMonth
    → List ℕ
month_note meter notes now sealed =
    let mwh = energy_in now sealed.month in
    if mwh == sealed.mwh then []
    else codes "month " ++ meter ++ codes " " ++ sealed.month ++ codes " was "
    ++ energy_text sealed.mwh ++ codes ", is " ++ energy_text mwh
    ++ flat_map cause_words (filter (touches sealed.month) notes) ++ codes "\n"

-- The printed lines about the voids (cancellations of entries) of a meter that were recorded after
-- the seal, and about the sealed months that they changed.
abbrev pub notes_text : Sealed → List VoidNote → (now : List SealedMonth) → List ℕ
notes_text seal notes now =
    flat_map (void_note_line seal.meter) notes
    ++ flat_map (month_note seal.meter notes now) seal.months

-- States that `text` has the printed lines about voids (cancellations of entries) that were
-- recorded after the seal of a meter. `rows` are the meter's present rows.
pub record HasNotes (zone : Zone) (rows : MeterRows) (seal : Sealed) (text : List ℕ) : Type 0 where
  pub voids : List VoidRow
  pub entries : List TableRow
  pub read : HasRead rows seal.range voids entries
  pub sealed : List TableRow
  pub sealed_read : all_in (entry_in seal.voids) rows.entries.items ≡ Ok sealed
  pub notes : List VoidNote
  pub noted : AreNotesOf zone (take seal.entries sealed) (voids_since seal voids) notes
  pub now : List SealedMonth
  pub months : HasMonths zone seal.range seal.ceiling (take seal.entries entries) now
  pub text_is : text ≡ notes_text seal notes now

-- States that the first entries of a meter, as many as its seal counts, follow from no history that
-- the rules for meter entries accept.
pub record IsUnlawful (zone : Zone) (rows : MeterRows) (seal : Sealed) : Type 0 where
  pub none : (voids : List VoidRow) (entries : List TableRow) (months : List SealedMonth)
      → HasRead rows seal.range voids entries
      → HasMonths zone seal.range seal.ceiling (take seal.entries entries) months → ⊥

-- States what the check of a meter that matches its seal prints about later voids (cancellations of
-- entries). It prints nothing for a meter that no audit would find fine.
abbrev pub PrintsNotes : Zone → MeterRows → Sealed → (text : List ℕ) → Type 0
PrintsNotes zone rows seal text =
    HasNotes zone rows seal text ⊎ (IsUnlawful zone rows seal × (text ≡ []))

-- A meter whose journal (history) is split over two database files. The opening entry in the new
-- file has the state of the meter's last valid (not voided) entry in the old file. `lines` is the
-- journal in the old file, and `more` is the journal in the new file. The latest line comes first.
use Rattle.std.specs.Prelude.{◌≡◌, ◌≢◌, ℕ, ℤ, ◌+◌, ◌==◌, ◌≤◌, false, List, [], ◌∷◌, ◌++◌, map, filter}
use Rattle.energy_core.specs.declared.limits.TheConstants.{MAX_TOTAL}
use Rattle.energy_core.specs.declared.verdicts.Cause.TheVariants.{TotalFull}
use Rattle.interval_core.specs.declared.shares.Share.{Share}
use Rattle.interval_core.specs.declared.zone.Zone.{Zone}
use Rattle.interval_core.specs.Account.{IsAscending, IsAccount, energy_of, starts_of}
use Rattle.interval_core.specs.Days.{account_on}
use Rattle.meter_journal.specs.declared.lines.Installed.{Installed}
use Rattle.meter_journal.specs.declared.lines.EntryRow.{EntryRow}
use Rattle.meter_journal.specs.Books.{IsWellInstalled, last_in, total_in, steps_in, interval_rows}
use Rattle.meter_journal.specs.Fitting.{AreFitting}
use Rattle.meter_journal.specs.Intervals.{with_shares}
use Rattle.meter_journal.specs.Journal.{Line, Entered, Held, Voided, Journal, is_ended, rows_of, entries_of}
use Rattle.meter_journal.specs.Standing.{entered_count}

-- The meter as it is installed in the new database file. Its opening (first) entry has the time,
-- count and scale factor of the last valid (not voided) entry in the old file.
abbrev pub carried : Installed → (lines : Journal) → Installed
carried meter lines =
    record { range = meter.range; ceiling = meter.ceiling; opening = last_in meter lines }

-- A line of a meter's history in the new database file, renumbered for the joined journal. The
-- opening (first) entry has sequence number 1 in each file. A void (cancellation) therefore names a
-- number raised by `count`, the number of entries after the opening in the old file.
abbrev pub moved_line : (count : ℕ) → Line → Line
moved_line count (Entered k e) = Entered k e
moved_line count (Held reading cause) = Held reading cause
moved_line count (Voided place) = Voided (place + count)

-- The joined journal (history) of a meter over both database files: the lines of the old file,
-- followed by the renumbered lines of the new file. No void (cancellation) in the new file names an
-- entry of the old file.
abbrev pub joined_journal : (lines more : Journal) → Journal
joined_journal lines more = map (moved_line (entered_count lines)) more ++ lines

-- An entry row of a meter in the new database file, with its sequence number raised by `count` for
-- the joined history of both files.
abbrev pub moved_row : (count : ℕ) → EntryRow → EntryRow
moved_row count row = record row { place = row.place + count }

-- States that a meter continues correctly in a new database file. Its opening (first) entry there
-- is valid, and the joined history has the rows, entries and energies of both files. A quarter hour
-- in both files has one row, with the energy of both. A meter that continues in a third file
-- continues from the joined history.
pub record GoesOn (meter : Installed) (lines more : Journal) : Type 0 where
  pub well : IsWellInstalled (carried meter lines)
  pub rows : rows_of meter.opening (joined_journal lines more)
      ≡ map (moved_row (entered_count lines)) (rows_of (last_in meter lines) more)
      ++ rows_of meter.opening lines
  pub entries : entries_of meter.opening (joined_journal lines more)
      ≡ entries_of (last_in meter lines) more ++ entries_of meter.opening lines
  pub last : last_in meter (joined_journal lines more) ≡ last_in (carried meter lines) more
  pub steps : steps_in meter (joined_journal lines more)
      ≡ steps_in (carried meter lines) more ++ steps_in meter lines
  pub total : total_in meter (joined_journal lines more)
      ≡ total_in meter lines + total_in (carried meter lines) more
  pub intervals : interval_rows meter (joined_journal lines more)
      ≡ with_shares (interval_rows meter lines) (interval_rows (carried meter lines) more)
  pub again : carried (carried meter lines) more ≡ carried meter (joined_journal lines more)

-- Theorem: suppose that the rules for meter entries accept a meter's journals (histories) in the
-- old and the new database file. Then `GoesOn` holds: their joined history has the entries and
-- energies of both files.
abbrev pub CarriesGoOn : Type 0
CarriesGoOn = (meter : Installed) (lines more : Journal) → IsWellInstalled meter
    → AreFitting meter lines
    → AreFitting (carried meter lines) more
    → GoesOn meter lines more

-- The sum of the energies of the interval rows for the quarter hour that begins at `start`.
abbrev pub energy_from : (start : ℕ) → List Share → ℕ
energy_from start rows = energy_of (filter (λ row. row.start == start) rows)

-- States that `both`, the joined interval rows of two database files, count each quarter hour and
-- each civil day once. A quarter hour has the energy of both files, including the quarter hour in
-- which the new file began. A day has the energy of both files, and counts a quarter hour in both
-- files once.
pub record AreCountedOnce (old new both : List Share) : Type 0 where
  pub ascending : IsAscending (starts_of both)
  pub quarters : (start : ℕ) → energy_from start both
      ≡ energy_from start old + energy_from start new
  pub days : (zone : Zone) (day : ℤ) → account_on zone both day ≡ account_on zone (old ++ new) day
  pub energies : (zone : Zone) (day : ℤ) → (account_on zone both day).mwh
      ≡ (account_on zone old day).mwh + (account_on zone new day).mwh
  pub whole : energy_of both ≡ energy_of old + energy_of new

-- States that the interval rows of a meter's joined history in both database files have the energy
-- of all steps of both files. A step is the energy between two entries. The rows count each quarter
-- hour and each civil day once.
pub record CountsOnce (meter : Installed) (lines more : Journal) : Type 0 where
  pub account : IsAccount (steps_in (carried meter lines) more ++ steps_in meter lines)
      (interval_rows meter (joined_journal lines more))
  pub rows : AreCountedOnce (interval_rows meter lines) (interval_rows (carried meter lines) more)
      (interval_rows meter (joined_journal lines more))

-- Theorem: if the rules for meter entries accept a meter's journals (histories) in the old and the
-- new database file, the journal of both files together counts each quarter hour once.
abbrev pub CarriesCountOnce : Type 0
CarriesCountOnce = (meter : Installed) (lines more : Journal) → IsWellInstalled meter
    → AreFitting meter lines
    → AreFitting (carried meter lines) more
    → CountsOnce meter lines more

-- States that, after each line (entry or void) of the new database file, the meter has at most
-- `MAX_TOTAL` energy in the old and the new file together.
abbrev pub StaysWithin : Installed → (lines more : Journal) → Type 0
StaysWithin meter lines [] = Unit {0}
StaysWithin meter lines (line ∷ more) =
    (total_in meter lines + total_in (carried meter lines) (line ∷ more) ≤ MAX_TOTAL)
    × StaysWithin meter lines more

-- Theorem: the rules for meter entries accept the joined journal (history) of both database files
-- if three conditions are true. The rules accept each file's journal, the meter was open at the end
-- of the old file, and its energy stays within the limit. In the joined journal, readings keep
-- their rollovers or causes of rejection, and the same entries and voids (cancellations) are
-- allowed.
abbrev pub CarriedJournalsFit : Type 0
CarriedJournalsFit = (meter : Installed) (lines more : Journal) → IsWellInstalled meter
    → AreFitting meter lines
    → is_ended lines ≡ false
    → AreFitting (carried meter lines) more
    → StaysWithin meter lines more
    → AreFitting meter (joined_journal lines more)

-- States that a line of a meter's journal (history) can be recorded in the new database file
-- instead of the old file. Such a line does not void (cancel) an entry of the old file. It does not
-- reject a reading because of the limit of the total energy.
abbrev pub ComesLater : (count : ℕ) → Line → Type 0
ComesLater count (Entered k e) = Unit {0}
ComesLater count (Held reading cause) = cause ≢ TotalFull
ComesLater count (Voided place) = count + 2 ≤ place

-- States that each line of the meter's journal (history) can be recorded in the new database file
-- instead of the old file.
abbrev pub AllComeLater : (count : ℕ) → Journal → Type 0
AllComeLater count [] = Unit {0}
AllComeLater count (line ∷ lines) = ComesLater count line × AllComeLater count lines

-- States that the journal lines `later`, which would follow `lines` in the old database file, can
-- be recorded in a new file instead. The rules for meter entries accept them there.
pub record IsSplit (meter : Installed) (lines later : Journal) : Type 0 where
  pub more : Journal
  pub joined : joined_journal lines more ≡ later ++ lines
  pub fit : AreFitting (carried meter lines) more

-- Theorem: suppose that journal lines void (cancel) no entry of a meter's old database file, and
-- reject no reading because of the total energy's limit. If the rules for meter entries accept the
-- lines in the old file, they also accept them in a new file.
abbrev pub LaterLinesAreCarried : Type 0
LaterLinesAreCarried = (meter : Installed) (lines later : Journal) → IsWellInstalled meter
    → AreFitting meter (later ++ lines)
    → AllComeLater (entered_count lines) later
    → IsSplit meter lines later

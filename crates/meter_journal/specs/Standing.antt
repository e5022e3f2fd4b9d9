-- The valid entries of a meter's journal (history), defined without applying the voids
-- (cancellations of entries) one by one.
use Rattle.std.specs.Prelude.{◌≡◌, ℕ, ◌+◌, ◌==◌, Bool, true, false, ◌||◌, List, [], ◌∷◌, map, if◌then◌else◌}
use Rattle.energy_core.specs.declared.entries.Last.{Last}
use Rattle.energy_core.specs.Account.{last_of}
use Rattle.meter_journal.specs.declared.lines.Installed.{Installed}
use Rattle.meter_journal.specs.declared.lines.EntryRow.{EntryRow}
use Rattle.meter_journal.specs.Journal.{Entered, Held, Voided, Journal, standing, entries_in, rolled, rows_of}
use Rattle.meter_journal.specs.Fitting.{EntryFits}

-- True if a void (cancellation) in the meter's journal (history) names the sequence number `place`.
abbrev pub is_voided : (place : ℕ) → Journal → Bool
is_voided place [] = false
is_voided place (Entered k e ∷ lines) = is_voided place lines
is_voided place (Held reading cause ∷ lines) = is_voided place lines
is_voided place (Voided named ∷ lines) = (place == named) || is_voided place lines

-- The number of entries that a meter's journal (history) records, including voided (cancelled)
-- entries.
abbrev pub entered_count : Journal → ℕ
entered_count [] = 0
entered_count (Entered k e ∷ lines) = entered_count lines + 1
entered_count (Held reading cause ∷ lines) = entered_count lines
entered_count (Voided place ∷ lines) = entered_count lines

-- The rows of a meter's entries that no void (cancellation) in the complete journal (history)
-- `whole` names, with their sequence numbers. Each reading has the rollovers computed from the
-- valid entry before it.
abbrev pub unvoided : (opening : Last) → (whole : Journal) → Journal → List EntryRow
unvoided opening whole [] = []
unvoided opening whole (Entered k e ∷ lines) =
    let rows = unvoided opening whole lines in
    let place = entered_count lines + 2 in
    if is_voided place whole
    then rows
    else rolled (last_of opening (map (λ row. row.entry) rows))
    (record { place = place; kind = k; entry = e; stands = true }) ∷ rows
unvoided opening whole (Held reading cause ∷ lines) = unvoided opening whole lines
unvoided opening whole (Voided place ∷ lines) = unvoided opening whole lines

-- States that the rules for meter entries accept the entry of each valid (not voided) row after the
-- entries of the valid rows before it.
abbrev pub AllStillFit : Installed → List EntryRow → Type 0
AllStillFit meter [] = Unit {0}
AllStillFit meter (row ∷ rows) =
    (row.stands ≡ true → EntryFits meter (entries_in rows) row.kind row.entry)
    × AllStillFit meter rows

-- The journal (history) of a meter that records the entry of each row of a list. It has no rejected
-- readings and no voids (cancellations).
abbrev pub entering : List EntryRow → Journal
entering rows = map (λ row. Entered row.kind row.entry) rows

-- A meter's journal (history) that has only the valid (not voided) entries of the full journal. It
-- has no voids (cancellations) and no rejected readings.
abbrev pub standing_alone : (opening : Last) → Journal → Journal
standing_alone opening lines = entering (standing (rows_of opening lines))

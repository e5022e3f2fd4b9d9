-- Worked examples, computed from the definitions: how a meter's state changes when an entry is
-- added, and when an entry is voided (cancelled).
use Rattle.std.proofs.Common.{◌≡◌, ℕ, pos, true, false, List, [], ◌∷◌, map, Some, None, refl}
use Rattle.energy_core.specs.declared.entries.Last.{Last}
use Rattle.energy_core.specs.declared.entries.Step.{Step}
use Rattle.energy_core.specs.declared.entries.Entry.{Entry}
use Rattle.energy_core.specs.declared.entries.Entry.TheVariants as entry
use Rattle.energy_core.specs.Value.{unit_of}
use Rattle.interval_core.specs.Share.{shares_of}
use Rattle.interval_core.specs.declared.shares.Share.{Share}
use Rattle.meter_journal.specs.declared.lines.Installed.{Installed}
use Rattle.meter_journal.specs.declared.lines.EntryKind.TheVariants as kind
use Rattle.meter_journal.specs.declared.lines.EntryRow.{EntryRow}
use Rattle.meter_journal.specs.Books.{interval_rows}
use Rattle.meter_journal.specs.Changes.{step_on}
use Rattle.meter_journal.specs.Intervals.{with_each, without_each, all_shares}
use Rattle.meter_journal.specs.Journal.{Journal, Around, Entered, rows_of, row_at}
use Rattle.meter_journal.specs.Voids.{last_before, changed_by, steps_out, steps_put, rows_until}

abbrev share : (start mwh : ℕ) → Share
share start mwh = record { start = start; mwh = mwh }

abbrev step : (from till mwh : ℕ) → Step
step from till mwh = record { from = from; till = till; mwh = mwh }

abbrev row : (place : ℕ) → Entry → EntryRow
row place e = record { place = place; kind = kind.Reading; entry = e; stands = true }

abbrev house : Installed
house = record { range = 4294967296; ceiling = 100000; opening = record { at = 1000; raw = 5000; sf = pos 0 } }

-- A meter's journal (history) with a reading of 5200 counts at 1900 s, and a journal that adds a
-- reading of 5300 counts at 2800 s.
abbrev one : Journal
one = Entered kind.Reading (entry.Step 1900 5200 0) ∷ []

abbrev two : Journal
two = Entered kind.Reading (entry.Step 2800 5300 0) ∷ one

-- In this example of a meter, the second reading (at 2800 s) adds its energy to two quarter hours.
-- One of them already has an interval row, and the other gets a new row.

second_step : step_on house one (entry.Step 2800 5300 0) ≡ step 1900 2800 100000
unfolding unit_of
second_step = refl

second_shares : shares_of (step 1900 2800 100000) ≡ share 1800 88888 ∷ share 2700 11112 ∷ []
second_shares = refl

second_added : with_each (share 1800 88888 ∷ share 2700 11112 ∷ []) (share 900 177777 ∷ share 1800 22223 ∷ [])
    ≡ share 900 177777 ∷ share 1800 111111 ∷ share 2700 11112 ∷ []
second_added = refl

second_rows : interval_rows house two ≡ share 900 177777 ∷ share 1800 111111 ∷ share 2700 11112 ∷ []
unfolding unit_of
second_rows = refl

-- Example of voiding (cancelling) the first of two readings of a meter.

abbrev around_first : Around
around_first = record { before = []; row = row 2 (entry.Step 1900 5200 0); next = Some (row 3 (entry.Step 2800 5300 0)) }

first_found : row_at 2 (rows_of (house.opening) two) ≡ Some around_first
first_found = refl

first_out : steps_out house around_first ≡ step 1900 2800 100000 ∷ step 1000 1900 200000 ∷ []
unfolding unit_of
first_out = refl

first_put : steps_put house around_first ≡ step 1000 2800 300000 ∷ []
unfolding unit_of
first_put = refl

first_taken : without_each (all_shares (step 1900 2800 100000 ∷ step 1000 1900 200000 ∷ [])) (share 900 177777 ∷ share 1800 111111 ∷ share 2700 11112 ∷ [])
    ≡ share 900 0 ∷ share 1800 0 ∷ share 2700 0 ∷ []
first_taken = refl

first_added : rows_until 1000 2800 (with_each (all_shares (step 1000 2800 300000 ∷ [])) (share 900 0 ∷ share 1800 0 ∷ share 2700 0 ∷ []))
    ≡ share 900 133333 ∷ share 1800 150000 ∷ share 2700 16667 ∷ []
first_added = refl

-- Voiding (cancelling) the second reading removes the interval row of the quarter hour that only
-- this reading added energy to.

abbrev around_second : Around
around_second = record { before = row 2 (entry.Step 1900 5200 0) ∷ []; row = row 3 (entry.Step 2800 5300 0); next = None }

second_found : row_at 3 (rows_of (house.opening) two) ≡ Some around_second
second_found = refl

second_out : steps_out house around_second ≡ step 1900 2800 100000 ∷ []
unfolding unit_of
second_out = refl

second_taken : rows_until 1000 1900 (without_each (all_shares (step 1900 2800 100000 ∷ [])) (share 900 177777 ∷ share 1800 111111 ∷ share 2700 11112 ∷ []))
    ≡ share 900 177777 ∷ share 1800 22223 ∷ []
second_taken = refl

-- Voiding (cancelling) the only reading leaves no interval row, not even for the quarter hour of
-- the opening (first) entry.

only_taken : rows_until 1000 1000 (without_each (all_shares (step 1000 1900 200000 ∷ [])) (share 900 177777 ∷ share 1800 22223 ∷ []))
    ≡ []
only_taken = refl

-- Voiding (cancelling) a reading directly after a rollover moves the rollover to the next reading's
-- row.

abbrev turning : Last
turning = record { at = 1000; raw = 4294967200; sf = pos 0 }

abbrev around_rollover : Around
around_rollover = record { before = []; row = row 2 (entry.Step 1900 4 1); next = Some (row 3 (entry.Step 2800 104 0)) }

abbrev changed : List EntryRow
changed = map (changed_by 2 (around_rollover.next) (last_before turning around_rollover))
    (row 4 (entry.Step 3700 204 0) ∷ row 3 (entry.Step 2800 104 0) ∷ row 2 (entry.Step 1900 4 1) ∷ [])

rollover_moves : changed
    ≡ row 4 (entry.Step 3700 204 0)
    ∷ row 3 (entry.Step 2800 104 1)
    ∷ record { place = 2; kind = kind.Reading; entry = entry.Step 1900 4 1; stands = false }
    ∷ []
rollover_moves = refl

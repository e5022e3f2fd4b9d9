-- Worked examples of the times from and up to which a void (the cancellation of an entry) changes
-- energy.
use Rattle.std.specs.Prelude.{◌≡◌, ℕ, pos, Bool, true, false, List, [], ◌∷◌}
use Rattle.std.proofs.Common.{refl}
use Rattle.meter_journal.specs.declared.audit.rows.RowKind.TheVariants.{Opening, Reading}
use Rattle.meter_journal.specs.declared.audit.rows.TableRow.{TableRow}
use Rattle.table_seals.specs.Notes.{changes_from, changes_till}

-- A meter's opening (first entry), at the time 100.
abbrev opening : TableRow
opening =
    record { place = 1; kind = Opening; moment = 100; raw = 0; rolls = 0; after = 0; sf = pos 0; is_voided = false }

-- A reading with the given index and time.
abbrev reading : (place moment : ℕ) → (is_voided : Bool) → TableRow
reading place moment is_voided =
    record { place = place; kind = Reading; moment = moment; raw = 0; rolls = 0; after = 0; sf = pos 0; is_voided = is_voided }

-- An opening and three readings. The second entry was already voided (cancelled) at the time of the
-- seal.
abbrev sealed : List TableRow
sealed =
    opening ∷ reading 2 200 true ∷ reading 3 300 false ∷ reading 4 400 false ∷ []

-- The entry before the third one was voided, so voiding the third one changes energy from the
-- opening to the fourth entry.
pub example-from : changes_from sealed 3 ≡ 100
example-from = refl

pub example-till : changes_till sealed 3 ≡ 400
example-till = refl

-- After the last entry there is none, so its own time is the end.
pub example-last_from : changes_from sealed 4 ≡ 300
example-last_from = refl

pub example-last_till : changes_till sealed 4 ≡ 400
example-last_till = refl

-- The first entry has none before it.
pub example-first_from : changes_from sealed 1 ≡ 0
example-first_from = refl

pub example-first_till : changes_till sealed 1 ≡ 300
example-first_till = refl

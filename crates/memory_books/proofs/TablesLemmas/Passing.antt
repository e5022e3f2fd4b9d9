-- Lemmas about the entry rows of a meter's journal (history): their sequence numbers are
-- consecutive, and a void (cancellation) does not change them.
use Rattle.std.proofs.Common.{◌≡◌, ℕ, suc, ◌+◌, ◌<◌, ◌≤◌, ◌==◌, ◌&&◌, List, [], ◌∷◌, length, refl, sym, ap, subst, ◌∙◌, inl, inr, Option, Some, None, arith}
use Rattle.std.specs.Option.{option_map}
use Rattle.std.proofs.lemmas.Bool.{cases_Bool, cond-true, cond-false, eqb-true}
use Rattle.energy_core.specs.declared.entries.Last.{Last}
use Rattle.energy_core.specs.Account.{last_of}
use Rattle.meter_journal.specs.declared.lines.EntryRow.{EntryRow}
use Rattle.meter_journal.specs.Journal as journal
use Rattle.meter_journal.specs.Lists.{AreNumbered}

rolled_place : (last : Last) (row : EntryRow) → (journal.rolled last row).place ≡ row.place
rolled_place last row =
    elim (cases_Bool (row.stands && journal.is_reading row.kind)) [
      | inl e ↦ ap (λ (r : EntryRow). r.place) (cond-true _ _ _ e)
      | inr e ↦ ap (λ (r : EntryRow). r.place) (cond-false _ _ _ e)
    ]

pub void_length : (o : Last) (place : ℕ) (rows : List EntryRow) → length (journal.with_void o place rows) ≡ length rows
void_length o place [] = refl
void_length o place (row ∷ rows) =
    elim (cases_Bool (row.place == place)) [
      | inl e ↦ ap length (cond-true _ _ _ e)
      | inr e ↦ ap length (cond-false _ _ _ e) ∙ ap suc (void_length o place rows)
    ]

-- After a void (cancellation) of an entry, the sequence numbers of all entry rows are unchanged.
pub void_numbered : (o : Last) (place : ℕ) (rows : List EntryRow) → AreNumbered rows → AreNumbered (journal.with_void o place rows)
void_numbered o place [] h = tt
void_numbered o place (row ∷ rows) h =
    elim (cases_Bool (row.place == place)) [
      | inl e ↦ subst AreNumbered (sym (cond-true _ _ _ e)) (h.0, h.1)
      | inr e ↦
          let rest = journal.with_void o place rows in
          subst AreNumbered (sym (cond-false _ _ _ e))
          (rolled_place (last_of o (journal.entries_in rest)) row ∙ h.0 ∙ ap (λ n. n + 2) (sym (void_length o place rows)), void_numbered o place rows h.1)
    ]

some_before : (row : EntryRow) (o : Option journal.Around) (x : journal.Around) → option_map (journal.passed row) o ≡ Some x
    → (y : journal.Around) × (o ≡ Some y)
some_before row None x h = absurd (cc)
some_before row (Some y) x h = (y, refl)

-- If a meter has an entry row with the sequence number `place`, then `place` is from 2 to the
-- number of entry rows plus 1.
pub row_inside : (place : ℕ) (rows : List EntryRow) (x : journal.Around) → AreNumbered rows → journal.row_at place rows ≡ Some x
    → (2 ≤ place) × (place < length rows + 2)
row_inside place [] x h is = absurd (cc)
row_inside place (row ∷ rows) x h is =
    elim (cases_Bool (row.place == place)) [
      | inl e ↦ let same_place : row.place ≡ place = eqb-true _ _ e in (omega (arith, h.0, same_place), omega (arith, h.0, same_place))
      | inr e ↦
          let before = some_before row (journal.row_at place rows) x (sym (cond-false _ _ _ e) ∙ is) in
          let there = row_inside place rows before.0 h.1 before.1 in
          (there.0, omega (arith, there.1))
    ]

-- The entry rows of a meter's journal (history) have consecutive sequence numbers from 2.
pub rows_numbered : (o : Last) (lines : journal.Journal) → AreNumbered (journal.rows_of o lines)
rows_numbered o [] = tt
rows_numbered o (journal.Entered k e ∷ lines) = (refl, rows_numbered o lines)
rows_numbered o (journal.Held reading cause ∷ lines) = rows_numbered o lines
rows_numbered o (journal.Voided place ∷ lines) = void_numbered o place (journal.rows_of o lines) (rows_numbered o lines)

-- Lemmas: if a meter's journal (history) continues in another database file, the rows, entries and
-- energies of the joined journal are those of both files.
use Rattle.std.proofs.Common.{◌≡◌, ℕ, ◌+◌, ◌==◌, true, false, ◌&&◌, List, [], ◌∷◌, ◌++◌, map, length, Some, refl, sym, ap, subst, ◌∙◌, inl, inr, arith, eq-eqb}
use Rattle.std.proofs.lemmas.Bool.{cases_Bool, cond-true, cond-false, eqb-true}
use Rattle.std.proofs.lemmas.Bool.Decides.{nat_tests}
use Rattle.std.proofs.lemmas.List.{length-append, length-map}
use Rattle.energy_core.specs.declared.entries.Last.{Last}
use Rattle.energy_core.specs.declared.entries.Step.{Step}
use Rattle.energy_core.specs.declared.entries.Entry.{Entry}
use Rattle.energy_core.specs.Account.{after, last_of, energy_of, step_to, steps_of, Follows, AllFollow}
use Rattle.meter_journal.specs.declared.lines.EntryRow.{EntryRow}
use Rattle.meter_journal.specs.declared.lines.Installed.{Installed}
use Rattle.meter_journal.specs.Books.{IsWellInstalled, last_after, total_after, last_in}
use Rattle.meter_journal.specs.Fitting.{AreFitting}
use Rattle.meter_journal.specs.Journal.{Entered, Held, Voided, Journal, Around, is_reading, entries_in, entries_of, rolled, struck, with_void, new_row, rows_of, passed, row_at}
use Rattle.meter_journal.proofs.Keeping.{entries_standing, entries_struck, mapped_some, above, journals_are_kept}
use Rattle.meter_journal.proofs.Voiding.{whole_with}
use Rattle.meter_journal.specs.Audit.Carried.{carried, moved_line, moved_row}

-- The meter as it is installed in the new database file, after the entries `old` of the old file.
abbrev pub left_by : Installed → List Entry → Installed
left_by meter old = record { range = meter.range; ceiling = meter.ceiling; opening = last_after meter old }

pub last_over : (opening : Last) (es old : List Entry) → last_of opening (es ++ old) ≡ last_of (last_of opening old) es
last_over opening [] old = refl
last_over opening (e ∷ es) old = ap (λ (l : Last). after l e) (last_over opening es old)

pub follow_over : (range : ℕ) (opening : Last) (es old : List Entry) → AllFollow range (last_of opening old) es → AllFollow range opening old
    → AllFollow range opening (es ++ old)
follow_over range opening [] old h g = g
follow_over range opening (e ∷ es) old h g =
    (subst (λ (l : Last). Follows range l e) (sym (last_over opening es old)) h.0, follow_over range opening es old h.1 g)

pub steps_over : (range : ℕ) (opening : Last) (es old : List Entry)
    → steps_of range opening (es ++ old) ≡ steps_of range (last_of opening old) es ++ steps_of range opening old
steps_over range opening [] old = refl
steps_over range opening (e ∷ es) old =
    ap (λ (l : Last). step_to range l e ∷ steps_of range opening (es ++ old)) (last_over opening es old)
    ∙ ap (λ (steps : List Step). step_to range (last_of (last_of opening old) es) e ∷ steps) (steps_over range opening es old)

pub total_over : (meter : Installed) (es old : List Entry) → AllFollow meter.range (last_after meter old) es → AllFollow meter.range meter.opening old
    → total_after meter (es ++ old) ≡ total_after meter old + total_after (left_by meter old) es
total_over meter [] old h g = omega arith
total_over meter (e ∷ es) old h g =
    omega (
      arith,
      total_over meter es old h.1 g,
      whole_with meter e (es ++ old) (follow_over meter.range meter.opening (e ∷ es) old h g),
      whole_with (left_by meter old) e es h,
      ap (λ (l : Last). energy_of meter.range l e) (last_over meter.opening es old),
    )

pub entries_over : (count : ℕ) (rows old : List EntryRow) → entries_in (map (moved_row count) rows ++ old) ≡ entries_in rows ++ entries_in old
entries_over count [] old = refl
entries_over count (row ∷ rows) old =
    let rest = entries_over count rows old in
    elim (cases_Bool row.stands) [
      | inl on ↦
          entries_standing (moved_row count row) (map (moved_row count) rows ++ old) on ∙ ap (λ es. row.entry ∷ es) rest
          ∙ sym (ap (λ es. es ++ entries_in old) (entries_standing row rows on))
      | inr off ↦
          entries_struck (moved_row count row) (map (moved_row count) rows ++ old) off ∙ rest
          ∙ sym (ap (λ es. es ++ entries_in old) (entries_struck row rows off))
    ]

pub moved_same : (count place n : ℕ) → n == place ≡ true → n + count == place + count ≡ true
moved_same count place n at = eq-eqb (n + count) (place + count) (ap (λ m. m + count) (eqb-true n place at))

pub moved_other : (count place n : ℕ) → n == place ≡ false → n + count == place + count ≡ false
moved_other count place n off = grind (arith, nat_tests, off)

rolled_moved : (count : ℕ) (last : Last) (row : EntryRow) → rolled last (moved_row count row) ≡ moved_row count (rolled last row)
rolled_moved count last row =
    elim (cases_Bool (row.stands && is_reading row.kind)) [
      | inl e ↦ cond-true _ _ _ e ∙ sym (ap (moved_row count) (cond-true _ _ _ e))
      | inr e ↦ cond-false _ _ _ e ∙ sym (ap (moved_row count) (cond-false _ _ _ e))
    ]

pub void_over : (opening : Last) (count place : ℕ) (rows old : List EntryRow) (a : Around) → row_at place rows ≡ Some a
    → with_void opening (place + count) (map (moved_row count) rows ++ old)
    ≡ map (moved_row count) (with_void (last_of opening (entries_in old)) place rows) ++ old
void_over opening count place [] old a there = absurd (cc)
void_over opening count place (row ∷ rows) old a there =
    let l : Last = last_of opening (entries_in old) in
    let all : List EntryRow = map (moved_row count) rows ++ old in
    elim (cases_Bool (row.place == place)) [
      | inl at ↦
          let new : with_void opening (place + count) (moved_row count row ∷ all) ≡ struck (moved_row count row) ∷ all =
          cond-true _ _ _ (moved_same count place row.place at) in
          let made : with_void l place (row ∷ rows) ≡ struck row ∷ rows = cond-true _ _ _ at in
          new ∙ sym (ap (λ (rs : List EntryRow). map (moved_row count) rs ++ old) made)
      | inr off ↦
          let found = mapped_some (passed row) (row_at place rows) a (sym (cond-false _ _ _ off) ∙ there) in
          let rest : List EntryRow = with_void l place rows in
          let below : with_void opening (place + count) all ≡ map (moved_row count) rest ++ old =
          void_over opening count place rows old found.0 found.1 in
          let last : last_of opening (entries_in (map (moved_row count) rest ++ old)) ≡ last_of l (entries_in rest) =
          ap (last_of opening) (entries_over count rest old) ∙ last_over opening (entries_in rest) (entries_in old) in
          above opening (place + count) (moved_row count row) all (moved_other count place row.place off)
          ∙ ap (λ (rs : List EntryRow). rolled (last_of opening (entries_in rs)) (moved_row count row) ∷ rs) below
          ∙ ap (λ (x : Last). rolled x (moved_row count row) ∷ (map (moved_row count) rest ++ old)) last
          ∙ ap (λ (r : EntryRow). r ∷ (map (moved_row count) rest ++ old)) (rolled_moved count (last_of l (entries_in rest)) row)
          ∙ sym (ap (λ (rs : List EntryRow). map (moved_row count) rs ++ old) (above l place row rows off))
    ]

pub place_over : (count : ℕ) (rows old : List EntryRow) → length old ≡ count → length (map (moved_row count) rows ++ old) + 2 ≡ length rows + 2 + count
place_over count rows old long = omega (arith, long, length-append (map (moved_row count) rows) old, length-map rows (moved_row count))

pub rows_over : (meter : Installed) (count : ℕ) (lines more : Journal) → length (rows_of meter.opening lines) ≡ count
    → AreFitting (carried meter lines) more
    → rows_of meter.opening (map (moved_line count) more ++ lines)
    ≡ map (moved_row count) (rows_of (last_in meter lines) more) ++ rows_of meter.opening lines
rows_over meter count lines [] long h = refl
rows_over meter count lines (Entered k e ∷ more) long h =
    let rows : List EntryRow = rows_of (last_in meter lines) more in
    let old : List EntryRow = rows_of meter.opening lines in
    let all : List EntryRow = map (moved_row count) rows ++ old in
    ap (λ (rs : List EntryRow). new_row rs k e ∷ rs) (rows_over meter count lines more long h.1)
    ∙ ap (λ n. let row : EntryRow = record { place = n; kind = k; entry = e; stands = true } in row ∷ all) (place_over count rows old long)
rows_over meter count lines (Held reading cause ∷ more) long h = rows_over meter count lines more long h.1
rows_over meter count lines (Voided place ∷ more) long h =
    ap (with_void meter.opening (place + count)) (rows_over meter count lines more long h.1)
    ∙ void_over meter.opening count place (rows_of (last_in meter lines) more) (rows_of meter.opening lines) h.0.around h.0.there

pub entries_of_both : (meter : Installed) (count : ℕ) (lines more : Journal) → length (rows_of meter.opening lines) ≡ count
    → AreFitting (carried meter lines) more
    → entries_of meter.opening (map (moved_line count) more ++ lines)
    ≡ entries_of (last_in meter lines) more ++ entries_of meter.opening lines
entries_of_both meter count lines more long h =
    ap entries_in (rows_over meter count lines more long h)
    ∙ entries_over count (rows_of (last_in meter lines) more) (rows_of meter.opening lines)

pub well_carried : (meter : Installed) (lines : Journal) → IsWellInstalled meter → AreFitting meter lines → IsWellInstalled (carried meter lines)
well_carried meter lines well h =
    let kept = journals_are_kept meter lines well h in record { raw = kept.sound.raw; scale = kept.sound.scale }

-- Proofs about the rows of a meter's history: each row fits its kind of entry, and is marked as
-- voided (cancelled) exactly if a void names the entry.
use Rattle.std.proofs.Common.{◌≡◌, ℕ, ◌==◌, ◌&&◌, Bool, true, false, not, List, [], ◌∷◌, refl, sym, ap, subst, ◌∙◌, inl, inr, Option, Some, None}
use Rattle.std.specs.List.{AllByRecursion}
use Rattle.std.proofs.lemmas.Bool.{cases_Bool, cond-true, cond-false}
use Rattle.energy_core.specs.declared.entries.Last.{Last}
use Rattle.energy_core.specs.declared.entries.Entry.{Entry}
use Rattle.energy_core.specs.declared.entries.Entry.TheVariants as entry
use Rattle.energy_core.specs.Account.{last_of}
use Rattle.meter_journal.specs.declared.lines.Installed.{Installed}
use Rattle.meter_journal.specs.declared.lines.EntryKind.{EntryKind}
use Rattle.meter_journal.specs.declared.lines.EntryKind.TheVariants as kind
use Rattle.meter_journal.specs.declared.lines.EntryRow.{EntryRow}
use Rattle.meter_journal.specs.Journal.{Entered, Held, Voided, Journal, Around, is_reading, is_read, entries_in, rows_of, with_rolls, rolled, with_void, passed, row_at}
use Rattle.meter_journal.specs.Fitting.{EntryFits, is_free, AreFitting}
use Rattle.meter_journal.specs.Standing.{is_voided}
use Rattle.meter_journal.proofs.AsEntered.{AreRowsOf, rows_are_entered}
use Rattle.meter_journal.proofs.Keeping.{all_three, by_read, mapped_some}

-- True if meter entries of a kind set the counter: a counter reset, or a rescale (a change of the
-- scale factor).
abbrev pub sets : EntryKind → Bool
sets kind.Reading = false
sets kind.Manual = false
sets kind.Closing = false
sets kind.Reset = true
sets kind.Rescale = true

abbrev pub is_change : Entry → Bool
is_change (entry.Step at raw rolls) = false
is_change (entry.Change at before new sf) = true

-- True if the entry in a row of a meter's history fits the row's kind, and the row is not voided
-- (cancelled) if the entry sets the counter.
pub record IsFormed (row : EntryRow) : Type 0 where
  pub kind : sets row.kind ≡ is_change row.entry
  pub stands : is_change row.entry ≡ true → row.stands ≡ true

new_formed : (meter : Installed) (es : List Entry) (k : EntryKind) (e : Entry) → EntryFits meter es k e → sets k ≡ is_change e
new_formed meter es kind.Reading (entry.Step at raw rolls) h = refl
new_formed meter es kind.Reading (entry.Change at before new sf) h = absurd h
new_formed meter es kind.Manual (entry.Step at raw rolls) h = refl
new_formed meter es kind.Manual (entry.Change at before new sf) h = absurd h
new_formed meter es kind.Closing (entry.Step at raw rolls) h = refl
new_formed meter es kind.Closing (entry.Change at before new sf) h = absurd h
new_formed meter es kind.Reset (entry.Step at raw rolls) h = absurd h
new_formed meter es kind.Reset (entry.Change at before new sf) h = refl
new_formed meter es kind.Rescale (entry.Step at raw rolls) h = absurd h
new_formed meter es kind.Rescale (entry.Change at before new sf) h = refl

same_form : (last : Last) (e : Entry) → is_change e ≡ is_change (with_rolls last e)
same_form last (entry.Step at raw rolls) = refl
same_form last (entry.Change at before new sf) = refl

rolled_formed : (last : Last) (row : EntryRow) → IsFormed row → IsFormed (rolled last row)
rolled_formed last row h =
    elim (cases_Bool (row.stands && is_reading row.kind)) [
      | inl e ↦ subst IsFormed (sym (cond-true _ _ _ e)) (record {
        kind = h.kind ∙ same_form last row.entry;
        stands = λ is. h.stands (same_form last row.entry ∙ is);
      })
      | inr e ↦ subst IsFormed (sym (cond-false _ _ _ e)) h
    ]

-- If a reading in a meter's history is marked as voided (cancelled), its row still satisfies
-- `IsFormed`: the entry fits the row's kind.
struck_formed : (row : EntryRow) → is_read row.kind row.entry ≡ true → IsFormed (record row { stands = false })
struck_formed row read =
    by_read (λ k e. IsFormed (record { place = row.place; kind = k; entry = e; stands = false }))
    (λ at raw rolls. record { kind = refl; stands = λ is. absurd (let h = is in cc) }) row.kind row.entry read

void_formed : (opening : Last) (place : ℕ) (rows : List EntryRow) (a : Around) → row_at place rows ≡ Some a → is_read a.row.kind a.row.entry ≡ true
    → AllByRecursion IsFormed rows → AllByRecursion IsFormed (with_void opening place rows)
void_formed opening place [] a there read h = tt
void_formed opening place (row ∷ rows) a there read h =
    elim (cases_Bool (row.place == place)) [
      | inl at ↦
          let found : Around = record { before = rows; row = row; next = None } in
          let is : Some found ≡ Some a = sym (cond-true _ _ _ at) ∙ there in
          let mine : is_read row.kind row.entry ≡ true = ap (λ (o : Option Around). read_at o) is ∙ read in
          subst (AllByRecursion IsFormed) (sym (cond-true _ _ _ at)) (struck_formed row mine, h.1)
      | inr off ↦
          let found = mapped_some (passed row) (row_at place rows) a (sym (cond-false _ _ _ off) ∙ there) in
          let theirs : is_read found.0.row.kind found.0.row.entry ≡ true = ap (λ (x : Around). is_read x.row.kind x.row.entry) found.2 ∙ read in
          let rest = with_void opening place rows in
          subst (AllByRecursion IsFormed) (sym (cond-false _ _ _ off))
          (rolled_formed (last_of opening (entries_in rest)) row h.0, void_formed opening place rows found.0 found.1 theirs h.1)
    ]
  where
    read_at : Option Around → Bool
    read_at None = false
    read_at (Some x) = is_read x.row.kind x.row.entry

pub rows_are_formed : (meter : Installed) (lines : Journal) → AreFitting meter lines → AllByRecursion IsFormed (rows_of meter.opening lines)
rows_are_formed meter [] h = tt
rows_are_formed meter (Entered k e ∷ lines) h = (
  record { kind = new_formed meter _ k e h.0.1; stands = λ is. refl },
  rows_are_formed meter lines h.1,
)
rows_are_formed meter (Held reading cause ∷ lines) h = rows_are_formed meter lines h.1
rows_are_formed meter (Voided place ∷ lines) h =
    let around = h.0.around in
    let may = all_three around.row.stands (is_read around.row.kind around.row.entry) (is_free around.next) h.0.voidable in
    void_formed meter.opening place (rows_of meter.opening lines) around h.0.there may.1 (rows_are_formed meter lines h.1)

-- True if a row of a meter's history is marked as voided (cancelled) if and only if the history
-- voids the entry at the row's index.
abbrev pub StandsBy : Journal → EntryRow → Type 0
StandsBy whole row = row.stands ≡ not (is_voided row.place whole)

stand_by : (whole lines : Journal) (rows : List EntryRow) → AreRowsOf whole lines rows → AllByRecursion (StandsBy whole) rows
stand_by whole [] [] h = tt
stand_by whole [] (row ∷ rows) h = absurd h
stand_by whole (Entered k e ∷ lines) [] h = absurd h
stand_by whole (Entered k e ∷ lines) (row ∷ rows) h =
    (h.0.stands_is ∙ ap (λ n. not (is_voided n whole)) (sym h.0.place_is), stand_by whole lines rows h.1)
stand_by whole (Held reading cause ∷ lines) rows h = stand_by whole lines rows h
stand_by whole (Voided place ∷ lines) rows h = stand_by whole lines rows h

pub rows_stand_by : (meter : Installed) (lines : Journal) → AreFitting meter lines → AllByRecursion (StandsBy lines) (rows_of meter.opening lines)
rows_stand_by meter lines h = stand_by lines lines (rows_of meter.opening lines) (rows_are_entered meter lines h).rows

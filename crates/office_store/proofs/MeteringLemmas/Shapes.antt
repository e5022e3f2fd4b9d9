-- Proofs that each row of a meter's journal (its history) fits its kind of entry, and is marked as
-- voided (cancelled) exactly if a void names the entry.
use Rattle.std.proofs.Common.{◌≡◌, ◌≢◌, ℕ, ◌+◌, ◌≤◌, ◌==◌, ◌&&◌, ◌||◌, not, Bool, true, false, cond, inl, inr, ◌⊎◌, List, [], ◌∷◌, map, length, Option, Some, None, option_map, refl, sym, ap, ap₂, subst, ◌∙◌, arith, eq-eqb, eqb-true}
use Rattle.std.specs.List.{AllByRecursion}
use Rattle.std.proofs.lemmas.Bool.{cases_Bool, cond-true, cond-false}
use Rattle.std.proofs.lemmas.List.{length-map}
use Rattle.std.proofs.lemmas.Option.{same_Some}
use Rattle.sqlite_keyed.proofs.ListLemmas.{all_weaker, all_both, all_map}
use Rattle.sqlite_keyed.proofs.RuleLemmas.{first_of_both, second_of_both}
use Rattle.energy_core.specs.declared.entries.Last.{Last}
use Rattle.energy_core.specs.declared.entries.Entry.{Entry}
use Rattle.energy_core.specs.declared.entries.Entry.TheVariants as entry
use Rattle.energy_core.specs.Account.{last_of}
use Rattle.meter_journal.specs.declared.lines.Installed.{Installed}
use Rattle.meter_journal.specs.declared.lines.EntryKind.{EntryKind}
use Rattle.meter_journal.specs.declared.lines.EntryKind.TheVariants as kind
use Rattle.meter_journal.specs.declared.lines.EntryRow.{EntryRow}
use Rattle.meter_journal.specs.Books.{IsWellInstalled}
use Rattle.meter_journal.specs.Fitting.{AreFitting, Fits, EntryFits, VoidFits, is_voidable, is_free}
use Rattle.meter_journal.specs.Journal.{Entered, Held, Voided, Journal, Around, is_reading, is_read, with_rolls, rolled, struck, rows_of, row_at, passed}
use Rattle.meter_journal.specs.Lists.{AreNumbered}
use Rattle.meter_journal.specs.Laws.{RowsStand}
use Rattle.meter_journal.specs.Standing.{is_voided}
use Rattle.meter_journal.specs.Voids.{VoidsChangeTwoRows, changed_by, is_next, last_before}

-- True if a meter entry fits its kind: a reset or a rescale sets the counter, and any other entry
-- does not.
abbrev pub HasShape : EntryKind → Entry → Type 0
HasShape kind.Reading (entry.Step at raw rolls) = Unit {0}
HasShape kind.Manual (entry.Step at raw rolls) = Unit {0}
HasShape kind.Closing (entry.Step at raw rolls) = Unit {0}
HasShape kind.Reset (entry.Change at before after sf) = Unit {0}
HasShape kind.Rescale (entry.Change at before after sf) = Unit {0}
HasShape kind.Reading (entry.Change at before after sf) = ⊥
HasShape kind.Manual (entry.Change at before after sf) = ⊥
HasShape kind.Closing (entry.Change at before after sf) = ⊥
HasShape kind.Reset (entry.Step at raw rolls) = ⊥
HasShape kind.Rescale (entry.Step at raw rolls) = ⊥

has_shape : (meter : Installed) (es : List Entry) (k : EntryKind) (e : Entry) → EntryFits meter es k e → HasShape k e
has_shape meter es kind.Reading (entry.Step at raw rolls) h = tt
has_shape meter es kind.Manual (entry.Step at raw rolls) h = tt
has_shape meter es kind.Closing (entry.Step at raw rolls) h = tt
has_shape meter es kind.Reset (entry.Change at before after sf) h = tt
has_shape meter es kind.Rescale (entry.Change at before after sf) h = tt
has_shape meter es kind.Reading (entry.Change at before after sf) h = absurd h
has_shape meter es kind.Manual (entry.Change at before after sf) h = absurd h
has_shape meter es kind.Closing (entry.Change at before after sf) h = absurd h
has_shape meter es kind.Reset (entry.Step at raw rolls) h = absurd h
has_shape meter es kind.Rescale (entry.Step at raw rolls) h = absurd h

-- True if a row of a meter's journal (its history) fits its kind of entry, and is marked as voided
-- exactly if the journal voids (cancels) it. Only readings may be voided.
pub record IsPlain (lines : Journal) (row : EntryRow) : Type 0 where
  pub shape : HasShape row.kind row.entry
  pub reading : row.stands ≡ false → is_read row.kind row.entry ≡ true
  pub stands : row.stands ≡ not (is_voided row.place lines)

-- Lemmas that, if rows are numbered by index, a search by index finds each row.

abbrev pub IsBelow : ℕ → EntryRow → Type 0
IsBelow n row = row.place ≤ n

pub below : (n : ℕ) (rows : List EntryRow) → AreNumbered rows → length rows + 1 ≤ n → AllByRecursion (IsBelow n) rows
below n [] numbered le = tt
below n (row ∷ rows) numbered le = ((let at = numbered.0 in omega (arith, at, le)), below n rows numbered.1 (omega (arith, le)))

-- States that, if an entry row of a meter has the index `place`, it equals the row `found`. States
-- nothing about rows with another index.
abbrev pub FoundThere : (place : ℕ) → EntryRow → EntryRow → Type 0
FoundThere place found row = row.place ≡ place → found ≡ row

pub found_rest : (place : ℕ) (row : EntryRow) (o : Option Around) (around : Around) → option_map (passed row) o ≡ Some around → (rest : Around) × (o ≡ Some rest) × (around.row ≡ rest.row)
found_rest place row None around h = absurd (let e = h in cc)
found_rest place row (Some rest) around h = (rest, refl, ap (λ (a : Around). a.row) (sym (same_Some (passed row rest) around h)))

pub found_there : (place : ℕ) (rows : List EntryRow) (around : Around) → AreNumbered rows → row_at place rows ≡ Some around
    → AllByRecursion (FoundThere place around.row) rows × (around.row.place ≡ place) × (place ≤ length rows + 1)
found_there place [] around numbered h = absurd (let e = h in cc)
found_there place (row ∷ rows) around numbered h = elim (cases_Bool (row.place == place)) [
  | inl is ↦
      let this : record { before = rows; row = row; next = None } ≡ around = same_Some _ around (sym (cond-true _ _ _ is) ∙ h) in
      let at : row.place ≡ place = eqb-true row.place place is in
      let number : row.place ≡ length rows + 2 = numbered.0 in
      let found : around.row ≡ row = ap (λ (a : Around). a.row) (sym this) in (
        (λ e. found, all_weaker (IsBelow (length rows + 1)) (FoundThere place around.row) (λ r le e. absurd (omega (arith, le, e, at, number))) rows (below (length rows + 1) rows numbered.1 (omega arith))),
        ap (λ (r : EntryRow). r.place) found ∙ at,
        omega (arith, at, number),
      )
  | inr off ↦
      let rest = found_rest place row (row_at place rows) around (sym (cond-false _ _ _ off) ∙ h) in
      let more = found_there place rows rest.0 numbered.1 rest.1 in
      let apart : row.place ≡ place → ⊥ = λ e. let is : (row.place == place) ≡ true = eq-eqb row.place place e in let f : true ≡ false = sym is ∙ off in absurd (cc) in (
        (λ e. absurd (apart e), all_weaker (FoundThere place rest.0.row) (FoundThere place around.row) (λ r h e. rest.2 ∙ h e) rows more.0),
        ap (λ (r : EntryRow). r.place) rest.2 ∙ more.1,
        (let le = more.2 in omega (arith, le)),
      )
]

-- Lemmas that, if an entry of a meter is voided (cancelled), the row of every other entry keeps its
-- kind and its mark (voided or not).

shape_rolled : (last : Last) (k : EntryKind) (e : Entry) → HasShape k e → HasShape k (with_rolls last e)
shape_rolled last k (entry.Change at before after sf) h = h
shape_rolled last kind.Reading (entry.Step at raw rolls) h = tt
shape_rolled last kind.Manual (entry.Step at raw rolls) h = tt
shape_rolled last kind.Closing (entry.Step at raw rolls) h = tt
shape_rolled last kind.Reset (entry.Step at raw rolls) h = absurd h
shape_rolled last kind.Rescale (entry.Step at raw rolls) h = absurd h

module _ (lines : Journal) (place : ℕ) where
  abbrev Later : Journal
  Later = Voided place ∷ lines

  -- If a new void (the cancellation of an entry) names another entry than the one in a row, the row
  -- still fits the meter's history with this void.
  unnamed : (row : EntryRow) → (row.place == place) ≡ false → IsPlain lines row → IsPlain Later row
  unnamed row off h = record { shape = h.shape; reading = h.reading; stands = h.stands ∙ sym (ap (λ b. not (b || is_voided row.place lines)) off) }

  rolled_if : (b : Bool) (last : Last) (row : EntryRow) → (row.stands && is_reading row.kind) ≡ b → (row.place == place) ≡ false → IsPlain lines row
      → IsPlain Later (cond b (record row { entry = with_rolls last row.entry }) row)
  rolled_if false last row is off h = unnamed row off h
  rolled_if true last row is off h = record {
    shape = shape_rolled last row.kind row.entry h.shape;
    reading = λ none. absurd (let on : row.stands ≡ true = first_of_both row.stands (is_reading row.kind) is in let e : true ≡ false = sym on ∙ none in cc);
    stands = h.stands ∙ sym (ap (λ b. not (b || is_voided row.place lines)) off);
  }

  next_if : (b : Bool) (last : Last) (row : EntryRow) → (row.place == place) ≡ false → IsPlain lines row → IsPlain Later (cond b (rolled last row) row)
  next_if true last row off h = rolled_if (row.stands && is_reading row.kind) last row refl off h
  next_if false last row off h = unnamed row off h

  changed_if : (b : Bool) (next : Option EntryRow) (last : Last) (row : EntryRow) → (row.place == place) ≡ b → (b ≡ true → is_read row.kind row.entry ≡ true) → IsPlain lines row
      → IsPlain Later (cond b (struck row) (cond (is_next next row) (rolled last row) row))
  changed_if true next last row is read h = record {
    shape = h.shape;
    reading = λ none. read refl;
    stands = sym (ap (λ b. not (b || is_voided row.place lines)) is);
  }
  changed_if false next last row is read h = next_if (is_next next row) last row is h

-- Lemmas that every row of a meter's history fits its kind of entry, and is marked as voided
-- (cancelled) exactly if a void names the entry.

plain_entered : (k : EntryKind) (e : Entry) (lines : Journal) (row : EntryRow) → IsPlain lines row → IsPlain (Entered k e ∷ lines) row
plain_entered k e lines row h = record { shape = h.shape; reading = h.reading; stands = h.stands }

not_true : (b : Bool) → (b ≡ true → ⊥) → b ≡ false
not_true true h = absurd (h refl)
not_true false h = refl

module _ (stand : RowsStand) (change : VoidsChangeTwoRows) (meter : Installed) (well : IsWellInstalled meter) where
  -- If a meter's journal (its history) has a void (the cancellation of an entry), the cancelled
  -- entry exists.
  voids_low : (lines : Journal) → AreFitting meter lines → (place : ℕ) → is_voided place lines ≡ true → place ≤ length (rows_of meter.opening lines) + 1
  voids_low [] fits place h = absurd (let e = h in cc)
  voids_low (Entered k e ∷ lines) fits place h = let low = voids_low lines fits.1 place h in omega (arith, low)
  voids_low (Held reading cause ∷ lines) fits place h = voids_low lines fits.1 place h
  voids_low (Voided named ∷ lines) fits place h =
      let f = fits.0 in
      let around = f.around in
      let numbered = (stand meter lines well fits.1).places in
      let at = found_there named (rows_of meter.opening lines) around numbered f.there in
      let same_count : length (rows_of meter.opening (Voided named ∷ lines)) ≡ length (rows_of meter.opening lines) =
      ap length (change meter lines named around well fits f.there).rows ∙ length-map (rows_of meter.opening lines) _ in
      let bound = at.2 in
      elim (cases_Bool (place == named)) [
        | inl is ↦ let e : place ≡ named = eqb-true place named is in omega (arith, e, bound, same_count)
        | inr off ↦ let low = voids_low lines fits.1 place (sym (ap (λ b. b || is_voided place lines) off) ∙ h) in omega (arith, low, same_count)
      ]

  pub plain : (lines : Journal) → AreFitting meter lines → AllByRecursion (IsPlain lines) (rows_of meter.opening lines)
  plain [] fits = tt
  plain (Entered k e ∷ lines) fits =
      let rows = rows_of meter.opening lines in
      let new : is_voided (length rows + 2) lines ≡ false = not_true _ (λ is. let low = voids_low lines fits.1 (length rows + 2) is in absurd (omega (arith, low))) in (
        record {
          shape = has_shape meter _ k e fits.0.1;
          reading = λ none. absurd (let f = none in cc);
          stands = sym (ap not new);
        },
        all_weaker (IsPlain lines) (IsPlain (Entered k e ∷ lines)) (plain_entered k e lines) rows (plain lines fits.1),
      )
  plain (Held reading cause ∷ lines) fits =
      all_weaker (IsPlain lines) (IsPlain (Held reading cause ∷ lines)) (λ row h. record { shape = h.shape; reading = h.reading; stands = h.stands }) _ (plain lines fits.1)
  plain (Voided place ∷ lines) fits =
      let f = fits.0 in
      let around = f.around in
      let rows = rows_of meter.opening lines in
      let last = last_before meter.opening around in
      let at = found_there place rows around (stand meter lines well fits.1).places f.there in
      let read : is_read around.row.kind around.row.entry ≡ true =
      second_of_both around.row.stands (is_read around.row.kind around.row.entry) (first_of_both (around.row.stands && is_read around.row.kind around.row.entry) (is_free around.next) f.voidable) in
      let each = all_both (IsPlain lines) (FoundThere place around.row) (λ row. IsPlain (Voided place ∷ lines) (changed_by place around.next last row))
      (λ row h found. changed_if lines place (row.place == place) around.next last row refl
      (λ is. let e : row.place ≡ place = eqb-true row.place place is in subst (λ (r : EntryRow). is_read r.kind r.entry ≡ true) (found e) read) h)
      rows (plain lines fits.1) at.0 in
      subst (AllByRecursion (IsPlain (Voided place ∷ lines))) (sym (change meter lines place around well fits f.there).rows)
      (all_map (IsPlain (Voided place ∷ lines)) (changed_by place around.next last) rows each)

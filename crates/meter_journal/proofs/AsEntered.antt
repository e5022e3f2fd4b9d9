-- Lemmas: the rows of a meter's journal (history) are those of its recorded entries, in order. A
-- void (the cancellation of an entry) marks only the row of that entry.
use Rattle.std.proofs.Common.{◌≡◌, ℕ, ◌+◌, ◌<◌, ◌≤◌, ◌==◌, Bool, true, false, not, cond, ◌&&◌, ◌||◌, List, [], ◌∷◌, map, length, refl, sym, ap, subst, ◌∙◌, inl, inr, Some, arith}
use Rattle.std.proofs.lemmas.Bool.{cases_Bool, cond-true, cond-false, eqb-true}
use Rattle.std.proofs.lemmas.Bool.Decides.{nat_tests}
use Rattle.energy_core.specs.declared.entries.Last.{Last}
use Rattle.energy_core.specs.declared.entries.Entry.{Entry}
use Rattle.energy_core.specs.declared.entries.Entry.TheVariants as entry
use Rattle.energy_core.specs.Account.{last_of}
use Rattle.meter_journal.specs.declared.lines.Installed.{Installed}
use Rattle.meter_journal.specs.declared.lines.EntryKind.{EntryKind}
use Rattle.meter_journal.specs.declared.lines.EntryKind.TheVariants as kind
use Rattle.meter_journal.specs.declared.lines.EntryRow.{EntryRow}
use Rattle.meter_journal.specs.Books.{last_after}
use Rattle.meter_journal.specs.Journal.{Entered, Held, Voided, Journal, Around, is_reading, standing, entries_in, new_row, rows_of, with_rolls, rolled, struck, with_void, passed, row_at}
use Rattle.meter_journal.specs.Fitting.{EntryFits, AreFitting}
use Rattle.meter_journal.specs.Standing.{is_voided, entered_count, unvoided, AllStillFit}
use Rattle.meter_journal.specs.Lists.{AreNumbered}
use Rattle.meter_journal.specs.Laws.{RowsStand}
use Rattle.meter_journal.proofs.Keeping.{mapped_some, rows_are_sound}
use Rattle.meter_journal.proofs.StillFitting.{rolls_of}

-- An entry with the rollovers that its kind requires. A reading's rollovers are computed from the
-- counter's state `last`, and any other entry is unchanged.
abbrev pub own_rolls : EntryKind → Last → Entry → Entry
own_rolls k last e = cond (is_reading k) (with_rolls last e) e

-- States that a meter's entry row has the sequence number, the kind and the entry that the journal
-- (history) recorded, except for the rollovers. The row is valid if and only if no void
-- (cancellation) in the complete journal `whole` names its number.
pub record IsRowOf (whole : Journal) (place : ℕ) (k : EntryKind) (e : Entry) (row : EntryRow) : Type 0 where
  pub place_is : row.place ≡ place
  pub kind_is : row.kind ≡ k
  pub entry_is : (last : Last) → own_rolls k last row.entry ≡ own_rolls k last e
  pub stands_is : row.stands ≡ not (is_voided place whole)

abbrev pub AreRowsOf : (whole : Journal) → Journal → List EntryRow → Type 0
AreRowsOf whole [] [] = Unit {0}
AreRowsOf whole [] (row ∷ rows) = ⊥
AreRowsOf whole (Entered k e ∷ lines) [] = ⊥
AreRowsOf whole (Entered k e ∷ lines) (row ∷ rows) = IsRowOf whole (entered_count lines + 2) k e row × AreRowsOf whole lines rows
AreRowsOf whole (Held reading cause ∷ lines) rows = AreRowsOf whole lines rows
AreRowsOf whole (Voided place ∷ lines) rows = AreRowsOf whole lines rows

pub count_of : (whole lines : Journal) (rows : List EntryRow) → AreRowsOf whole lines rows → length rows ≡ entered_count lines
count_of whole [] [] h = refl
count_of whole [] (row ∷ rows) h = absurd h
count_of whole (Entered k e ∷ lines) [] h = absurd h
count_of whole (Entered k e ∷ lines) (row ∷ rows) h = omega (arith, count_of whole lines rows h.1)
count_of whole (Held reading cause ∷ lines) rows h = count_of whole lines rows h
count_of whole (Voided place ∷ lines) rows h = count_of whole lines rows h

-- Suppose that two complete journals void (cancel) the same sequence numbers below `bound`. Then
-- the rows of journal lines whose numbers are below `bound` are the same in both journals.
renamed : (whole whole' : Journal) (bound : ℕ) (lines : Journal) (rows : List EntryRow) → entered_count lines + 2 ≤ bound
    → ((place : ℕ) → place < bound → is_voided place whole' ≡ is_voided place whole)
    → AreRowsOf whole lines rows → AreRowsOf whole' lines rows
renamed whole whole' bound [] [] le same h = tt
renamed whole whole' bound [] (row ∷ rows) le same h = absurd h
renamed whole whole' bound (Entered k e ∷ lines) [] le same h = absurd h
renamed whole whole' bound (Entered k e ∷ lines) (row ∷ rows) le same h = (
  record {
    place_is = h.0.place_is;
    kind_is = h.0.kind_is;
    entry_is = h.0.entry_is;
    stands_is = h.0.stands_is ∙ ap not (sym (same (entered_count lines + 2) (omega (arith, le))));
  },
  renamed whole whole' bound lines rows (omega (arith, le)) same h.1,
)
renamed whole whole' bound (Held reading cause ∷ lines) rows le same h = renamed whole whole' bound lines rows le same h
renamed whole whole' bound (Voided place ∷ lines) rows le same h = renamed whole whole' bound lines rows le same h

not_named : (p place : ℕ) (b : Bool) → p == place ≡ false → ((p == place) || b) ≡ b
not_named p place b e = ap (λ x. x || b) e

below_another : (p place : ℕ) → p < place → p == place ≡ false
below_another p place lt = grind (arith, nat_tests, lt)

above_another : (p place : ℕ) → place < p → p == place ≡ false
above_another p place lt = grind (arith, nat_tests, lt)

and_second : (b c : Bool) → b && c ≡ true → c ≡ true
and_second true c h = h
and_second false c h = absurd (cc)

by_rolled : (P : EntryRow → Type 0) (last : Last) (row : EntryRow) → P row
    → (is_reading row.kind ≡ true → P (record row { entry = with_rolls last row.entry })) → P (rolled last row)
by_rolled P last row same new =
    elim (cases_Bool (row.stands && is_reading row.kind)) [
      | inl e ↦ subst P (sym (cond-true _ _ _ e)) (new (and_second row.stands (is_reading row.kind) e))
      | inr e ↦ subst P (sym (cond-false _ _ _ e)) same
    ]

rolled_twice : (k : EntryKind) (l last : Last) (e : Entry) → is_reading k ≡ true → own_rolls k l (with_rolls last e) ≡ own_rolls k l e
rolled_twice kind.Reading l last (entry.Step at raw rolls) is = refl
rolled_twice kind.Reading l last (entry.Change at before new sf) is = refl
rolled_twice kind.Manual l last e is = absurd (let f : false ≡ true = is in cc)
rolled_twice kind.Closing l last e is = absurd (let f : false ≡ true = is in cc)
rolled_twice kind.Reset l last e is = absurd (let f : false ≡ true = is in cc)
rolled_twice kind.Rescale l last e is = absurd (let f : false ≡ true = is in cc)

-- If an entry is voided (cancelled), then the row of every other entry still has its recorded
-- entry, except for the rollovers.
row_kept : (opening : Last) (place : ℕ) (whole : Journal) (n : ℕ) (k : EntryKind) (e : Entry) (last : Last) (row : EntryRow)
    → IsRowOf whole n k e row → n == place ≡ false → IsRowOf (Voided place ∷ whole) n k e (rolled last row)
row_kept opening place whole n k e last row h off =
    let stands : row.stands ≡ not (is_voided n (Voided place ∷ whole)) = h.stands_is ∙ ap not (sym (not_named n place (is_voided n whole) off)) in
    by_rolled (IsRowOf (Voided place ∷ whole) n k e) last row
    (record { place_is = h.place_is; kind_is = h.kind_is; entry_is = h.entry_is; stands_is = stands })
    (λ reading.
    record {
      place_is = h.place_is;
      kind_is = h.kind_is;
      entry_is = λ l. rolled_twice k l last row.entry (ap is_reading (sym h.kind_is) ∙ reading) ∙ h.entry_is l;
      stands_is = stands;
    })

-- If an entry is voided (cancelled), then its row is marked as voided, and still has the recorded
-- entry.
row_struck : (place : ℕ) (whole : Journal) (n : ℕ) (k : EntryKind) (e : Entry) (row : EntryRow)
    → IsRowOf whole n k e row → n == place ≡ true → IsRowOf (Voided place ∷ whole) n k e (struck row)
row_struck place whole n k e row h at =
    record {
      place_is = h.place_is;
      kind_is = h.kind_is;
      entry_is = h.entry_is;
      stands_is = sym (ap (λ b. not (b || is_voided n whole)) at);
    }

void_strikes : (opening : Last) (place : ℕ) (whole lines : Journal) (rows : List EntryRow) → AreRowsOf whole lines rows
    → AreRowsOf (Voided place ∷ whole) lines (with_void opening place rows)
void_strikes opening place whole [] [] h = tt
void_strikes opening place whole [] (row ∷ rows) h = absurd h
void_strikes opening place whole (Entered k e ∷ lines) [] h = absurd h
void_strikes opening place whole (Entered k e ∷ lines) (row ∷ rows) h =
    let n : ℕ = entered_count lines + 2 in
    let same : n == place ≡ row.place == place = ap (λ m. m == place) (sym h.0.place_is) in
    elim (cases_Bool (row.place == place)) [
      | inl at ↦
          let is : row.place ≡ place = eqb-true row.place place at in
          subst (AreRowsOf (Voided place ∷ whole) (Entered k e ∷ lines)) (sym (cond-true _ _ _ at)) (
            row_struck place whole n k e row h.0 (same ∙ at),
            renamed whole (Voided place ∷ whole) n lines rows (omega arith)
                (λ p lt. not_named p place (is_voided p whole) (below_another p place (omega (arith, lt, is, h.0.place_is)))) h.1,
          )
      | inr off ↦
          subst (AreRowsOf (Voided place ∷ whole) (Entered k e ∷ lines)) (sym (cond-false _ _ _ off)) (
            row_kept opening place whole n k e (last_of opening (entries_in (with_void opening place rows))) row h.0 (same ∙ off),
            void_strikes opening place whole lines rows h.1,
          )
    ]
void_strikes opening place whole (Held reading cause ∷ lines) rows h = void_strikes opening place whole lines rows h
void_strikes opening place whole (Voided p ∷ lines) rows h = void_strikes opening place whole lines rows h

-- If the rules for meter entries accept a void (the cancellation of an entry), then it names the
-- sequence number of an existing row.
there_below : (place : ℕ) (whole lines : Journal) (rows : List EntryRow) (a : Around) → AreRowsOf whole lines rows
    → row_at place rows ≡ Some a → place < entered_count lines + 2
there_below place whole [] [] a h there = absurd (cc)
there_below place whole [] (row ∷ rows) a h there = absurd h
there_below place whole (Entered k e ∷ lines) [] a h there = absurd h
there_below place whole (Entered k e ∷ lines) (row ∷ rows) a h there =
    elim (cases_Bool (row.place == place)) [
      | inl at ↦ let is : row.place ≡ place = eqb-true row.place place at in omega (arith, is, h.0.place_is)
      | inr off ↦
          let found = mapped_some (passed row) (row_at place rows) a (sym (cond-false _ _ _ off) ∙ there) in
          let rest = there_below place whole lines rows found.0 h.1 found.1 in omega (arith, rest)
    ]
there_below place whole (Held reading cause ∷ lines) rows a h there = there_below place whole lines rows a h there
there_below place whole (Voided p ∷ lines) rows a h there = there_below place whole lines rows a h there

-- States that the rows of a meter's journal (history) are those of its recorded entries. Also
-- states that no void (cancellation) names a sequence number that does not exist yet.
pub record AreEntered (meter : Installed) (lines : Journal) : Type 0 where
  pub rows : AreRowsOf lines lines (rows_of meter.opening lines)
  pub unnamed : (place : ℕ) → entered_count lines + 2 ≤ place → is_voided place lines ≡ false

entered_next : (meter : Installed) (k : EntryKind) (e : Entry) (lines : Journal) → AreEntered meter lines
    → IsRowOf (Entered k e ∷ lines) (entered_count lines + 2) k e (new_row (rows_of meter.opening lines) k e)
entered_next meter k e lines before =
    record {
      place_is = ap (λ n. n + 2) (count_of lines lines (rows_of meter.opening lines) before.rows);
      kind_is = refl;
      entry_is = λ last. refl;
      stands_is = sym (ap not (before.unnamed (entered_count lines + 2) (omega arith)));
    }

pub rows_are_entered : (meter : Installed) (lines : Journal) → AreFitting meter lines → AreEntered meter lines
rows_are_entered meter [] h = record { rows = tt; unnamed = λ place le. refl }
rows_are_entered meter (Entered k e ∷ lines) h =
    let before : AreEntered meter lines = rows_are_entered meter lines h.1 in
    record {
      rows = (
        entered_next meter k e lines before,
        renamed lines (Entered k e ∷ lines) (entered_count lines + 2) lines (rows_of meter.opening lines) (omega arith) (λ p lt. refl) before.rows,
      );
      unnamed = λ place le. before.unnamed place (omega (arith, le));
    }
rows_are_entered meter (Held reading cause ∷ lines) h =
    let before : AreEntered meter lines = rows_are_entered meter lines h.1 in
    record {
      rows = renamed lines (Held reading cause ∷ lines) (entered_count lines + 2) lines (rows_of meter.opening lines) (omega arith) (λ p lt. refl) before.rows;
      unnamed = before.unnamed;
    }
rows_are_entered meter (Voided place ∷ lines) h =
    let before : AreEntered meter lines = rows_are_entered meter lines h.1 in
    let rows : List EntryRow = rows_of meter.opening lines in
    let lt : place < entered_count lines + 2 = there_below place lines lines rows h.0.around before.rows h.0.there in
    record {
      rows = void_strikes meter.opening place lines lines rows before.rows;
      unnamed = λ p le. not_named p place (is_voided p lines) (above_another p place (omega (arith, lt, le))) ∙ before.unnamed p le;
    }

-- If the rules for meter entries accept a meter entry, then it has the counter rollovers that
-- follow from the valid (not voided) entry before it.
pub settled : (meter : Installed) (es : List Entry) (k : EntryKind) (e : Entry) → EntryFits meter es k e → own_rolls k (last_after meter es) e ≡ e
settled meter es kind.Reading (entry.Step at raw rolls) h = ap (λ n. entry.Step at raw n) (sym (rolls_of meter es at raw rolls h))
settled meter es kind.Reading (entry.Change at before new sf) h = absurd h
settled meter es kind.Manual e h = refl
settled meter es kind.Closing e h = refl
settled meter es kind.Reset e h = refl
settled meter es kind.Rescale e h = refl

abbrev pub row_with : (place : ℕ) → EntryKind → Entry → Bool → EntryRow
row_with place k e stands = record { place = place; kind = k; entry = e; stands = stands }

same_row : (p p' : ℕ) (k k' : EntryKind) (e e' : Entry) (s s' : Bool) → p ≡ p' → k ≡ k' → e ≡ e' → s ≡ s' → row_with p k e s ≡ row_with p' k' e' s'
same_row p p' k k' e e' s s' hp hk he hs =
    ap (λ x. row_with x k e s) hp ∙ ap (λ x. row_with p' x e s) hk ∙ ap (λ x. row_with p' k' x s) he ∙ ap (λ x. row_with p' k' e' x) hs

pub rolled_is : (last : Last) (n : ℕ) (k : EntryKind) (e : Entry) → rolled last (row_with n k e true) ≡ row_with n k (own_rolls k last e) true
rolled_is last n kind.Reading e = refl
rolled_is last n kind.Manual e = refl
rolled_is last n kind.Closing e = refl
rolled_is last n kind.Reset e = refl
rolled_is last n kind.Rescale e = refl

row_is : (meter : Installed) (whole : Journal) (n : ℕ) (k : EntryKind) (e : Entry) (row : EntryRow) (rows : List EntryRow)
    → IsRowOf whole n k e row → row.stands ≡ true → EntryFits meter (entries_in rows) row.kind row.entry
    → row ≡ rolled (last_after meter (entries_in rows)) (row_with n k e true)
row_is meter whole n k e row rows h on fits =
    let l : Last = last_after meter (entries_in rows) in
    let own : row.entry ≡ own_rolls k l e =
    sym (settled meter (entries_in rows) row.kind row.entry fits) ∙ ap (λ x. own_rolls x l row.entry) h.kind_is ∙ h.entry_is l in
    same_row row.place n row.kind k row.entry (own_rolls k l e) row.stands true h.place_is h.kind_is own on ∙ sym (rolled_is l n k e)

pub stands_on : (row : EntryRow) (rows : List EntryRow) (b : Bool) → row.stands ≡ b → standing (row ∷ rows) ≡ cond b (row ∷ standing rows) (standing rows)
stands_on row rows b is = ap (λ b. cond b (row ∷ standing rows) (standing rows)) is

stand : (meter : Installed) (whole lines : Journal) (rows : List EntryRow) → AreRowsOf whole lines rows → AllStillFit meter rows
    → standing rows ≡ unvoided meter.opening whole lines
stand meter whole [] [] h still = refl
stand meter whole [] (row ∷ rows) h still = absurd h
stand meter whole (Entered k e ∷ lines) [] h still = absurd h
stand meter whole (Entered k e ∷ lines) (row ∷ rows) h still =
    let n : ℕ = entered_count lines + 2 in
    let rest : standing rows ≡ unvoided meter.opening whole lines = stand meter whole lines rows h.1 still.1 in
    elim (cases_Bool (is_voided n whole)) [
      | inl named ↦ stands_on row rows false (h.0.stands_is ∙ ap not named) ∙ rest ∙ sym (cond-true _ _ _ named)
      | inr free ↦
          let on : row.stands ≡ true = h.0.stands_is ∙ ap not free in
          let is : row ≡ rolled (last_after meter (entries_in rows)) (row_with n k e true) = row_is meter whole n k e row rows h.0 on (still.0 on) in
          let made : List EntryRow → List EntryRow =
          λ rs. rolled (last_of meter.opening (map (λ (r : EntryRow). r.entry) rs)) (row_with n k e true) ∷ rs in
          stands_on row rows true on ∙ ap (λ (r : EntryRow). r ∷ standing rows) is ∙ ap made rest ∙ sym (cond-false _ _ _ free)
    ]
stand meter whole (Held reading cause ∷ lines) rows h still = stand meter whole lines rows h still
stand meter whole (Voided place ∷ lines) rows h still = stand meter whole lines rows h still

numbered : (whole lines : Journal) (rows : List EntryRow) → AreRowsOf whole lines rows → AreNumbered rows
numbered whole [] [] h = tt
numbered whole [] (row ∷ rows) h = absurd h
numbered whole (Entered k e ∷ lines) [] h = absurd h
numbered whole (Entered k e ∷ lines) (row ∷ rows) h =
    (h.0.place_is ∙ ap (λ n. n + 2) (sym (count_of whole lines rows h.1)), numbered whole lines rows h.1)
numbered whole (Held reading cause ∷ lines) rows h = numbered whole lines rows h
numbered whole (Voided place ∷ lines) rows h = numbered whole lines rows h

pub rows_are_kept : RowsStand
rows_are_kept meter lines well h =
    let rows : List EntryRow = rows_of meter.opening lines in
    let all : AreRowsOf lines lines rows = (rows_are_entered meter lines h).rows in
    record {
      count = count_of lines lines rows all;
      places = numbered lines lines rows all;
      stand = stand meter lines lines rows all (rows_are_sound meter lines well.raw h).still;
    }

-- Proofs: when an entry of a meter is voided (cancelled), its row is marked as voided, and the
-- rollovers in the next valid row may change. No other row of the meter's entries changes.
use Rattle.std.proofs.Common.{◌≡◌, ℕ, ℤ, ◌+◌, ◌≤◌, ◌<◌, ◌==◌, ◌&&◌, Bool, true, false, cond, inl, inr, List, [], ◌∷◌, map, length, Option, Some, None, bytes_eq, option_map, refl, sym, ap, ap₂, subst, ◌∙◌, arith, eq-eqb, eqb-true, ne_eqb}
use Rattle.std.specs.List.{AllByRecursion}
use Rattle.std.specs.Option.{option_or}
use Rattle.std.proofs.lemmas.Bool.{cases_Bool, cond-true, cond-false}
use Rattle.std.proofs.lemmas.Option.{same_Some}
use Rattle.sqlite_keyed.proofs.ListLemmas.{all_weaker}
use Rattle.energy_core.specs.declared.entries.Last.{Last}
use Rattle.energy_core.specs.declared.entries.Entry.{Entry}
use Rattle.energy_core.specs.declared.entries.Entry.TheVariants as entry
use Rattle.energy_core.specs.Account.{after, last_of}
use Rattle.meter_journal.specs.declared.lines.EntryKind.{EntryKind}
use Rattle.meter_journal.specs.declared.lines.EntryKind.TheVariants as kind
use Rattle.meter_journal.specs.declared.lines.EntryRow.{EntryRow}
use Rattle.meter_journal.specs.Journal.{Around, is_reading, is_read, with_rolls, rolled, struck, entries_in, if_standing, passed, row_at}
use Rattle.meter_journal.specs.Lists.{AreNumbered}
use Rattle.meter_journal.specs.Voids.{changed_by, is_next}
use Rattle.meter_journal.proofs.Keeping.{entries_standing, entries_struck}
use Rattle.office_events.specs.declared.facts.Opening.{Opening}
use Rattle.office_books.specs.Meters.{opened}
use Rattle.office_books.proofs.Lookups.{same_itself}
use Rattle.store_tables.specs.Entries.Rows.{Entered, is_entry, rolled as with_rollovers}
use Rattle.office_store.specs.Rows.{rolls_of, entry_row, entered, opening_row, scale_after, entered_rows}
use Rattle.office_store.proofs.MeteringLemmas.Shapes.{IsBelow, below, FoundThere, found_rest, found_there}

-- True if `next` is an entry that is not voided (cancelled), its index is greater than `place`, and
-- no other row has this index.
pub record IsNextThere (place : ℕ) (next : EntryRow) (rows : List EntryRow) : Type 0 where
  pub each : AllByRecursion (FoundThere next.place next) rows
  pub stands : next.stands ≡ true
  pub following : place < next.place
  pub late : 1 < next.place
  pub within : next.place ≤ length rows + 1

stands_if : (b : Bool) (row next : EntryRow) → row.stands ≡ b → (let o : Option EntryRow = cond b (Some row) None in o) ≡ Some next → (row.stands ≡ true) × (row ≡ next)
stands_if true row next is h = (is, same_Some row next h)
stands_if false row next is h = absurd (let e = h in cc)

-- Suppose that `next` is the next entry in a meter's history after index `place` that is not voided
-- (cancelled), and no other row has its index (`IsNextThere`). This still holds after a row is
-- added to the history.
past : (place : ℕ) (row : EntryRow) (rows : List EntryRow) (o : Option EntryRow) (next : EntryRow) → AreNumbered (row ∷ rows) → place ≤ length rows + 1
    → ((n : EntryRow) → o ≡ Some n → IsNextThere place n rows) → option_or o (if_standing row) ≡ Some next → IsNextThere place next (row ∷ rows)
past place row rows (Some m) next numbered low before whole =
    let more = before next whole in
    let within = more.within in
    let number : row.place ≡ length rows + 2 = numbered.0 in
    record {
      each = (λ same. absurd (omega (arith, same, within, number)), more.each);
      stands = more.stands;
      following = more.following;
      late = more.late;
      within = omega (arith, within);
    }
past place row rows None next numbered low before whole =
    let this = stands_if row.stands row next refl whole in
    let number : row.place ≡ length rows + 2 = numbered.0 in
    let at : next.place ≡ row.place = ap (λ (r : EntryRow). r.place) (sym this.1) in
    record {
      each = (
        λ same. sym this.1,
        all_weaker (IsBelow (length rows + 1)) (FoundThere next.place next) (λ r le same. absurd (omega (arith, le, same, at, number))) rows (below (length rows + 1) rows numbered.1 (omega arith)),
      );
      stands = sym (ap (λ (r : EntryRow). r.stands) this.1) ∙ this.0;
      following = omega (arith, at, number, low);
      late = omega (arith, at, number);
      within = omega (arith, at, number);
    }

pub next_there : (place : ℕ) (rows : List EntryRow) (around : Around) (next : EntryRow) → AreNumbered rows → row_at place rows ≡ Some around → around.next ≡ Some next → IsNextThere place next rows
next_there place [] around next numbered h is = absurd (let e = h in cc)
next_there place (row ∷ rows) around next numbered h is = elim (cases_Bool (row.place == place)) [
  | inl at ↦
      let this : record { before = rows; row = row; next = None } ≡ around = same_Some _ around (sym (cond-true _ _ _ at) ∙ h) in
      absurd (let e : None ≡ Some next = ap (λ (a : Around). a.next) this ∙ is in cc)
  | inr off ↦
      let whole : option_map (passed row) (row_at place rows) ≡ Some around = sym (cond-false _ _ _ off) ∙ h in
      let it = found_rest place row (row_at place rows) around whole in
      let rest : Around = it.0 in
      let passing : passed row rest ≡ around = same_Some _ around (sym (ap (option_map (passed row)) it.1) ∙ whole) in
      past place row rows rest.next next numbered (found_there place rows rest numbered.1 it.1).2 (λ n e. next_there place rows rest n numbered.1 it.1 e)
      (ap (λ (a : Around). a.next) passing ∙ is)
]

-- Lemmas: the counter's scale factor after a list of meter entries stays the same if entries are
-- changed that do not set the scale factor.

sf_kept : (l m : Last) (e : Entry) → l.sf ≡ m.sf → (after l e).sf ≡ (after m e).sf
sf_kept l m (entry.Step at raw rolls) is = is
sf_kept l m (entry.Change at before new sf) is = refl

sf_rolled : (last l : Last) (e : Entry) → (after l (with_rolls last e)).sf ≡ (after l e).sf
sf_rolled last l (entry.Step at raw rolls) = refl
sf_rolled last l (entry.Change at before new sf) = refl

sf_read : (l : Last) (k : EntryKind) (e : Entry) → is_read k e ≡ true → (after l e).sf ≡ l.sf
sf_read l k (entry.Step at raw rolls) is = refl
sf_read l kind.Reading (entry.Change at before new sf) is = absurd (cc)
sf_read l kind.Manual (entry.Change at before new sf) is = absurd (cc)
sf_read l kind.Closing (entry.Change at before new sf) is = absurd (cc)
sf_read l kind.Reset (entry.Change at before new sf) is = absurd (cc)
sf_read l kind.Rescale (entry.Change at before new sf) is = absurd (cc)

-- If a row in a meter's history has the index of the entry that is to be voided (cancelled), the
-- void marks this row as voided.
at_void : (place : ℕ) (next : Option EntryRow) (last : Last) (row : EntryRow) → (row.place == place) ≡ true → changed_by place next last row ≡ struck row
at_void place next last row at = cond-true (row.place == place) (struck row) (cond (is_next next row) (rolled last row) row) at

off_void : (place : ℕ) (next : Option EntryRow) (last : Last) (row : EntryRow) → (row.place == place) ≡ false → changed_by place next last row ≡ cond (is_next next row) (rolled last row) row
off_void place next last row off = cond-false (row.place == place) (struck row) (cond (is_next next row) (rolled last row) row) off

module _ (o : Opening) where
  abbrev stood : List EntryRow → Last
  stood rows = last_of (opened o) (entries_in rows)

  -- If an entry of a meter is replaced by an entry with the same effect on the scale factor, the
  -- scale factor after all entries stays the same.
  same_scale : (b : Bool) (row now : EntryRow) (rows rest : List EntryRow) → row.stands ≡ b → now.stands ≡ b → ((l : Last) → (after l now.entry).sf ≡ (after l row.entry).sf)
      → scale_after o rest ≡ scale_after o rows → scale_after o (now ∷ rest) ≡ scale_after o (row ∷ rows)
  same_scale true row now rows rest was is keeps more =
      ap (λ es. (last_of (opened o) es).sf) (entries_standing now rest is) ∙ keeps (stood rest) ∙ sf_kept (stood rest) (stood rows) row.entry more
      ∙ sym (ap (λ es. (last_of (opened o) es).sf) (entries_standing row rows was))
  same_scale false row now rows rest was is keeps more =
      ap (λ es. (last_of (opened o) es).sf) (entries_struck now rest is) ∙ more ∙ sym (ap (λ es. (last_of (opened o) es).sf) (entries_struck row rows was))

  -- If a reading is voided (cancelled), the scale factor after all meter entries stays the same,
  -- because readings do not set the scale factor.
  struck_scale : (b : Bool) (row : EntryRow) (rows rest : List EntryRow) → row.stands ≡ b → is_read row.kind row.entry ≡ true
      → scale_after o rest ≡ scale_after o rows → scale_after o (struck row ∷ rest) ≡ scale_after o (row ∷ rows)
  struck_scale true row rows rest was read more =
      more ∙ sym (sf_read (stood rows) row.kind row.entry read) ∙ sym (ap (λ es. (last_of (opened o) es).sf) (entries_standing row rows was))
  struck_scale false row rows rest was read more = more ∙ sym (ap (λ es. (last_of (opened o) es).sf) (entries_struck row rows was))

  rolled_scale : (b : Bool) (last : Last) (row : EntryRow) (rows rest : List EntryRow) → scale_after o rest ≡ scale_after o rows
      → scale_after o (cond b (record row { entry = with_rolls last row.entry }) row ∷ rest) ≡ scale_after o (row ∷ rows)
  rolled_scale true last row rows rest more = same_scale row.stands row (record row { entry = with_rolls last row.entry }) rows rest refl refl (λ l. sf_rolled last l row.entry) more
  rolled_scale false last row rows rest more = same_scale row.stands row row rows rest refl refl (λ l. refl) more

  -- States that, if a row has the index `place` of the voided (cancelled) entry, the row is a
  -- reading. States nothing about other rows.
  abbrev pub IsRead : (place : ℕ) → EntryRow → Type 0
  IsRead place row = row.place ≡ place → is_read row.kind row.entry ≡ true

  next_scale : (b : Bool) (last : Last) (row : EntryRow) (rows rest : List EntryRow) → scale_after o rest ≡ scale_after o rows
      → scale_after o (cond b (rolled last row) row ∷ rest) ≡ scale_after o (row ∷ rows)
  next_scale true last row rows rest more = rolled_scale (row.stands && is_reading row.kind) last row rows rest more
  next_scale false last row rows rest more = same_scale row.stands row row rows rest refl refl (λ l. refl) more

  changed_scale : (b : Bool) (place : ℕ) (next : Option EntryRow) (last : Last) (row : EntryRow) (rows rest : List EntryRow) → (row.place == place) ≡ b → IsRead place row
      → scale_after o rest ≡ scale_after o rows → scale_after o (changed_by place next last row ∷ rest) ≡ scale_after o (row ∷ rows)
  changed_scale true place next last row rows rest at read more =
      ap (λ (r : EntryRow). scale_after o (r ∷ rest)) (at_void place next last row at) ∙ struck_scale row.stands row rows rest refl (read (eqb-true row.place place at)) more
  changed_scale false place next last row rows rest off read more =
      ap (λ (r : EntryRow). scale_after o (r ∷ rest)) (off_void place next last row off) ∙ next_scale (is_next next row) last row rows rest more

  pub same_scales : (place : ℕ) (next : Option EntryRow) (last : Last) (rows : List EntryRow) → AllByRecursion (IsRead place) rows
      → scale_after o (map (changed_by place next last) rows) ≡ scale_after o rows
  same_scales place next last [] h = refl
  same_scales place next last (row ∷ rows) h =
      changed_scale (row.place == place) place next last row rows (map (changed_by place next last) rows) refl h.0 (same_scales place next last rows h.1)

  -- Lemmas on the table `entries` after a meter entry was voided (cancelled). Only the row of the
  -- next entry can change, and each row changes as the corresponding row of the meter's history
  -- does.

  -- Lemmas that, when an entry is voided (cancelled), each row of `entries` changes in the same way
  -- as the corresponding row of the meter's history.
  module _ (place : ℕ) (next : Option EntryRow) (last : Last) (edit : Entered → Entered) where
    abbrev pub IsEdited : EntryRow → Type 0
    IsEdited row = (s : ℤ) → entered o.meter (entry_row s (changed_by place next last row)) ≡ edit (entered o.meter (entry_row s row))

    pub all_edited : entered o.meter (opening_row o) ≡ edit (entered o.meter (opening_row o)) → (rows : List EntryRow) → AllByRecursion (IsRead place) rows → AllByRecursion IsEdited rows
        → entered_rows o (map (changed_by place next last) rows) ≡ map edit (entered_rows o rows)
    all_edited begin [] h e = ap (λ x. x ∷ []) begin
    all_edited begin (row ∷ rows) h e =
        let ch = changed_by place next last in
        let scale : scale_after o (ch row ∷ map ch rows) ≡ scale_after o (row ∷ rows) = same_scales place next last (row ∷ rows) h in
        ap₂ ◌∷◌ (ap (λ s. entered o.meter (entry_row s (ch row))) scale ∙ e.0 (scale_after o (row ∷ rows))) (all_edited begin rows h.1 e.1)

  -- If an entry is marked as voided (cancelled) in the meter's history, its row of `entries` stays
  -- unchanged.
  struck_or_not : (b : Bool) (last : Last) (row : EntryRow) (s : ℤ) → entry_row s (cond b (struck row) row) ≡ entry_row s row
  struck_or_not true last row s = refl
  struck_or_not false last row s = refl

  pub none_next : (place : ℕ) (last : Last) (row : EntryRow) → IsEdited place None last (λ e. e) row
  none_next place last row s = ap (entered o.meter) (struck_or_not (row.place == place) last row s)

  -- Lemmas that, if an entry follows the voided (cancelled) entry of a meter, voiding changes only
  -- the row of this next entry in `entries`.
  module _ (place : ℕ) (next : EntryRow) (last : Last) (following : place < next.place) (stands : next.stands ≡ true) (read : is_read next.kind next.entry ≡ true) where
    abbrev pub rolls : ℕ
    rolls = rolls_of (with_rolls last next.entry)

    abbrev pub edit : Entered → Entered
    edit e = cond (is_entry o.meter next.place e) (with_rollovers rolls e) e

    spared : (e : Entered) → (e.entry.place == next.place) ≡ false → edit e ≡ e
    spared e off = cond-false (is_entry o.meter next.place e) (with_rollovers rolls e) e (ap (λ b. bytes_eq e.meter o.meter && b) off ∙ never (bytes_eq e.meter o.meter))
      where
        never : (b : Bool) → (b && false) ≡ false
        never true = refl
        never false = refl

    reading_of : (k : EntryKind) (e : Entry) → is_read k e ≡ true → is_reading k ≡ true
    reading_of kind.Reading e is = refl
    reading_of kind.Manual e is = absurd (cc)
    reading_of kind.Closing e is = absurd (cc)
    reading_of kind.Reset e is = absurd (cc)
    reading_of kind.Rescale e is = absurd (cc)

    row_rolled : (s : ℤ) (at : ℕ) (k : EntryKind) (e : Entry) (b : Bool)
        → (let r : EntryRow = record { place = at; kind = k; entry = with_rolls last e; stands = b } in
        let was : EntryRow = record { place = at; kind = k; entry = e; stands = b } in
        entered o.meter (entry_row s r) ≡ with_rollovers (rolls_of (with_rolls last e)) (entered o.meter (entry_row s was)))
    row_rolled s at k (entry.Step m raw n) b = refl
    row_rolled s at k (entry.Change m before new sf) b = refl

    next_rolled : (s : ℤ) → entered o.meter (entry_row s (rolled last next)) ≡ edit (entered o.meter (entry_row s next))
    next_rolled s =
        let on : (next.stands && is_reading next.kind) ≡ true = ap₂ ◌&&◌ stands (reading_of next.kind next.entry read) in
        let this : is_entry o.meter next.place (entered o.meter (entry_row s next)) ≡ true = ap₂ ◌&&◌ (same_itself o.meter) (eq-eqb next.place next.place refl) in
        ap (λ (r : EntryRow). entered o.meter (entry_row s r)) (cond-true (next.stands && is_reading next.kind) (record next { entry = with_rolls last next.entry }) next on) ∙ row_rolled s next.place next.kind next.entry next.stands ∙ sym (cond-true (is_entry o.meter next.place (entered o.meter (entry_row s next))) (with_rollovers rolls (entered o.meter (entry_row s next))) (entered o.meter (entry_row s next)) this)

    by_place : (b c : Bool) (row : EntryRow) (s : ℤ) → (row.place == place) ≡ b → (row.place == next.place) ≡ c → FoundThere next.place next row
        → entered o.meter (entry_row s (changed_by place (Some next) last row)) ≡ edit (entered o.meter (entry_row s row))
    by_place true c row s at is found =
        let here : row.place ≡ place = eqb-true row.place place at in
        ap (λ (r : EntryRow). entered o.meter (entry_row s r)) (at_void place (Some next) last row at)
        ∙ sym (spared (entered o.meter (entry_row s row)) (ne_eqb row.place next.place (λ same. omega (arith, same, here, following))))
    by_place false true row s off is found =
        ap (λ (r : EntryRow). entered o.meter (entry_row s r)) (off_void place (Some next) last row off ∙ cond-true (row.place == next.place) (rolled last row) row is)
        ∙ subst (λ (r : EntryRow). entered o.meter (entry_row s (rolled last r)) ≡ edit (entered o.meter (entry_row s r))) (found (eqb-true row.place next.place is)) (next_rolled s)
    by_place false false row s off is found =
        ap (λ (r : EntryRow). entered o.meter (entry_row s r)) (off_void place (Some next) last row off ∙ cond-false (row.place == next.place) (rolled last row) row is) ∙ sym (spared (entered o.meter (entry_row s row)) is)

    pub one_next : (row : EntryRow) → FoundThere next.place next row → IsEdited place (Some next) last edit row
    one_next row found s = by_place (row.place == place) (row.place == next.place) row s refl refl found

    pub opening_spared : 1 < next.place → entered o.meter (opening_row o) ≡ edit (entered o.meter (opening_row o))
    opening_spared late = sym (spared (entered o.meter (opening_row o)) (ne_eqb 1 next.place (λ same. omega (arith, same, late))))

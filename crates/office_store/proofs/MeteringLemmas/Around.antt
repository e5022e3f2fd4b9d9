-- Proofs that the rows before and after a meter entry in the table `entries` encode the entries
-- before and after it in the store's records.
use Rattle.std.proofs.Common.{◌≡◌, ℕ, ℤ, ◌+◌, ◌≤◌, ◌<◌, ◌==◌, ◌&&◌, ◌||◌, not, Bool, true, false, cond, inl, inr, ◌⊎◌, List, [], ◌∷◌, map, filter, length, Option, Some, None, option_map, bytes_eq, refl, sym, ap, ap₂, subst, ◌∙◌, arith, eq-eqb, eqb-true, IsPermutation}
use Rattle.std.specs.List.{list_any, AllByRecursion}
use Rattle.std.specs.Option.{option_or}
use Rattle.std.proofs.lemmas.Bool.{cases_Bool, cond-true, cond-false, and_parts}
use Rattle.std.proofs.lemmas.Bool.Decides.{nat_tests}
use Rattle.std.proofs.lemmas.Option.{same_Some}
use Rattle.std.proofs.lemmas.List.Elements.{recursion_from_All, All-from_recursion}
use Rattle.std.proofs.lemmas.List.Sorted.{All-permutation, IsPermutation-sym}
use Rattle.sqlite_keyed.proofs.ListLemmas.{all_weaker, all-filter}
use Rattle.energy_core.specs.declared.entries.Last.{Last}
use Rattle.energy_core.specs.declared.entries.Entry.{Entry}
use Rattle.energy_core.specs.declared.entries.Entry.TheVariants as entry
use Rattle.energy_core.specs.Account.{after, last_of}
use Rattle.meter_journal.specs.declared.lines.EntryKind.{EntryKind}
use Rattle.meter_journal.specs.declared.lines.EntryKind.TheVariants as kind
use Rattle.meter_journal.specs.declared.lines.EntryRow.{EntryRow}
use Rattle.meter_journal.specs.Journal.{Journal, Around, entries_in, if_standing, passed, row_at}
use Rattle.meter_journal.specs.Lists.{AreNumbered}
use Rattle.meter_journal.specs.Standing.{is_voided}
use Rattle.meter_journal.proofs.Keeping.{entries_standing, entries_struck}
use Rattle.office_events.specs.declared.facts.Opening.{Opening}
use Rattle.office_events.specs.declared.facts.Fact.{Fact}
use Rattle.office_books.specs.Facts.{voids_in}
use Rattle.office_books.specs.Meters.{opened, journal_of}
use Rattle.store_tables.specs.Answer.{IsFound}
use Rattle.store_tables.specs.declared.entries.rows.EntryRow as stored
use Rattle.store_tables.specs.Entries.Rows.{Entered, Voided, is_entry, is_of, is_void_of, IsRow}
use Rattle.office_store.specs.Rows.{counter_after, entry_row, scale_after, entered_rows, voided}
use Rattle.office_store.proofs.Passing.{all_passing}
use Rattle.office_store.proofs.Standing.{found_has}
use Rattle.office_store.proofs.MeteringLemmas.Journals.{voids_are}
use Rattle.office_store.proofs.MeteringLemmas.Picked.{none_passes}
use Rattle.office_store.proofs.MeteringLemmas.Shapes.{HasShape, IsPlain, found_there}
use Rattle.office_store.specs.Voids.Places.{names}

-- Lemmas that the rows of `voids` (cancelled entries) name exactly the entries that are marked as
-- voided.

turned : (a b : ℕ) → (a == b) ≡ (b == a)
turned a b = elim (cases_Bool (a == b)) [
  | inl is ↦ is ∙ sym (eq-eqb b a (sym (eqb-true a b is)))
  | inr off ↦ elim (cases_Bool (b == a)) [
    | inl is ↦ absurd (let e : true ≡ false = sym (eq-eqb a b (sym (eqb-true b a is))) ∙ off in cc)
    | inr also ↦ off ∙ sym also
  ]
]

named_step : (b : Bool) (p : Voided → Bool) (v : Voided) (vs : List Voided) (c rest : Bool) → p v ≡ c → rest ≡ list_any p vs → ((b && c) || rest) ≡ list_any p (cond b (v ∷ vs) vs)
named_step true p v vs c rest is more = ap₂ ◌||◌ (sym is) more
named_step false p v vs c rest is more = more

named_of : (meter : List ℕ) (place : ℕ) (vs : List Voided) → names meter place vs ≡ list_any (λ (v : Voided). place == v.place) (filter (is_void_of meter) vs)
named_of meter place [] = refl
named_of meter place (v ∷ vs) =
    named_step (bytes_eq v.meter meter) (λ (w : Voided). place == w.place) v (filter (is_void_of meter) vs) (v.place == place) (names meter place vs) (turned place v.place) (named_of meter place vs)

-- The table `voids` has a row for exactly those indices whose entries are marked as voided
-- (cancelled) in the meter's history.
pub names_are : (facts : List Fact) (meter : List ℕ) (place : ℕ) → names meter place (map voided (voids_in facts)) ≡ is_voided place (journal_of facts meter)
names_are facts meter place = named_of meter place (map voided (voids_in facts)) ∙ voids_are meter place facts

-- Defines which entries between two indices of a meter's history are voided (cancelled), and proves
-- which indices have rows in `entries`.

-- True if every entry in a meter's history with an index above `low` and below `high` is voided
-- (cancelled).
abbrev pub AreStruck : Journal → (low high : ℕ) → Type 0
AreStruck lines low high = (place : ℕ) → low < place → place < high → is_voided place lines ≡ true

abbrev pub Stands : Journal → (place : ℕ) → Type 0
Stands lines place = is_voided place lines ≡ false

struck_row : (lines : Journal) (row : EntryRow) → IsPlain lines row → is_voided row.place lines ≡ true → row.stands ≡ false
struck_row lines row h is = h.stands ∙ ap not is

standing_row : (lines : Journal) (row : EntryRow) → IsPlain lines row → is_voided row.place lines ≡ false → row.stands ≡ true
standing_row lines row h is = h.stands ∙ ap not is

module _ (o : Opening) where
  abbrev stood : List EntryRow → Last
  stood rows = last_of (opened o) (entries_in rows)

  -- No row of a meter in `entries` has an index greater than the number of the meter's entries.
  few : (rows : List EntryRow) (n : ℕ) → AreNumbered rows → length rows + 1 ≤ n → AllByRecursion (λ (e : Entered). e.entry.place ≤ n) (entered_rows o rows)
  few [] n numbered le = (omega (arith, le), tt)
  few (row ∷ rows) n numbered le = ((let at = numbered.0 in omega (arith, at, le)), few rows n numbered.1 (omega (arith, le)))

  -- If an index is greater than the number of a meter's entries, no row of the meter in `entries`
  -- has this index.
  none_later : (Q : Entered → Type 0) (place : ℕ) (rows : List EntryRow) → AreNumbered rows → length rows + 1 < place → AllByRecursion (λ (e : Entered). e.entry.place ≡ place → Q e) (entered_rows o rows)
  none_later Q place rows numbered late =
      all_weaker (λ (e : Entered). e.entry.place ≤ length rows + 1) (λ (e : Entered). e.entry.place ≡ place → Q e) (λ e le same. absurd (omega (arith, le, same, late))) (entered_rows o rows) (few rows (length rows + 1) numbered (omega arith))

  -- If an index is from 1 to the meter's last index, `entries` has a row of the meter with this
  -- index.
  pub all_places : (place : ℕ) (rows : List EntryRow) → AreNumbered rows → 1 ≤ place → AllByRecursion (λ (e : Entered). e.entry.place ≡ place → ⊥) (entered_rows o rows) → length rows + 1 < place
  all_places place [] numbered some none = omega (arith, some, (λ (is : 1 ≡ place). none.0 is))
  all_places place (row ∷ rows) numbered some none =
      let rest = all_places place rows numbered.1 some none.1 in
      let at = numbered.0 in
      elim (cases_Bool (row.place == place)) [
        | inl is ↦ absurd (none.0 (eqb-true row.place place is))
        | inr off ↦ grind (arith, nat_tests, rest, at, off)
      ]

  -- Lemmas that a meter's row of `entries` with a given index encodes the meter's entry at this
  -- index.

  pub record AtRow (place : ℕ) (rows : List EntryRow) (e : stored.EntryRow) : Type 0 where
    pub around : Around
    pub there : row_at place rows ≡ Some around
    pub is : e ≡ entry_row (scale_after o (around.row ∷ around.before)) around.row

  past_row : (place : ℕ) (row : EntryRow) (rows : List EntryRow) (e : stored.EntryRow) → AreNumbered (row ∷ rows) → AtRow place rows e → AtRow place (row ∷ rows) e
  past_row place row rows e numbered h =
      let low = (found_there place rows h.around numbered.1 h.there).2 in
      let at = numbered.0 in
      record {
        around = passed row h.around;
        there = cond-false (row.place == place) _ _ (grind (arith, nat_tests, low, at)) ∙ ap (option_map (passed row)) h.there;
        is = h.is;
      }

  pub entries_at_rows : (place : ℕ) (rows : List EntryRow) → AreNumbered rows → 2 ≤ place → AllByRecursion (λ (e : Entered). e.entry.place ≡ place → AtRow place rows e.entry) (entered_rows o rows)
  entries_at_rows place [] numbered late = (λ (is : 1 ≡ place). absurd (omega (arith, is, late)), tt)
  entries_at_rows place (row ∷ rows) numbered late = (
    λ (is : row.place ≡ place). record {
      around = record { before = rows; row = row; next = None };
      there = cond-true (row.place == place) _ _ (eq-eqb row.place place is);
      is = refl;
    },
    all_weaker (λ (e : Entered). e.entry.place ≡ place → AtRow place rows e.entry) (λ (e : Entered). e.entry.place ≡ place → AtRow place (row ∷ rows) e.entry)
        (λ e h same. past_row place row rows e.entry numbered (h same)) (entered_rows o rows) (entries_at_rows place rows numbered.1 late),
  )

  -- Lemmas that the counter's state before a meter entry is the state after the last earlier entry
  -- that is not voided (cancelled).

  counter_of_row : (sf : ℤ) (last : Last) (place : ℕ) (k : EntryKind) (e : Entry) (stands : Bool) → HasShape k e → sf ≡ (after last e).sf
      → counter_after (entry_row sf (record { place = place; kind = k; entry = e; stands = stands })) ≡ after last e
  counter_of_row sf last place kind.Reading (entry.Step at raw rolls) stands h is = ap (λ s. record { at = at; raw = raw; sf = s }) is
  counter_of_row sf last place kind.Manual (entry.Step at raw rolls) stands h is = ap (λ s. record { at = at; raw = raw; sf = s }) is
  counter_of_row sf last place kind.Closing (entry.Step at raw rolls) stands h is = ap (λ s. record { at = at; raw = raw; sf = s }) is
  counter_of_row sf last place kind.Reset (entry.Change at before new scale) stands h is = ap (λ s. record { at = at; raw = new; sf = s }) is
  counter_of_row sf last place kind.Rescale (entry.Change at before new scale) stands h is = ap (λ s. record { at = at; raw = new; sf = s }) is
  counter_of_row sf last place kind.Reading (entry.Change at before new scale) stands h is = absurd h
  counter_of_row sf last place kind.Manual (entry.Change at before new scale) stands h is = absurd h
  counter_of_row sf last place kind.Closing (entry.Change at before new scale) stands h is = absurd h
  counter_of_row sf last place kind.Reset (entry.Step at raw rolls) stands h is = absurd h
  counter_of_row sf last place kind.Rescale (entry.Step at raw rolls) stands h is = absurd h

  -- If a meter entry is not voided (cancelled), the counter's state after the entry equals the
  -- state in the entry's row.
  pub stands_after_row : (row : EntryRow) (rows : List EntryRow) → HasShape row.kind row.entry → row.stands ≡ true → counter_after (entry_row (scale_after o (row ∷ rows)) row) ≡ after (stood rows) row.entry
  stands_after_row row rows shape on =
      counter_of_row (scale_after o (row ∷ rows)) (stood rows) row.place row.kind row.entry row.stands shape (ap (λ es. (last_of (opened o) es).sf) (entries_standing row rows on))

  module _ (lines : Journal) where
    abbrev StoodThere : (place : ℕ) → List EntryRow → Entered → Type 0
    StoodThere place rows e = e.entry.place ≡ place → counter_after e.entry ≡ stood rows

    stood_before : (low : ℕ) (rows : List EntryRow) → AreNumbered rows → AllByRecursion (IsPlain lines) rows → low < length rows + 2 → AreStruck lines low (length rows + 2) → (low ≡ 1) ⊎ Stands lines low
        → AllByRecursion (StoodThere low rows) (entered_rows o rows)
    stood_before low [] numbered plain lower struck stands = (λ is. refl, tt)
    stood_before low (row ∷ rows) numbered plain lower struck stands = elim (cases_Bool (row.place == low)) [
      | inl is ↦
          let here : row.place ≡ low = eqb-true row.place low is in
          let at = numbered.0 in
          let on : row.stands ≡ true = standing_row lines row plain.0 (elim stands [
            | inl first ↦ absurd (omega (arith, here, at, first))
            | inr stands ↦ subst (Stands lines) (sym here) stands
          ]) in (
            (λ same. stands_after_row row rows plain.0.shape on ∙ sym (ap (last_of (opened o)) (entries_standing row rows on))),
            none_later (λ e. counter_after e.entry ≡ stood (row ∷ rows)) low rows numbered.1 (omega (arith, here, at)),
          )
      | inr off ↦
          let at = numbered.0 in
          let less : low < row.place = grind (arith, nat_tests, off, at, lower) in
          let out : row.stands ≡ false = struck_row lines row plain.0 (struck row.place less (omega (arith, at))) in
          let same_stand : stood rows ≡ stood (row ∷ rows) = sym (ap (last_of (opened o)) (entries_struck row rows out)) in (
            (λ same. absurd (omega (arith, same, less))),
            all_weaker (StoodThere low rows) (StoodThere low (row ∷ rows)) (λ e h same. h same ∙ same_stand) (entered_rows o rows)
                (stood_before low rows numbered.1 plain.1 (omega (arith, less, at)) (λ q above under. struck q above (omega (arith, under))) stands),
          )
    ]

    pub stood_around : (place low : ℕ) (rows : List EntryRow) (around : Around) → AreNumbered rows → AllByRecursion (IsPlain lines) rows → row_at place rows ≡ Some around → low < place → AreStruck lines low place
        → (low ≡ 1) ⊎ Stands lines low → AllByRecursion (StoodThere low around.before) (entered_rows o rows)
    stood_around place low [] around numbered plain h lower struck stands = absurd (let e = h in cc)
    stood_around place low (row ∷ rows) around numbered plain h lower struck stands = elim (cases_Bool (row.place == place)) [
      | inl is ↦
          let at = numbered.0 in
          let here : row.place ≡ place = eqb-true row.place place is in
          let this : record { before = rows; row = row; next = None } ≡ around = same_Some _ around (sym (cond-true _ _ _ is) ∙ h) in
          let high : place ≡ length rows + 2 = omega (arith, here, at) in
          subst (λ (a : Around). AllByRecursion (StoodThere low a.before) (entered_rows o (row ∷ rows))) this (
            (λ same. absurd (omega (arith, same, here, lower))),
            stood_before low rows numbered.1 plain.1 (omega (arith, lower, high)) (λ q above under. struck q above (omega (arith, under, high))) stands,
          )
      | inr off ↦
          let at = numbered.0 in
          let whole : option_map (passed row) (row_at place rows) ≡ Some around = sym (cond-false _ _ _ off) ∙ h in
          let it = found_rest_before place row (row_at place rows) around whole in
          let last = (found_there place rows it.0 numbered.1 it.1).2 in
          subst (λ (rs : List EntryRow). AllByRecursion (StoodThere low rs) (entered_rows o (row ∷ rows))) (sym it.2) (
            (λ same. absurd (omega (arith, same, lower, last, at))),
            stood_around place low rows it.0 numbered.1 plain.1 it.1 lower struck stands,
          )
    ]
      where
        found_rest_before : (place : ℕ) (row : EntryRow) (o : Option Around) (around : Around) → option_map (passed row) o ≡ Some around → (rest : Around) × (o ≡ Some rest) × (around.before ≡ rest.before)
        found_rest_before place row None around h = absurd (let e = h in cc)
        found_rest_before place row (Some rest) around h = (rest, refl, ap (λ (a : Around). a.before) (sym (same_Some (passed row rest) around h)))

    -- Lemmas on the first entry after a given index that is not voided (cancelled): the rows of
    -- `entries` and the meter's history have the same one.

    found_rest_next : (row : EntryRow) (o : Option Around) (around : Around) → option_map (passed row) o ≡ Some around → (rest : Around) × (o ≡ Some rest) × (around.next ≡ option_or rest.next (if_standing row))
    found_rest_next row None around h = absurd (let e = h in cc)
    found_rest_next row (Some rest) around h = (rest, refl, ap (λ (a : Around). a.next) (sym (same_Some (passed row rest) around h)))

    if_struck : (row : EntryRow) → row.stands ≡ false → if_standing row ≡ None
    if_struck row out = cond-false row.stands (Some row) None out

    if_it_stands : (row : EntryRow) → row.stands ≡ true → if_standing row ≡ Some row
    if_it_stands row on = cond-true row.stands (Some row) None on

    pub none_next : (place : ℕ) (rows : List EntryRow) (around : Around) → AreNumbered rows → AllByRecursion (IsPlain lines) rows → row_at place rows ≡ Some around → AreStruck lines place (length rows + 2) → around.next ≡ None
    none_next place [] around numbered plain h struck = absurd (let e = h in cc)
    none_next place (row ∷ rows) around numbered plain h struck = elim (cases_Bool (row.place == place)) [
      | inl is ↦ ap (λ (a : Around). a.next) (sym (same_Some (let a : Around = record { before = rows; row = row; next = None } in a) around (sym (cond-true _ _ _ is) ∙ h)))
      | inr off ↦
          let at = numbered.0 in
          let whole : option_map (passed row) (row_at place rows) ≡ Some around = sym (cond-false _ _ _ off) ∙ h in
          let it = found_rest_next row (row_at place rows) around whole in
          let last = (found_there place rows it.0 numbered.1 it.1).2 in
          let out : row.stands ≡ false = struck_row lines row plain.0 (struck row.place (omega (arith, last, at)) (omega (arith, at))) in
          it.2 ∙ ap₂ option_or (none_next place rows it.0 numbered.1 plain.1 it.1 (λ q above under. struck q above (omega (arith, under)))) (if_struck row out)
    ]

    pub record IsNextRow (around : Around) (e : stored.EntryRow) : Type 0 where
      pub row : EntryRow
      pub next : around.next ≡ Some row
      pub is : e ≡ entry_row e.sf row
      pub before : List EntryRow
      pub scale : e.sf ≡ scale_after o (row ∷ before)
      pub shape : HasShape row.kind row.entry
      pub stands : row.stands ≡ true

    pub next_around : (place high : ℕ) (rows : List EntryRow) (around : Around) → AreNumbered rows → AllByRecursion (IsPlain lines) rows → row_at place rows ≡ Some around → place < high → AreStruck lines place high → Stands lines high
        → AllByRecursion (λ (e : Entered). e.entry.place ≡ high → IsNextRow around e.entry) (entered_rows o rows)
    next_around place high [] around numbered plain h higher struck stands = absurd (let e = h in cc)
    next_around place high (row ∷ rows) around numbered plain h higher struck stands = elim (cases_Bool (row.place == place)) [
      | inl is ↦
          let at = numbered.0 in
          let here : row.place ≡ place = eqb-true row.place place is in (
            (λ same. absurd (omega (arith, same, here, higher))),
            none_later (λ e. IsNextRow around e.entry) high rows numbered.1 (omega (arith, at, here, higher)),
          )
      | inr off ↦
          let at = numbered.0 in
          let whole : option_map (passed row) (row_at place rows) ≡ Some around = sym (cond-false _ _ _ off) ∙ h in
          let it = found_rest_next row (row_at place rows) around whole in (
            (λ (same : row.place ≡ high).
                let on : row.stands ≡ true = standing_row lines row plain.0 (subst (Stands lines) (sym same) stands) in
                record {
                  row = row;
                  next = it.2 ∙ ap₂ option_or (none_next place rows it.0 numbered.1 plain.1 it.1 (λ q above under. struck q above (omega (arith, under, at, same)))) (if_it_stands row on);
                  is = refl;
                  before = rows;
                  scale = refl;
                  shape = plain.0.shape;
                  stands = on;
                }),
            all_weaker (λ (e : Entered). e.entry.place ≡ high → IsNextRow it.0 e.entry) (λ (e : Entered). e.entry.place ≡ high → IsNextRow around e.entry)
                (λ e more same. let m = more same in record { row = m.row; next = it.2 ∙ ap (λ (n : Option EntryRow). option_or n (if_standing row)) m.next; is = m.is; before = m.before; scale = m.scale; shape = m.shape; stands = m.stands })
                (entered_rows o rows) (next_around place high rows it.0 numbered.1 plain.1 it.1 higher struck stands),
          )
    ]

  -- A meter's row of `entries` at index 1 has the timestamp of the meter's installation.
  pub opening_alone : (rows : List EntryRow) → AreNumbered rows → AllByRecursion (λ (e : Entered). e.entry.place ≡ 1 → e.entry.moment ≡ o.at) (entered_rows o rows)
  opening_alone [] numbered = (λ is. refl, tt)
  opening_alone (row ∷ rows) numbered = ((λ (is : row.place ≡ 1). absurd (let at = numbered.0 in omega (arith, is, at))), opening_alone rows numbered.1)

-- Lemmas that, if all of a meter's rows with an index have a property, the row that a query finds
-- by this index has the property.

module _ (meter : List ℕ) (o : Opening) (rows : List EntryRow) (table : List Entered) (are : IsPermutation (filter (is_of meter) table) (entered_rows o rows)) where
  lifted : (Q : Entered → Type 0) (place : ℕ) → AllByRecursion (λ (e : Entered). e.entry.place ≡ place → Q e) (entered_rows o rows) → AllByRecursion (λ e. is_entry meter place e ≡ true → Q e) table
  lifted Q place all =
      let T : Entered → Type 0 = λ e. is_entry meter place e ≡ true → Q e in
      let mine = all_weaker (λ (e : Entered). e.entry.place ≡ place → Q e) T (λ e h is. h (eqb-true e.entry.place place (and_parts (bytes_eq e.meter meter) (e.entry.place == place) is).1)) (entered_rows o rows) all in
      all_passing T (is_of meter) (λ e off is. absurd (let on = (and_parts (bytes_eq e.meter meter) (e.entry.place == place) is).0 in let f : true ≡ false = sym on ∙ off in cc)) table
      (recursion_from_All T _ (All-permutation T _ _ (IsPermutation-sym _ _ are) (All-from_recursion T _ mine)))

  pub reported_of : (P : stored.EntryRow → Type 0) (place : ℕ) (entry : stored.EntryRow) → AllByRecursion (λ (e : Entered). e.entry.place ≡ place → P e.entry) (entered_rows o rows)
      → IsFound (is_entry meter place) IsRow table (Some entry) → P entry
  reported_of P place entry all found =
      let it = found_has (is_entry meter place) IsRow (λ (e : Entered). P e.entry) table entry (lifted (λ (e : Entered). P e.entry) place all) found in
      subst P (sym it.1) it.2

  none_at_place : (place : ℕ) (e : Entered) → is_of meter e ≡ true → is_entry meter place e ≡ false → e.entry.place ≡ place → ⊥
  none_at_place place e mine off same = let f : true ≡ false = sym (ap₂ ◌&&◌ mine (eq-eqb e.entry.place place same)) ∙ off in absurd (cc)

  pub none_reported : (place : ℕ) → AllByRecursion (λ (e : Entered). is_of meter e ≡ true) (entered_rows o rows) → IsFound (is_entry meter place) IsRow table None → AllByRecursion (λ (e : Entered). e.entry.place ≡ place → ⊥) (entered_rows o rows)
  none_reported place mine none =
      let off = all-filter (λ e. is_entry meter place e ≡ false) (is_of meter) table (none_passes (is_entry meter place) table none) in
      let here = recursion_from_All (λ e. is_entry meter place e ≡ false) _ (All-permutation (λ e. is_entry meter place e ≡ false) _ _ are (All-from_recursion (λ e. is_entry meter place e ≡ false) _ off)) in
      both (entered_rows o rows) mine here
    where
      both : (es : List Entered) → AllByRecursion (λ (e : Entered). is_of meter e ≡ true) es → AllByRecursion (λ e. is_entry meter place e ≡ false) es → AllByRecursion (λ (e : Entered). e.entry.place ≡ place → ⊥) es
      both [] a b = tt
      both (e ∷ es) a b = (none_at_place place e a.0 b.0, both es a.1 b.1)

pub all_of_meter : (o : Opening) (rows : List EntryRow) → (bytes_eq o.meter o.meter ≡ true) → AllByRecursion (λ (e : Entered). is_of o.meter e ≡ true) (entered_rows o rows)
all_of_meter o [] on = (on, tt)
all_of_meter o (row ∷ rows) on = (on, all_of_meter o rows on)

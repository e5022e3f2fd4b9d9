-- Proofs that a meter's rows of `entries` and `voids` (cancelled entries) determine the meter's
-- history.
use Rattle.std.proofs.Common.{◌≡◌, ℕ, ℤ, ◌+◌, ◌<◌, ◌≤◌, ◌==◌, ◌||◌, not, Bool, true, false, cond, inl, inr, List, [], ◌∷◌, ◌++◌, map, filter, reverse, take, length, Option, Some, None, refl, sym, ap, ap₂, subst, ◌∙◌, arith, append-nil, lt-ltb, ltb-true, le-ltb, IsPermutation}
use Rattle.std.specs.Prelude.{nat_lt}
use Rattle.std.specs.List.{AllByRecursion, list_any, filter_map, cons_option}
use Rattle.std.specs.Option.{option_to_list}
use Rattle.std.proofs.lemmas.List.Elements.{filter_map-append}
use Rattle.std.proofs.lemmas.List.Sorted.{IsPermutation-sym, IsPermutation-trans, IsPermutation-reverse}
use Rattle.sqlite.specs.Tree.{IsAscending}
use Rattle.sqlite_keyed.proofs.ListLemmas.{all_weaker, all-append, ascending-append}
use Rattle.energy_core.specs.declared.entries.Last.{Last}
use Rattle.energy_core.specs.declared.entries.Entry.{Entry}
use Rattle.energy_core.specs.declared.entries.Entry.TheVariants as entry
use Rattle.energy_core.specs.Account.{after, last_of}
use Rattle.meter_journal.specs.declared.lines.EntryKind.{EntryKind}
use Rattle.meter_journal.specs.declared.lines.EntryKind.TheVariants as kind
use Rattle.meter_journal.specs.declared.lines.EntryRow.{EntryRow}
use Rattle.meter_journal.specs.Journal.{is_read, entries_in}
use Rattle.meter_journal.specs.Laws.{RowsStand}
use Rattle.meter_journal.specs.Lists.{AreNumbered}
use Rattle.meter_journal.specs.Standing.{is_voided}
use Rattle.meter_journal.specs.Voids.{VoidsChangeTwoRows}
use Rattle.meter_journal.proofs.Keeping.{entries_standing}
use Rattle.office_events.specs.declared.facts.Opening.{Opening}
use Rattle.office_events.specs.declared.facts.Fact.{Fact}
use Rattle.office_events.specs.declared.facts.Fact.TheVariants as fact
use Rattle.office_books.specs.Facts.{same, openings_in, opening_of, voids_in}
use Rattle.office_books.specs.Lawful.{AreLawful}
use Rattle.office_books.specs.Meters.{opened, installed, journal_of, rows_of}
use Rattle.office_books.specs.Laws.{IsRecorded, JournalsFit}
use Rattle.office_books.proofs.Journals.{found, well}
use Rattle.office_books.proofs.Lists.{reverse_cons}
use Rattle.store_tables.specs.Answer.{AreFound, FirstFirst}
use Rattle.store_tables.specs.declared.entries.rows.EntryRow as stored
use Rattle.store_tables.specs.Entries.Rows.{Entered, Voided, is_of, is_void_of, entry_place}
use Rattle.office_store.specs.Rows.{entered, entry_row, opening_row, scale_after, entered_rows, entries_at, entries_of, voided}
use Rattle.office_store.proofs.Energy.{found_recorded}
use Rattle.office_store.proofs.Passing.{any_permutation}
use Rattle.office_store.specs.Metering.Entries.{row_from, row_among, names}
use Rattle.office_store.proofs.MeteringLemmas.Shapes.{HasShape, IsPlain, plain}
use Rattle.office_store.proofs.MeteringLemmas.Orders.{one_order}

-- Lemmas that reading one row of `entries` returns the entry that the meter's history has at the
-- row's index.

scale_is : (stands : Bool) (sf new : ℤ) → (stands ≡ false → false ≡ true) → (stands ≡ true → sf ≡ new) → sf ≡ new
scale_is true sf new read there = there refl
scale_is false sf new read there = absurd (let e = read refl in cc)

pub back_by : (sf : ℤ) (last : Last) (place : ℕ) (k : EntryKind) (e : Entry) (stands : Bool) → HasShape k e → (stands ≡ false → is_read k e ≡ true) → (stands ≡ true → sf ≡ (after last e).sf)
    → row_from (entry_row sf (record { place = place; kind = k; entry = e; stands = stands })) stands ≡ Some (record { place = place; kind = k; entry = e; stands = stands })
back_by sf last place kind.Reading (entry.Step at raw rolls) stands h read there = refl
back_by sf last place kind.Manual (entry.Step at raw rolls) stands h read there = refl
back_by sf last place kind.Closing (entry.Step at raw rolls) stands h read there = refl
back_by sf last place kind.Reset (entry.Change at before new scale) stands h read there =
    ap (λ s. Some (record { place = place; kind = kind.Reset; entry = entry.Change at before new s; stands = stands })) (scale_is stands sf scale read there)
back_by sf last place kind.Rescale (entry.Change at before new scale) stands h read there =
    ap (λ s. Some (record { place = place; kind = kind.Rescale; entry = entry.Change at before new s; stands = stands })) (scale_is stands sf scale read there)
back_by sf last place kind.Reading (entry.Change at before new scale) stands h read there = absurd h
back_by sf last place kind.Manual (entry.Change at before new scale) stands h read there = absurd h
back_by sf last place kind.Closing (entry.Change at before new scale) stands h read there = absurd h
back_by sf last place kind.Reset (entry.Step at raw rolls) stands h read there = absurd h
back_by sf last place kind.Rescale (entry.Step at raw rolls) stands h read there = absurd h

-- Lemmas that the rows of `voids`, which cancel meter entries, name exactly the entries that the
-- meter's history marks as cancelled.

if_step : (b : Bool) (q : Voided → Bool) (v : Voided) (vs : List Voided) (other : Bool) → list_any q vs ≡ other
    → list_any q (cond b (v ∷ vs) vs) ≡ cond b (q v || other) other
if_step true q v vs other more = ap (λ b. q v || b) more
if_step false q v vs other more = more

voided_if : (b : Bool) (place named : ℕ) (lines : Rattle.meter_journal.specs.Journal.Journal)
    → is_voided place (cons_option (cond b (Some (Rattle.meter_journal.specs.Journal.Voided named)) None) lines) ≡ cond b ((place == named) || is_voided place lines) (is_voided place lines)
voided_if true place named lines = refl
voided_if false place named lines = refl

entered_if : (b : Bool) (place : ℕ) (k : EntryKind) (e : Entry) (lines : Rattle.meter_journal.specs.Journal.Journal)
    → is_voided place (cons_option (cond b (Some (Rattle.meter_journal.specs.Journal.Entered k e)) None) lines) ≡ is_voided place lines
entered_if true place k e lines = refl
entered_if false place k e lines = refl

there_if : (b : Bool) (place : ℕ) (reading : Rattle.energy_core.specs.declared.verdicts.Reading.Reading) (cause : Rattle.energy_core.specs.declared.verdicts.Cause.Cause) (lines : Rattle.meter_journal.specs.Journal.Journal)
    → is_voided place (cons_option (cond b (Some (Rattle.meter_journal.specs.Journal.Held reading cause)) None) lines) ≡ is_voided place lines
there_if true place reading cause lines = refl
there_if false place reading cause lines = refl

module _ (meter : List ℕ) (place : ℕ) where
  abbrev named : List Fact → Bool
  named facts = list_any (names place) (filter (is_void_of meter) (map voided (voids_in facts)))

  pub voids_are : (facts : List Fact) → named facts ≡ is_voided place (journal_of facts meter)
  voids_are [] = refl
  voids_are (fact.Device d ∷ facts) = voids_are facts
  voids_are (fact.List l ∷ facts) = voids_are facts
  voids_are (fact.Register r ∷ facts) = voids_are facts
  voids_are (fact.Opening o ∷ facts) = voids_are facts
  voids_are (fact.Entry b ∷ facts) = voids_are facts ∙ sym (entered_if (same b.meter meter) place b.kind b.entry (journal_of facts meter))
  voids_are (fact.Hold h ∷ facts) = voids_are facts ∙ sym (there_if (same h.meter meter) place (record { at = h.at; raw = h.raw; sf = h.sf }) h.cause (journal_of facts meter))
  voids_are (fact.Void v ∷ facts) =
      if_step (same v.meter meter) (names place) (voided v) (filter (is_void_of meter) (map voided (voids_in facts))) (is_voided place (journal_of facts meter)) (voids_are facts)
      ∙ sym (voided_if (same v.meter meter) place v.place (journal_of facts meter))
  voids_are (fact.Poll p ∷ facts) = voids_are facts
  voids_are (fact.Outcome e ∷ facts) = voids_are facts
  voids_are (fact.Reply r ∷ facts) = voids_are facts

-- Lemmas that reading all rows of a meter in `entries` returns the meter's history.

module _ (o : Opening) (vs : List Voided) where
  pub record IsReported (row : EntryRow) : Type 0 where
    pub shape : HasShape row.kind row.entry
    pub reading : row.stands ≡ false → is_read row.kind row.entry ≡ true
    pub stands : not (list_any (names row.place) vs) ≡ row.stands

  pub one_back : (row : EntryRow) (rows : List EntryRow) → IsReported row → row_among vs (entered o.meter (entry_row (scale_after o (row ∷ rows)) row)) ≡ Some row
  one_back row rows h =
      let last = last_of (opened o) (entries_in rows) in
      let scale : row.stands ≡ true → scale_after o (row ∷ rows) ≡ (after last row.entry).sf = λ on. ap (λ es. (last_of (opened o) es).sf) (entries_standing row rows on) in
      ap (λ b. row_from (entry_row (scale_after o (row ∷ rows)) row) b) h.stands
      ∙ back_by (scale_after o (row ∷ rows)) last row.place row.kind row.entry row.stands h.shape h.reading scale

  pub all_back : (rows : List EntryRow) → AllByRecursion IsReported rows → filter_map (row_among vs) (entered_rows o rows) ≡ rows
  all_back [] h = refl
  all_back (row ∷ rows) h =
      ap (λ x. cons_option x (filter_map (row_among vs) (entered_rows o rows))) (one_back row rows h.0) ∙ ap (λ l. row ∷ l) (all_back rows h.1)

one_last : {X Y : Type 0} (h : X → Option Y) (x : X) (o : Option Y) (ys : List Y) → h x ≡ o → reverse ys ++ cons_option o [] ≡ reverse (cons_option o ys)
one_last h x None ys is = append-nil (reverse ys)
one_last h x (Some y) ys is = sym (reverse_cons y ys)

filter_map_reverse : {X Y : Type 0} (h : X → Option Y) (xs : List X) → filter_map h (reverse xs) ≡ reverse (filter_map h xs)
filter_map_reverse h [] = refl
filter_map_reverse h (x ∷ xs) =
    ap (filter_map h) (reverse_cons x xs) ∙ filter_map-append h (reverse xs) (x ∷ [])
    ∙ ap (λ ys. ys ++ cons_option (h x) []) (filter_map_reverse h xs) ∙ one_last h x (h x) (filter_map h xs) refl

pub numbered : JournalsFit → RowsStand → (facts : List Fact) (o : Opening) → AreLawful facts → IsRecorded facts o → AreNumbered (rows_of facts o)
numbered journals stand facts o lawful there =
    (stand (installed o) (journal_of facts o.meter) (well facts o lawful (found facts o lawful there)) (journals facts o lawful there)).places

module _ (journals : JournalsFit) (stand : RowsStand) (change : VoidsChangeTwoRows) (facts : List Fact) (o : Opening) (lawful : AreLawful facts) (there : IsRecorded facts o) where
  pub journal_back : (vs : List Voided) → IsPermutation (filter (is_void_of o.meter) (map voided (voids_in facts))) vs → filter_map (row_among vs) (reverse (entered_rows o (rows_of facts o))) ≡ reverse (rows_of facts o)
  journal_back vs all =
      let lines = journal_of facts o.meter in
      let rows = plain stand change (installed o) (well facts o lawful (found facts o lawful there)) lines (journals facts o lawful there) in
      let reported = all_weaker (IsPlain lines) (IsReported o vs) (λ row h. record {
        shape = h.shape;
        reading = h.reading;
        stands = ap not (sym (any_permutation (names row.place) _ _ all) ∙ voids_are o.meter row.place facts) ∙ sym h.stands;
      }) (rows_of facts o) rows in
      filter_map_reverse (row_among vs) (entered_rows o (rows_of facts o)) ∙ ap reverse (all_back o vs (rows_of facts o) reported)

-- Lemmas that the query of `entries` returns the rows of a meter in the order of their indices.

abbrev place_before : Entered → Entered → Bool
place_before a b = nat_lt (entry_place a) (entry_place b)

not_before : (n : ℕ) → nat_lt n n ≡ false
not_before n = le-ltb n n (omega arith)

still_before : (a b c : ℕ) → nat_lt a b ≡ true → b ≤ c → nat_lt a c ≡ true
still_before a b c lt le = let first : a < b = ltb-true a b lt in lt-ltb a c (omega (arith, first, le))

is_before : (a b : ℕ) → a < b → nat_lt a b ≡ true
is_before a b lt = lt-ltb a b lt

module _ (o : Opening) where
  up_to : (n : ℕ) (rows : List EntryRow) → AreNumbered rows → length rows + 1 ≤ n → AllByRecursion (λ e. entry_place e ≤ n) (reverse (entered_rows o rows))
  up_to n [] numbers le = (omega (arith, le), tt)
  up_to n (row ∷ rows) numbers le =
      subst (AllByRecursion (λ e. entry_place e ≤ n)) (sym (reverse_cons (entered o.meter (entry_row (scale_after o (row ∷ rows)) row)) (entered_rows o rows)))
      (all-append (λ e. entry_place e ≤ n) (reverse (entered_rows o rows)) _ (up_to n rows numbers.1 (omega (arith, le))) ((let at = numbers.0 in omega (arith, at, le)), tt))

  in_order : (rows : List EntryRow) → AreNumbered rows → IsAscending (λ a b. place_before a b ≡ true) (reverse (entered_rows o rows))
  in_order [] numbers = (tt, tt)
  in_order (row ∷ rows) numbers =
      subst (IsAscending (λ a b. place_before a b ≡ true)) (sym (reverse_cons (entered o.meter (entry_row (scale_after o (row ∷ rows)) row)) (entered_rows o rows)))
      (ascending-append (λ a b. place_before a b ≡ true) (reverse (entered_rows o rows)) _ (in_order rows numbers.1) (tt, tt)
      (all_weaker (λ e. entry_place e ≤ length rows + 1) _ (λ e le. (is_before (entry_place e) row.place (let at = numbers.0 in omega (arith, le, at)), tt)) (reverse (entered_rows o rows))
      (up_to (length rows + 1) rows numbers.1 (omega arith))))

pub entries_in_order : (facts : List Fact) (o : Opening) (rows found : List Entered) → AreNumbered (rows_of facts o) → opening_of facts o.meter ≡ Some o
    → IsPermutation (filter (is_of o.meter) rows) (entries_of facts o.meter) → AreFound (is_of o.meter) (FirstFirst entry_place) rows found
    → found ≡ reverse (entered_rows o (rows_of facts o))
entries_in_order facts o rows found numbers alone each are =
    let whole : entries_of facts o.meter ≡ entered_rows o (rows_of facts o) = ap (entries_at facts) alone in
    one_order place_before (FirstFirst entry_place) (λ e. not_before (entry_place e)) (λ a b c lt le. still_before (entry_place a) (entry_place b) (entry_place c) lt le)
    (reverse (entered_rows o (rows_of facts o))) found (in_order o (rows_of facts o) numbers)
    (IsPermutation-trans _ _ _ (IsPermutation-sym _ _ (IsPermutation-trans _ _ _ each
    (subst (λ l. IsPermutation l (reverse (entered_rows o (rows_of facts o)))) (sym whole) (IsPermutation-reverse (entered_rows o (rows_of facts o)))))) are.all) are.order

-- Lemmas that a loop that reads result rows one by one appends the entry of each row to a list.

as_list : {Y : Type 0} (o : Option Y) → option_to_list o ≡ cons_option o []
as_list None = refl
as_list (Some y) = refl

pub one_more : (vs : List Voided) (es : List Entered) (n : ℕ) (at : Entered) (e : stored.EntryRow) (is : Bool) (o : Option EntryRow) (before after : List EntryRow) → take (n + 1) es ≡ take n es ++ at ∷ [] → e ≡ at.entry → is ≡ list_any (names e.place) vs
    → o ≡ row_from e (not is) → before ≡ filter_map (row_among vs) (take n es) → after ≡ before ++ option_to_list o → after ≡ filter_map (row_among vs) (take (n + 1) es)
one_more vs es n at e is o before after more entry_is voided_is row_is so_far added =
    let here : o ≡ row_among vs at =
    row_is ∙ ap (λ b. row_from e (not b)) voided_is ∙ ap (λ (x : stored.EntryRow). row_from x (not (list_any (names x.place) vs))) entry_is in
    added ∙ ap₂ ◌++◌ so_far (as_list o ∙ ap (λ x. cons_option x []) here)
    ∙ sym (ap (filter_map (row_among vs)) more ∙ filter_map-append (row_among vs) (take n es) (at ∷ []))

-- Proofs that the rows before and after a meter entry in the tables determine the entry that the
-- store's records have.
use Rattle.std.proofs.Common.{◌≡◌, ℕ, ◌+◌, ◌<◌, ◌≤◌, ◌==◌, not, Bool, true, false, inl, inr, ◌⊎◌, List, [], ◌∷◌, map, filter, Option, Some, None, option_map, refl, sym, ap, ap₂, subst, ◌∙◌, arith, IsPermutation}
use Rattle.std.specs.Prelude.{IfSome, nat_lt}
use Rattle.std.specs.List.{AllByRecursion, list_any}
use Rattle.std.specs.Option.{option_and_then}
use Rattle.std.proofs.lemmas.Bool.{cases_Bool, cond-true, cond-false}
use Rattle.std.proofs.lemmas.Bool.Decides.{nat_tests}
use Rattle.std.proofs.lemmas.Option.{same_Some}
use Rattle.energy_core.specs.declared.entries.Last.{Last}
use Rattle.energy_core.specs.Account.{after, last_of}
use Rattle.meter_journal.specs.declared.lines.EntryRow.{EntryRow}
use Rattle.meter_journal.specs.Changes.{PlacesWereKept}
use Rattle.meter_journal.specs.Journal as journal
use Rattle.meter_journal.specs.Journal.{Journal, entries_in, row_at}
use Rattle.meter_journal.specs.Laws.{JournalsAreKept, RowsStand}
use Rattle.meter_journal.specs.Lists.{AreNumbered}
use Rattle.meter_journal.specs.Standing.{is_voided}
use Rattle.meter_journal.specs.Voids.{VoidsChangeTwoRows}
use Rattle.meter_journal.proofs.Keeping.{entries_standing, mapped_some}
use Rattle.sqlite.specs.Order.{Row}
use Rattle.office_events.specs.declared.facts.Fact.{Fact}
use Rattle.office_events.specs.declared.facts.Opening.{Opening}
use Rattle.office_events.specs.declared.questions.EntryContext.{EntryContext}
use Rattle.office_events.specs.declared.questions.Installation.{Installation}
use Rattle.office_books.specs.Facts.{same, openings_in, opening_of, voids_in}
use Rattle.office_books.specs.Laws.{IsRecorded, JournalsFit}
use Rattle.office_books.specs.Lawful.{AreLawful}
use Rattle.office_books.specs.Meters.{opened, installed, journal_of, rows_of, installation_of, meter_of, place_in, entry_at}
use Rattle.office_books.proofs.Journals.{found, well}
use Rattle.office_books.proofs.Lookups.{same_text, same_itself, find_passes}
use Rattle.office_books.specs.Near.{with_energy, ReportsNear}
use Rattle.office_books.proofs.Within.{within_whole, reports_near}
use Rattle.store_tables.specs.declared.entries.rows.EntryRow as stored
use Rattle.store_tables.specs.Entries.Rows.{Entered, Voided, is_of, is_void_of}
use Rattle.office_store.specs.Rows.{counter_after, entered_rows, entries_at, entries_of, entry_row, voided}
use Rattle.office_store.proofs.Energy.{found_recorded}
use Rattle.office_store.proofs.Passing.{any_permutation}
use Rattle.office_store.specs.declared.metering.around.Around as stored_around
use Rattle.office_store.specs.declared.metering.around.Sides.{Sides}
use Rattle.office_store.specs.Metering.Around.{AreVoided, AreSides, ByVoids, FindsAt, FindsAround, IsSeen, next_from, ReportsOf, ReportsRightly}
use Rattle.office_store.specs.Metering.Entries.{row_from, names, ShowsVoids}
use Rattle.office_store.proofs.MeteringLemmas.Around.{AtRow, AreStruck, IsNextRow, all_of_meter, all_places, entries_at_rows, next_around, none_next, none_reported, stood_around, reported_of}
use Rattle.office_store.proofs.MeteringLemmas.Journals.{IsReported, back_by, numbered, one_back, voids_are}
use Rattle.office_store.proofs.MeteringLemmas.Shapes.{IsPlain, found_rest, found_there, plain}

-- Lemmas on a search for the nearest entry of a meter that is not voided (cancelled). The search
-- queries one index after another, and all entries that it passes over are voided.

pub none_between : (vs : List Voided) (low high : ℕ) → high ≤ low + 1 → AreVoided vs low high
none_between vs low high none place above below = absurd (omega (arith, none, above, below))

pub further_down : (vs : List Voided) (low p high : ℕ) → low + 1 ≡ p → AreVoided vs p high → true ≡ list_any (names p) vs → AreVoided vs low high
further_down vs low p high next are is place above below = elim (cases_Bool (nat_lt p place)) [
  | inl later ↦ are place (grind (arith, nat_tests, later)) below
  | inr here ↦ let same : p ≡ place = grind (arith, nat_tests, here, above, next) in subst (λ q. list_any (names q) vs ≡ true) same (sym is)
]

pub further_up : (vs : List Voided) (low p high : ℕ) → p + 1 ≡ high → AreVoided vs low p → true ≡ list_any (names p) vs → AreVoided vs low high
further_up vs low p high next are is place above below = elim (cases_Bool (nat_lt place p)) [
  | inl earlier ↦ are place above (grind (arith, nat_tests, earlier))
  | inr here ↦ let same : p ≡ place = grind (arith, nat_tests, here, below, next) in subst (λ q. list_any (names q) vs ≡ true) same (sym is)
]

-- If all rows of a meter have a property, the row that a search by index finds has this property.

row_holds : (P : EntryRow → Type 0) (place : ℕ) (rows : List EntryRow) (around : journal.Around) → AllByRecursion P rows → row_at place rows ≡ Some around → P around.row
row_holds P place [] around all h = absurd (let e = h in cc)
row_holds P place (row ∷ rows) around all h = elim (cases_Bool (row.place == place)) [
  | inl is ↦
      let this : record { before = rows; row = row; next = None } ≡ around = same_Some _ around (sym (cond-true _ _ _ is) ∙ h) in
      subst (λ (a : journal.Around). P a.row) this all.0
  | inr off ↦
      let it = found_rest place row (row_at place rows) around (sym (cond-false _ _ _ off) ∙ h) in
      subst P (sym it.2) (row_holds P place rows it.0 all.1 it.1)
]

-- Lemmas that, if a meter entry is built from its row and the rows before and after it, the result
-- equals the recorded entry.

module _ (journals : JournalsFit) (stand : RowsStand) (change : VoidsChangeTwoRows) (kept : JournalsAreKept) (places : PlacesWereKept) (facts : List Fact) (meter : List ℕ) (o : Opening) (there : opening_of facts meter ≡ Some o) (lawful : AreLawful facts)
    (vs : List Voided) (all : IsPermutation (filter (is_void_of meter) (map voided (voids_in facts))) vs) where
  abbrev rows : List EntryRow
  rows = rows_of facts o

  abbrev lines : Journal
  lines = journal_of facts o.meter

  meter_is : o.meter ≡ meter
  meter_is = same_text o.meter meter (find_passes (λ (x : Opening). same x.meter meter) (openings_in facts) o there)

  recorded_there : IsRecorded facts o
  recorded_there = found_recorded (λ (x : Opening). same x.meter meter) (openings_in facts) o there

  places_are : AreNumbered rows
  places_are = numbered journals stand facts o lawful recorded_there

  plains : AllByRecursion (IsPlain lines) rows
  plains = plain stand change (installed o) (well facts o lawful (found facts o lawful recorded_there)) lines (journals facts o lawful recorded_there)

  -- The table `voids` has a row for exactly those indices whose entries are marked as voided
  -- (cancelled) in the meter's history.
  named_is : (place : ℕ) → list_any (names place) vs ≡ is_voided place lines
  named_is place = sym (any_permutation (names place) _ _ all) ∙ voids_are meter place facts ∙ ap (λ m. is_voided place (journal_of facts m)) (sym meter_is)

  struck_is : (low high : ℕ) → AreVoided vs low high → AreStruck lines low high
  struck_is low high are place above below = sym (named_is place) ∙ are place above below

  reported : (row : EntryRow) → IsPlain lines row → IsReported o vs row
  reported row h = record { shape = h.shape; reading = h.reading; stands = ap not (named_is row.place) ∙ sym h.stands }

  mine : (table : List Entered) → ((m : List ℕ) → IsPermutation (filter (is_of m) table) (entries_of facts m)) → IsPermutation (filter (is_of meter) table) (entered_rows o rows)
  mine table each = subst (IsPermutation (filter (is_of meter) table)) (ap (entries_at facts) there) (each meter)

  of_meter : AllByRecursion (λ (e : Entered). is_of meter e ≡ true) (entered_rows o rows)
  of_meter = subst (λ (m : List ℕ). AllByRecursion (λ (e : Entered). is_of m e ≡ true) (entered_rows o rows)) meter_is (all_of_meter o rows (same_itself o.meter))

  module _ (place : ℕ) (late : 2 ≤ place) (sides : Sides) (are : AreSides vs place sides) (seen : stored_around.Around) (finds : FindsAround meter place sides.before sides.after facts seen) where
    row : AtRow o place rows seen.entry
    row = reported_of meter o rows finds.entry.table (mine finds.entry.table finds.entry.each) (AtRow o place rows) place seen.entry (entries_at_rows o place rows places_are late) finds.entry.is

    abbrev around : journal.Around
    around = row.around

    at_place : around.row.place ≡ place
    at_place = (found_there place rows around places_are row.there).1

    row_is : row_from seen.entry sides.stands ≡ Some around.row
    row_is =
        let its : IsReported o vs around.row = reported around.row (row_holds (IsPlain lines) place rows around plains row.there) in
        ap (λ b. row_from seen.entry b) (are.stands ∙ ap (λ n. not (list_any (names n) vs)) (sym at_place))
        ∙ ap (λ (e : stored.EntryRow). row_from e (not (list_any (names around.row.place) vs))) row.is ∙ one_back o vs around.row around.before its

    before_is : counter_after seen.before ≡ last_of (opened o) (entries_in around.before)
    before_is =
        reported_of meter o rows finds.before.table (mine finds.before.table finds.before.each) (λ (e : stored.EntryRow). counter_after e ≡ last_of (opened o) (entries_in around.before)) sides.before seen.before
        (stood_around o lines place sides.before rows around places_are plains row.there are.before.lower (struck_is sides.before place are.before.between)
        (elim are.before.stands [
          | inl first ↦ inl first
          | inr stands ↦ inr (sym (named_is sides.before) ∙ stands)
        ])) finds.before.is

    next_reported : (next : Option stored.EntryRow) → FindsAt meter sides.after facts next → next_from next ≡ around.next
    next_reported None h =
        let beyond = all_places o sides.after rows places_are (let up = are.after.higher in omega (arith, up, late)) (none_reported meter o rows h.table (mine h.table h.each) sides.after of_meter h.is) in
        sym (none_next o lines place rows around places_are plains row.there (λ q above under. struck_is place sides.after are.after.between q above (omega (arith, under, beyond))))
    next_reported (Some e) h =
        let it = reported_of meter o rows h.table (mine h.table h.each) (IsNextRow o lines around) sides.after e
        (next_around o lines place sides.after rows around places_are plains row.there are.after.higher (struck_is place sides.after are.after.between) (sym (named_is sides.after) ∙ are.after.stands)) h.is in
        let scale : it.row.stands ≡ true → e.sf ≡ (after (last_of (opened o) (entries_in it.before)) it.row.entry).sf =
        λ on. it.scale ∙ ap (λ es. (last_of (opened o) es).sf) (entries_standing it.row it.before on) in
        ap (λ (x : stored.EntryRow). row_from x true) it.is ∙ ap (row_from (entry_row e.sf it.row)) (sym it.stands)
        ∙ back_by e.sf (last_of (opened o) (entries_in it.before)) it.row.place it.row.kind it.row.entry it.row.stands it.shape (λ off. absurd (let f : true ≡ false = sym it.stands ∙ off in cc)) scale ∙ sym it.next

    seen_near : (whole : Installation) (p : EntryContext) → Some whole ≡ meter_of facts meter → IsSeen whole seen sides.stands p → ReportsNear facts meter place (Some p)
    seen_near whole p whole_is h =
        let whole_of : whole ≡ installation_of facts o = same_Some _ _ (whole_is ∙ ap (option_map (installation_of facts)) there) in
        let found_at : Some (place_in facts o around) ≡ entry_at facts meter place =
        sym (ap (option_and_then (λ (x : Opening). option_map (place_in facts x) (row_at place (rows_of facts x)))) there ∙ ap (option_map (place_in facts o)) row.there) in
        let row_same : p.row ≡ around.row = same_Some _ _ (h.row ∙ row_is) in
        let next_same : p.next ≡ around.next = h.next ∙ next_reported seen.next finds.next in
        let before_same : p.before ≡ (with_energy whole.total (place_in facts o around)).before =
        h.before ∙ ap (λ (l : Last). let i : Installation = record whole { last = l } in i) before_is
        ∙ ap (λ (w : Installation). let i : Installation = record { opening = w.opening; last = last_of (opened o) (entries_in around.before); total = whole.total; ended = w.ended } in i) whole_of in
        let all_same : p ≡ with_energy whole.total (place_in facts o around) =
        ap (λ (b : Installation). let q : EntryContext = record { before = b; row = p.row; next = p.next } in q) before_same
        ∙ ap₂ (λ (r : EntryRow) (n : Option EntryRow). let q : EntryContext = record { before = (with_energy whole.total (place_in facts o around)).before; row = r; next = n } in q) row_same next_same in
        subst (λ (q : EntryContext). ReportsNear facts meter place (Some q)) (sym all_same)
        (reports_near facts meter place whole (Some (place_in facts o around)) whole_is found_at (within_whole kept places facts lawful meter place))

-- If a meter entry is built from its row and the rows before and after it, the result equals the
-- entry in the store's records.
pub seen_rightly : JournalsFit → RowsStand → VoidsChangeTwoRows → JournalsAreKept → PlacesWereKept → (facts : List Fact) (meter : List ℕ) (place : ℕ) → 2 ≤ place → (vs : List Voided) → IsPermutation (filter (is_void_of meter) (map voided (voids_in facts))) vs
    → (sides : Sides) → AreSides vs place sides → (seen : stored_around.Around) → FindsAround meter place sides.before sides.after facts seen → (whole : Installation) (p : EntryContext) → Some whole ≡ meter_of facts meter → IsSeen whole seen sides.stands p
    → ReportsNear facts meter place (Some p)
seen_rightly journals stand change kept places facts meter place late vs all sides are seen finds whole p whole_is h =
    let o = mapped_some (installation_of facts) (opening_of facts meter) whole (sym whole_is) in
    seen_near journals stand change kept places facts meter o.0 o.1 finds.entry.lawful vs all place late sides are seen finds whole p whole_is h

if_seen : (facts : List Fact) (meter : List ℕ) (place : ℕ) (whole : Installation) (seen : stored_around.Around) (stands : Bool) (r : Option EntryContext) → IfSome r (IsSeen whole seen stands)
    → ((p : EntryContext) → Some whole ≡ meter_of facts meter → IsSeen whole seen stands p → ReportsNear facts meter place (Some p)) → IfSome r (λ p. ReportsOf meter place whole facts (Some p))
if_seen facts meter place whole seen stands None h reports = tt
if_seen facts meter place whole seen stands (Some p) h reports = λ whole_is. reports p whole_is h

-- If a meter entry is built from the rows of `entries` and `voids` (cancelled entries), the result
-- equals the entry in the store's records.
pub reported_rightly : JournalsFit → RowsStand → VoidsChangeTwoRows → JournalsAreKept → PlacesWereKept → (facts : List Fact) (meter : List ℕ) (place : ℕ) → 2 ≤ place → (shown reported : List Row) (sides : Sides) (found : Option stored_around.Around) (seen : stored_around.Around)
    (whole : Installation) (r : Option EntryContext) → ShowsVoids meter facts shown → reported ≡ shown → ByVoids (λ (vs : List Voided). AreSides vs place sides) reported → IfSome found (FindsAround meter place sides.before sides.after facts) → found ≡ Some seen
    → IfSome r (IsSeen whole seen sides.stands) → ReportsRightly meter place whole facts r
reported_rightly journals stand change kept places facts meter place late shown reported sides found seen whole r shows same by finds is h =
    let are : AreSides shows.voids place sides = by shows.voids (same ∙ shows.shown) in
    let here : FindsAround meter place sides.before sides.after facts seen = subst (λ (f : Option stored_around.Around). IfSome f (FindsAround meter place sides.before sides.after facts)) is finds in
    record {
      lawful = shows.lawful;
      right = if_seen facts meter place whole seen sides.stands r h (λ p whole_is seen_is. seen_rightly journals stand change kept places facts meter place late shows.voids shows.all sides are seen here whole p whole_is seen_is);
    }

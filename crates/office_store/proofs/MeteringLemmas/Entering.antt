-- Proofs that a query finds the entry of a meter at an index.
use Rattle.std.proofs.Common.{◌≡◌, ℕ, List, map, filter, reverse, take, Option, Some, None, option_map, Ok, Err, Result, IfOk, IfErr, refl, sym, ap, subst, ◌∙◌, IsPermutation}
use Rattle.std.specs.Option.{option_and_then}
use Rattle.std.specs.List.{filter_map}
use Rattle.std.proofs.lemmas.List.{reverse-reverse}
use Rattle.std.proofs.lemmas.Option.{same_Some}
use Rattle.std.proofs.lemmas.List.Elements.{recursion_from_All, All-from_recursion}
use Rattle.std.proofs.lemmas.List.Sorted.{All-permutation, IsPermutation-sym, IsPermutation-trans}
use Rattle.sqlite_keyed.proofs.ListLemmas.{all-filter}
use Rattle.sqlite.specs.Order.{Row}
use Rattle.meter_journal.specs.declared.lines.EntryRow.{EntryRow}
use Rattle.meter_journal.specs.Journal.{Around, entries_in, row_at}
use Rattle.meter_journal.specs.Books.{HasAccount}
use Rattle.meter_journal.specs.Laws.{RowsStand}
use Rattle.meter_journal.specs.Lists.{AreNumbered, latest_first}
use Rattle.meter_journal.specs.Changes.{PlacesWereKept}
use Rattle.meter_journal.proofs.Keeping.{mapped_some}
use Rattle.meter_journal.specs.Voids.{VoidsChangeTwoRows}
use Rattle.office_events.specs.declared.facts.Opening.{Opening}
use Rattle.office_events.specs.declared.facts.Fact.{Fact}
use Rattle.office_events.specs.declared.questions.Installation.{Installation}
use Rattle.office_events.specs.declared.questions.EntryContext.{EntryContext}
use Rattle.office_books.specs.Facts.{same, openings_in, opening_of, voids_in}
use Rattle.office_books.specs.Lawful.{AreLawful}
use Rattle.office_books.specs.Meters.{rows_of, installation_of, meter_of, entry_at, place_in, standing, is_ended, installed, journal_of}
use Rattle.office_books.specs.Laws.{IsRecorded, JournalsFit}
use Rattle.office_books.specs.Ranges.{InstallationsAreInRange}
use Rattle.office_books.proofs.Journals.{found, well}
use Rattle.office_books.proofs.Lookups.{same_text, find_passes}
use Rattle.store_tables.specs.declared.faults.RowFault.{RowFault}
use Rattle.store_tables.specs.declared.faults.RowFault.TheVariants.{Damaged}
use Rattle.std.specs.List.{AllByRecursion}
use Rattle.store_tables.specs.Failing.{IsRowFault}
use Rattle.store_tables.proofs.ReadLemmas.{less_sound}
use Rattle.store_tables.specs.Answer.{AreFound, FirstFirst}
use Rattle.store_tables.specs.Asking.{Shows}
use Rattle.store_tables.specs.Entries.Rows.{Entered, Voided, is_of, is_void_of, entry_place, entry_shown, voided_shown, voided_place, IsSoundEntered, IsSoundVoided}
use Rattle.office_store.specs.Rows.{entered_rows, entries_of, voided}
use Rattle.office_store.proofs.Energy.{found_recorded}
use Rattle.office_store.specs.Metering.Entries.{AreJournal, ShowsEntries, ShowsVoids, FindsJournal, row_among, IsFaultOfJournal, CanBePlaced}
use Rattle.office_store.proofs.MeteringLemmas.Journals.{numbered, journal_back, entries_in_order}

-- If a search of the store's records for a meter's installation finds a record, this record has the
-- meter's name.
named : (facts : List Fact) (meter : List ℕ) (o : Opening) → opening_of facts meter ≡ Some o → o.meter ≡ meter
named facts meter o there = same_text o.meter meter (find_passes (λ (x : Opening). same x.meter meter) (openings_in facts) o there)

pub shows_entries : JournalsFit → RowsStand → (facts : List Fact) (meter : List ℕ) (rows : List Entered) (answer : List Row) → AreLawful facts → ((m : List ℕ) → IsPermutation (filter (is_of m) rows) (entries_of facts m))
    → Shows (is_of meter) (FirstFirst entry_place) entry_shown rows answer → ShowsEntries meter facts answer
shows_entries journals stand facts meter rows answer lawful each shows = record {
  entries = shows.0;
  shown = shows.2;
  all = λ o there.
      let recorded = found_recorded (λ (x : Opening). same x.meter meter) (openings_in facts) o there in
      let name = named facts meter o there in
      let alone : opening_of facts o.meter ≡ Some o = ap (opening_of facts) name ∙ there in
      let here = subst (λ (m : List ℕ). AreFound (is_of m) (FirstFirst entry_place) rows shows.0) (sym name) shows.1 in
      entries_in_order facts o rows shows.0 (numbered journals stand facts o lawful recorded) alone (each o.meter) here;
  sound = λ h. recursion_from_All IsSoundEntered _ (All-permutation IsSoundEntered _ _ (IsPermutation-trans _ _ _ (IsPermutation-sym _ _ (each meter)) shows.1.all) (All-from_recursion IsSoundEntered _ (h.entries meter)));
}

pub shows_voids : (facts : List Fact) (meter : List ℕ) (answer : List Row) → AreLawful facts → Shows (is_void_of meter) (FirstFirst voided_place) voided_shown (map voided (voids_in facts)) answer → ShowsVoids meter facts answer
shows_voids facts meter answer lawful shows = record {
  lawful = lawful;
  voids = shows.0;
  shown = shows.2;
  all = shows.1.all;
  sound = λ h. recursion_from_All IsSoundVoided _ (All-permutation IsSoundVoided _ _ shows.1.all (All-from_recursion IsSoundVoided _ (all-filter IsSoundVoided (is_void_of meter) (map voided (voids_in facts)) h.voids)));
}

pub journal_is : JournalsFit → RowsStand → VoidsChangeTwoRows → (facts : List Fact) (meter : List ℕ) (entries voids : List Row) (rows : List EntryRow) → ShowsEntries meter facts entries → ShowsVoids meter facts voids
    → AreJournal entries voids rows → FindsJournal meter facts rows
journal_is journals stand change facts meter entries voids rows shown void are = λ o there.
    let recorded = found_recorded (λ (x : Opening). same x.meter meter) (openings_in facts) o there in
    let name = named facts meter o there in
    let all = subst (λ (m : List ℕ). IsPermutation (filter (is_void_of m) (map voided (voids_in facts))) void.voids) (sym name) void.all in
    ap reverse (are shown.entries void.voids shown.shown void.shown ∙ ap (filter_map (row_among void.voids)) (shown.all o there) ∙ journal_back journals stand change facts o void.lawful recorded void.voids all)
    ∙ reverse-reverse (rows_of facts o)

-- If the store's records have a state of a meter, the meter was installed. The meter's entry at an
-- index then follows from its opening (the record that installs it) and the later entries.
by_opening : (facts : List Fact) (place : ℕ) (whole : Installation) (found : Option EntryContext) (opening : Option Opening) → Some whole ≡ option_map (installation_of facts) opening
    → ((o : Opening) → opening ≡ Some o → whole ≡ installation_of facts o → found ≡ option_map (place_in facts o) (row_at place (rows_of facts o)))
    → found ≡ option_and_then (λ o. option_map (place_in facts o) (row_at place (rows_of facts o))) opening
by_opening facts place whole found None is reports = absurd (let e = is in cc)
by_opening facts place whole found (Some o) is reports = reports o refl (same_Some _ _ is)

pub entry_is : (facts : List Fact) (meter : List ℕ) (place : ℕ) (whole : Installation) (rows : List EntryRow) (found : Option EntryContext) → Some whole ≡ meter_of facts meter → FindsJournal meter facts rows
    → ((o : Opening) → whole ≡ installation_of facts o → latest_first rows ≡ rows_of facts o → found ≡ option_map (place_in facts o) (row_at place (rows_of facts o)))
    → found ≡ entry_at facts meter place
entry_is facts meter place whole rows found is journal reports =
    by_opening facts place whole found (opening_of facts meter) is (λ o there whole_is. reports o whole_is (journal o there))

-- If a meter was never installed, it has no entry at any index.
none_at : (facts : List Fact) (place : ℕ) (opening : Option Opening) → None ≡ option_map (installation_of facts) opening
    → None ≡ option_and_then (λ o. option_map (place_in facts o) (row_at place (rows_of facts o))) opening
none_at facts place None is = refl
none_at facts place (Some o) is = absurd (let e = is in cc)

pub no_entry : (facts : List Fact) (meter : List ℕ) (place : ℕ) → None ≡ meter_of facts meter → None ≡ entry_at facts meter place
no_entry facts meter place is = none_at facts place (opening_of facts meter) is

pub placed_is : (facts : List Fact) (meter text : List ℕ) (place : ℕ) (x : Option Installation) (whole : Installation) (rows reported : List EntryRow) (r : Result (Option EntryContext) RowFault) → x ≡ Some whole → x ≡ meter_of facts meter → text ≡ meter
    → reported ≡ rows → FindsJournal text facts rows
    → ((o : Opening) → whole ≡ installation_of facts o → latest_first reported ≡ rows_of facts o → IfOk r (λ found. found ≡ option_map (place_in facts o) (row_at place (rows_of facts o))))
    → IfOk r (λ found. found ≡ entry_at facts meter place)
placed_is facts meter text place x whole rows reported (Err e) is found named same_rows journal reports = tt
placed_is facts meter text place x whole rows reported (Ok y) is found named same_rows journal reports =
    entry_is facts meter place whole rows y (sym is ∙ found) (subst (λ (t : List ℕ). FindsJournal t facts rows) named journal)
    (λ o whole_is rows_are. reports o whole_is (ap latest_first same_rows ∙ rows_are))

pub from_derefs : (a b c d : List Row) (rows : List EntryRow) → a ≡ c → b ≡ d → AreJournal a b rows → AreJournal c d rows
from_derefs a b c d rows one two are = subst (λ (l : List Row). AreJournal l d rows) one (subst (λ (l : List Row). AreJournal a l rows) two are)

pub placed_found : (facts : List Fact) (o : Opening) (place : ℕ) (whole before : Installation) (rows firsts : List EntryRow) (index : ℕ) (row : EntryRow) (next : Option EntryRow) → whole ≡ installation_of facts o → latest_first rows ≡ rows_of facts o
    → row_at place (latest_first rows) ≡ Some (record { before = latest_first (take index rows); row = row; next = next }) → firsts ≡ take index rows → before ≡ standing whole.opening (entries_in (latest_first firsts)) whole.ended
    → Some (let p : EntryContext = record { before = before; row = row; next = next } in p) ≡ option_map (place_in facts o) (row_at place (rows_of facts o))
placed_found facts o place whole before rows firsts index row next whole_is rows_are found first_is stood =
    let around : Around = record { before = latest_first (take index rows); row = row; next = next } in
    let at : row_at place (rows_of facts o) ≡ Some around = ap (row_at place) (sym rows_are) ∙ found in
    let was : before ≡ standing o (entries_in around.before) (is_ended facts o) =
    stood ∙ ap (λ (rs : List EntryRow). standing whole.opening (entries_in (latest_first rs)) whole.ended) first_is
    ∙ ap (λ (w : Installation). standing w.opening (entries_in around.before) w.ended) whole_is in
    ap (λ (b : Installation). Some (let p : EntryContext = record { before = b; row = row; next = next } in p)) was ∙ sym (ap (option_map (place_in facts o)) at)

-- Suppose that the meter entry at an index satisfies `CanBePlaced`; in particular, the rules for
-- meter entries accept the earlier entries. Then the energy before this entry can be computed from
-- the earlier entries that are not voided (cancelled).
pub account_before : (o : Opening) (place index : ℕ) (rows firsts : List EntryRow) (row : EntryRow) (next : Option EntryRow) → row_at place (latest_first rows) ≡ Some (record { before = latest_first (take index rows); row = row; next = next })
    → firsts ≡ take index rows → CanBePlaced o rows place → HasAccount (installed o) (entries_in (latest_first firsts))
account_before o place index rows firsts row next found_at is can =
    subst (λ (rs : List EntryRow). HasAccount (installed o) (entries_in (latest_first rs))) (sym is) (can.account (record { before = latest_first (take index rows); row = row; next = next }) found_at)

-- If the records are lawful (the store's rules accepted each after the earlier ones), the state of
-- a meter before each of its entries can be computed.
can_be_placed : InstallationsAreInRange → JournalsFit → RowsStand → PlacesWereKept → (facts : List Fact) (o : Opening) (place : ℕ) (rows : List EntryRow) → AreLawful facts → IsRecorded facts o
    → latest_first rows ≡ rows_of facts o → CanBePlaced o rows place
can_be_placed ranges journals stand kept facts o place rows lawful there are =
    let sound = (ranges facts lawful).recorded o there in
    let begun = well facts o lawful (found facts o lawful there) in
    record {
      numbers = record { range = sound.range; ceiling = sound.ceiling; raw = begun.raw; scale = begun.scale };
      places = subst AreNumbered (sym are) (numbered journals stand facts o lawful there);
      account = λ around at. (kept (installed o) (journal_of facts o.meter) place around begun (journals facts o lawful there) (ap (row_at place) (sym are) ∙ at)).account;
    }

-- If a query for a meter entry by its index reports `Damaged`, a row in the tables has a value out
-- of its range.
pub placed_fault : InstallationsAreInRange → JournalsFit → RowsStand → PlacesWereKept → (facts : List Fact) (meter text : List ℕ) (place : ℕ) (x : Option Installation) (whole : Installation) (rows reported : List EntryRow) (r : Result (Option EntryContext) RowFault)
    → (Sound : Type 0) → (Sound → AreLawful facts) → x ≡ Some whole → x ≡ meter_of facts meter → text ≡ meter → reported ≡ rows → FindsJournal text facts rows → IfErr r (λ e. (e ≡ Damaged) × (¬ CanBePlaced whole.opening reported place))
    → IfErr r (IsRowFault Sound)
placed_fault ranges journals stand kept facts meter text place x whole rows reported (Ok y) Sound lawful is found_is named same_rows journal h = tt
placed_fault ranges journals stand kept facts meter text place x whole rows reported (Err e) Sound lawful is found_is named same_rows journal h =
    subst (IsRowFault Sound) (sym h.0) (λ sound.
    let o = mapped_some (installation_of facts) (opening_of facts meter) whole (sym found_is ∙ is) in
    let there = found_recorded (λ (x : Opening). same x.meter meter) (openings_in facts) o.0 o.1 in
    let are : latest_first reported ≡ rows_of facts o.0 = ap latest_first same_rows ∙ journal o.0 (ap (opening_of facts) named ∙ o.1) in
    h.1 (subst (λ (w : Installation). CanBePlaced w.opening reported place) o.2 (can_be_placed ranges journals stand kept facts o.0 place reported (lawful sound) there are)))

pub journal_fault : {C : Type 0} (Sound : Type 0) (entries voids shown reported : List Row) (r : Result C RowFault) → shown ≡ entries → reported ≡ voids → (es : List Entered) (vs : List Voided) → entries ≡ map entry_shown es → voids ≡ map voided_shown vs
    → IfErr r (IsFaultOfJournal shown reported) → (Sound → AllByRecursion IsSoundEntered es × AllByRecursion IsSoundVoided vs) → IfErr r (IsRowFault Sound)
journal_fault Sound entries voids shown reported (Ok x) one two es vs first second h sound = tt
journal_fault Sound entries voids shown reported (Err e) one two es vs first second h sound =
    less_sound Sound (AllByRecursion IsSoundEntered es × AllByRecursion IsSoundVoided vs) sound e (h es vs (one ∙ first) (two ∙ second))

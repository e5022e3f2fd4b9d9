-- Proofs that the rows of the tables determine two things of each meter in the store's records: its
-- opening (the record that installs it), and its state.
use Rattle.std.proofs.Common.{◌≡◌, ℕ, ◌+◌, ◌==◌, ◌&&◌, Bool, true, false, List, [], ◌∷◌, map, filter, length, Option, Some, None, option_map, string_bytes, bytes_eq, refl, sym, ap, subst, ◌∙◌, arith, eqb-true, IsPermutation}
use Rattle.std.specs.List.{AllByRecursion}
use Rattle.std.proofs.lemmas.Bool.{and_parts}
use Rattle.std.proofs.lemmas.Option.{same_Some}
use Rattle.std.proofs.lemmas.List.Elements.{recursion_from_All, All-from_recursion}
use Rattle.std.proofs.lemmas.List.Sorted.{All-permutation, IsPermutation-sym}
use Rattle.sqlite_keyed.proofs.ListLemmas.{all_kept, all-filter}
use Rattle.meter_journal.specs.declared.lines.EntryRow as journal
use Rattle.meter_journal.specs.Lists.{AreNumbered}
use Rattle.office_events.specs.declared.facts.Opening.{Opening}
use Rattle.office_events.specs.declared.facts.Fact.{Fact}
use Rattle.office_events.specs.declared.questions.Installation.{Installation}
use Rattle.office_books.specs.Facts.{same, openings_in, opening_of, installed_at}
use Rattle.office_books.specs.Lawful.{AreLawful}
use Rattle.office_books.specs.Meters.{rows_of, installation_of}
use Rattle.office_books.specs.Laws.{VoidsLeaveNoTrace, IsRecorded}
use Rattle.office_books.specs.Ranges.{IsSound, InstallationsAreInRange}
use Rattle.office_events.specs.Names.{is_name}
use Rattle.office_store.specs.Metering.Sound.{HasNames, IsNamed}
use Rattle.office_store.proofs.FindingLemmas.Lists.{all_found}
use Rattle.office_books.proofs.Lookups.{same_text, find_passes, each_found}
use Rattle.office_books.proofs.FoundOpenings.{openings_apart, found_installed}
use Rattle.store_tables.specs.Answer.{IsFound, IsLast, every}
use Rattle.store_tables.specs.declared.meters.rows.Installation as stored
use Rattle.store_tables.specs.Meters.Rows.{Installed, IsInstalled, is_meter, is_at, installed_place, HasInstalledPlace, is_range_of, HasRange}
use Rattle.store_tables.specs.declared.entries.rows.EntryRow.{EntryRow}
use Rattle.store_tables.specs.Entries.Rows.{Entered, is_of, is_entry, IsRow}
use Rattle.office_store.specs.Rows.{entered, placed, installed_row, ranged, opening_row, entered_rows, entries_at, entries_of}
use Rattle.office_store.proofs.Energy.{found_recorded}
use Rattle.office_store.proofs.Placed.{last_counts}
use Rattle.office_store.specs.Metering.Meters.{IsRowOf, FindsRow, FindsRange, FindsFirst, CountsOpenings, opening_from, standing_from, IsStanding}
use Rattle.office_store.proofs.MeteringLemmas.Picked.{found_has, none_placed, none_mapped, none_passes, last_placed, all_placed, all_mapped}

-- If the records are lawful (the store's rules accepted each after the earlier ones), no meter was
-- installed twice. So a search by the meter finds its only installation.
pub alone : (facts : List Fact) → AreLawful facts → AllByRecursion (λ (o : Opening). opening_of facts o.meter ≡ Some o) (openings_in facts)
alone facts lawful = recursion_from_All _ _ (each_found (λ (o : Opening). o.meter) (openings_in facts) (openings_apart facts lawful))

-- The query of `installations` for a meter finds the row of the meter, if the meter was installed.

pub row_found : (facts : List Fact) (meter : List ℕ) → AreLawful facts → (found : Option stored.Installation)
    → IsFound (is_meter meter) IsInstalled (placed (installed_row facts) (openings_in facts)) found → FindsRow facts (opening_of facts meter) found
row_found facts meter lawful None h =
    subst (λ (o : Option Opening). FindsRow facts o None)
    (sym (none_placed (installed_row facts) (λ (o : Opening). same o.meter meter) (is_meter meter) (λ n o. refl) (openings_in facts) h)) refl
row_found facts meter lawful (Some a) h =
    let P : Opening → Type 0 = λ o. opening_of facts o.meter ≡ Some o in
    let it = found_has (is_meter meter) (λ (y : Installed). (o : Opening) × (n : ℕ) × (y ≡ installed_row facts n o) × P o) (placed (installed_row facts) (openings_in facts)) h.0 h.2
    (all_placed (installed_row facts) P (openings_in facts) (alone facts lawful)) h.3 in
    let o = it.0.0 in
    let named : o.meter ≡ meter = same_text o.meter meter (sym (ap (is_meter meter) it.0.2) ∙ it.1) in
    let there : opening_of facts meter ≡ Some o = subst (λ (t : List ℕ). opening_of facts t ≡ Some o) named it.0.3 in
    subst (λ (x : Option Opening). FindsRow facts x (Some a)) (sym there)
    (record { place = it.0.1; row = subst (λ (y : Installed). IsInstalled y a) it.0.2 h.1; alone = it.0.3 })

pub row_found_at : (facts : List Fact) (register : List ℕ) → AreLawful facts → (found : Option stored.Installation)
    → IsLast (is_at register) IsInstalled installed_place (placed (installed_row facts) (openings_in facts)) found → FindsRow facts (installed_at facts register) found
row_found_at facts register lawful None h =
    subst (λ (o : Option Opening). FindsRow facts o None)
    (sym (none_placed (installed_row facts) (λ (o : Opening). same o.register register) (is_at register) (λ n o. refl) (openings_in facts) h)) refl
row_found_at facts register lawful (Some a) h =
    let it = last_placed (installed_row facts) (λ (o : Opening). same o.register register) (is_at register) (λ n o. refl) IsInstalled installed_place (λ n o. refl) (openings_in facts) a h in
    subst (λ (x : Option Opening). FindsRow facts x (Some a)) (sym it.2)
    (record { place = it.1; row = it.3; alone = found_installed facts register it.0 lawful it.2 })

pub counted : (facts : List Fact) (found : Option ℕ) → IsLast every HasInstalledPlace installed_place (placed (installed_row facts) (openings_in facts)) found → CountsOpenings facts found
counted facts None h = let n = last_counts (installed_row facts) installed_place (λ place o. refl) (openings_in facts) None h in omega (arith, n)
counted facts (Some place) h = let n = last_counts (installed_row facts) installed_place (λ place o. refl) (openings_in facts) (Some place) h in omega (arith, n)

-- The query of `ranges` for a meter finds the counter range that the meter was installed with.

pub range_found : (facts : List Fact) (meter : List ℕ) → AreLawful facts → (found : Option ℕ) → IsFound (is_range_of meter) HasRange (map ranged (openings_in facts)) found → FindsRange meter facts found
range_found facts meter lawful None h = none_mapped ranged (λ (o : Opening). same o.meter meter) (is_range_of meter) (λ o. refl) (openings_in facts) h
range_found facts meter lawful (Some range) h = λ opening there.
    let P : Opening → Type 0 = λ o. opening_of facts o.meter ≡ Some o in
    let it = found_has (is_range_of meter) (λ y. (o : Opening) × (y ≡ ranged o) × P o) (map ranged (openings_in facts)) h.0 h.2
    (all_mapped ranged P (openings_in facts) (alone facts lawful)) h.3 in
    let o = it.0.0 in
    let named : o.meter ≡ meter = same_text o.meter meter (sym (ap (is_range_of meter) it.0.1) ∙ it.1) in
    let here : opening_of facts meter ≡ Some o = subst (λ (t : List ℕ). opening_of facts t ≡ Some o) named it.0.2 in
    let this : o ≡ opening = same_Some o opening (sym here ∙ there) in
    h.1 ∙ ap (λ r. r.range) it.0.1 ∙ ap (λ (x : Opening). x.range) this

-- Lemmas that the query of `entries` for a meter's first entry finds the row of the meter's
-- installation.

first_alone : (o : Opening) (rows : List journal.EntryRow) → AreNumbered rows → AllByRecursion (λ (e : Entered). e.entry.place ≡ 1 → e.entry ≡ opening_row o) (entered_rows o rows)
first_alone o [] numbered = (λ is. refl, tt)
first_alone o (row ∷ rows) numbered = (λ is. absurd (let place = numbered.0 in omega (arith, place, is)), first_alone o rows numbered.1)

-- If a property holds for all of a meter's rows in `entries`, it holds for the row of its opening,
-- the meter's first entry.
at_opening : (o : Opening) (P : Entered → Type 0) (rows : List journal.EntryRow) → AllByRecursion P (entered_rows o rows) → P (entered o.meter (opening_row o))
at_opening o P [] all = all.0
at_opening o P (row ∷ rows) all = at_opening o P rows all.1

none_first : (facts : List Fact) (meter : List ℕ) (rows : List Entered) → ((m : List ℕ) → IsPermutation (filter (is_of m) rows) (entries_of facts m)) → filter (is_entry meter 1) rows ≡ []
    → (found : Option Opening) → opening_of facts meter ≡ found → opening_of facts meter ≡ None
none_first facts meter rows each h None is = is
none_first facts meter rows each h (Some o) is =
    let P : Entered → Type 0 = λ e. is_entry meter 1 e ≡ false in
    let mine : AllByRecursion P (filter (is_of meter) rows) = all-filter P (is_of meter) rows (none_passes (is_entry meter 1) rows h) in
    let whole : entries_of facts meter ≡ entered_rows o (rows_of facts o) = ap (entries_at facts) is in
    let all = recursion_from_All P _ (All-permutation P _ _ (each meter) (All-from_recursion P _ mine)) in
    let off = at_opening o P (rows_of facts o) (subst (AllByRecursion P) whole all) in
    let on : same o.meter meter ≡ true = find_passes (λ (x : Opening). same x.meter meter) (openings_in facts) o is in
    absurd (let e : same o.meter meter && true ≡ false = off in let f : true && true ≡ false = subst (λ b. b && true ≡ false) on e in cc)

pub first_found : VoidsLeaveNoTrace → (facts : List Fact) (meter : List ℕ) (rows : List Entered) → AreLawful facts → ((m : List ℕ) → IsPermutation (filter (is_of m) rows) (entries_of facts m)) → (found : Option EntryRow)
    → IsFound (is_entry meter 1) IsRow rows found → FindsFirst meter facts found
first_found law facts meter rows lawful each None h = none_first facts meter rows each h (opening_of facts meter) refl
first_found law facts meter rows lawful each (Some entry) h = λ opening there.
    let P : Entered → Type 0 = λ e. e.entry.place ≡ 1 → e.entry ≡ opening_row opening in
    let recorded = found_recorded (λ (x : Opening). same x.meter meter) (openings_in facts) opening there in
    let numbered : AreNumbered (rows_of facts opening) = (law facts opening lawful recorded).rows.places in
    let whole : entries_of facts meter ≡ entered_rows opening (rows_of facts opening) = ap (entries_at facts) there in
    let first = subst (AllByRecursion P) (sym whole) (first_alone opening (rows_of facts opening) numbered) in
    let mine = recursion_from_All P _ (All-permutation P _ _ (IsPermutation-sym _ _ (each meter)) (All-from_recursion P _ first)) in
    let it = found_has (is_entry meter 1) (λ (e : Entered). is_of meter e ≡ true → P e) rows h.0 h.2 (all_kept P (is_of meter) rows mine) h.3 in
    let y : Entered = h.0 in
    let parts = and_parts (bytes_eq y.meter meter) (y.entry.place == 1) it.1 in
    let at_one = parts.1 in
    let place : y.entry.place ≡ 1 = eqb-true y.entry.place 1 at_one in
    h.1 ∙ it.0 parts.0 place

-- The rows that three queries find for a meter in `installations`, `ranges` and `entries` together
-- encode the meter's first entry and its current state.

pub opening_is : (facts : List Fact) (o : Opening) (row : stored.Installation) (range : ℕ) (first : EntryRow) → IsRowOf facts o row → FindsRange (string_bytes row.meter) facts (Some range) → FindsFirst (string_bytes row.meter) facts (Some first)
    → opening_from row range first ≡ o
opening_is facts o row range first is ranges begins =
    let named : string_bytes row.meter ≡ o.meter = is.row.meter in
    let there : opening_of facts (string_bytes row.meter) ≡ Some o = ap (opening_of facts) named ∙ is.alone in
    let range_is : range ≡ o.range = ranges o there in
    let first_is : first ≡ opening_row o = begins o there in
    λ i. record {
      meter = is.row.meter i;
      register = is.row.register i;
      ceiling = (is.row.row i).ceiling;
      range = range_is i;
      at = (first_is i).moment;
      raw = (first_is i).raw;
      sf = (first_is i).sf;
    }

pub standing_is : (facts : List Fact) (o made : Opening) (row : stored.Installation) → IsRowOf facts o row → made ≡ o → standing_from made row.row ≡ installation_of facts o
standing_is facts o made row is opening = λ i. record {
  opening = opening i;
  last = record { at = (is.row.row i).last.moment; raw = (is.row.row i).last.raw; sf = (is.row.row i).last.sf };
  total = (is.row.row i).last.total;
  ended = (is.row.row i).is_ended;
}

pub standing_found : (facts : List Fact) (row : stored.Installation) (m : List ℕ) (x : Option ℕ) (y : Option EntryRow) (range : ℕ) (first : EntryRow) (made : Opening) (found : Installation) → m ≡ string_bytes row.meter → x ≡ Some range
    → y ≡ Some first → made ≡ opening_from row range first → FindsRange m facts x → FindsFirst m facts y → found ≡ standing_from made row.row → IsStanding row facts found
standing_found facts row m x y range first made found named ranged_is first_is made_is ranges begins is = λ o of.
    let one = subst (λ (t : List ℕ). FindsRange t facts (Some range)) named (subst (λ (z : Option ℕ). FindsRange m facts z) ranged_is ranges) in
    let two = subst (λ (t : List ℕ). FindsFirst t facts (Some first)) named (subst (λ (z : Option EntryRow). FindsFirst m facts z) first_is begins) in
    is ∙ standing_is facts o made row of (made_is ∙ opening_is facts o row range first of one two)

-- If a query finds a meter's row in `installations`, the look-up that ran the query returns the
-- state that the store's records have of this meter.
pub found_is : (facts : List Fact) (o : Option Opening) (x : Option stored.Installation) (row : stored.Installation) (found : Installation) → x ≡ Some row → FindsRow facts o x → IsStanding row facts found
    → Some found ≡ option_map (installation_of facts) o
found_is facts None x row found is finds stands = absurd (let e = sym finds ∙ is in cc)
found_is facts (Some o) x row found is finds stands = ap Some (stands o (subst (FindsRow facts (Some o)) is finds))

-- Lemmas on lawful records (each accepted by the store's rules after the earlier ones). The rows
-- that queries find have numbers in their ranges and valid names.

pub in_range : (facts : List Fact) (o : Opening) → IsSound (installation_of facts o) → IsSound (installation_of facts o)
in_range facts o h = record { range = h.range; ceiling = h.ceiling; raw = h.raw; scale = h.scale; total = h.total }

-- If the names in all recorded openings (records that install meters) are valid, the names in a row
-- of `installations` that a query finds are valid too.
pub named_row : (facts : List Fact) (o : Opening) (row : stored.Installation) → IsRowOf facts o row → AllByRecursion HasNames (openings_in facts) → IsNamed row
named_row facts o row is all =
    let names = all_found HasNames (λ (x : Opening). same x.meter o.meter) (openings_in facts) o all is.alone in
    record { meter = ap is_name is.row.meter ∙ names.meter; register = ap is_name is.row.register ∙ names.register }

-- If a query finds a meter's row in `installations`, the store's records contain the installation
-- of this meter.
pub no_opening : (facts : List Fact) (o : Opening) (row : stored.Installation) (meter : List ℕ) → meter ≡ string_bytes row.meter → IsRowOf facts o row → opening_of facts meter ≡ None → ⊥
no_opening facts o row meter named is none =
    let there : opening_of facts meter ≡ Some o = ap (opening_of facts) (named ∙ is.row.meter) ∙ is.alone in
    let f : None ≡ Some o = sym none ∙ there in cc

pub recorded_row : (facts : List Fact) (o : Opening) (row : stored.Installation) → IsRowOf facts o row → IsRecorded facts o
recorded_row facts o row is = found_recorded (λ (x : Opening). same x.meter o.meter) (openings_in facts) o is.alone

-- If the records are lawful (accepted by the store's rules) and a look-up finds a meter's row in
-- `installations`, the numbers in this row are in their ranges.
pub not_unsound : InstallationsAreInRange → (facts : List Fact) (o : Opening) (row : stored.Installation) (made : Opening) → AreLawful facts → IsRowOf facts o row → made ≡ o → ¬ IsSound (standing_from made row.row) → ⊥
not_unsound law facts o row made lawful is opening unsound =
    unsound (subst IsSound (sym (standing_is facts o made row is opening)) (in_range facts o ((law facts lawful).recorded o (recorded_row facts o row is))))

-- If a query for a meter finds a row in `installations`, the store's records have an opening (the
-- record that installs the meter) that this row encodes.
pub found_row : (facts : List Fact) (o : Option Opening) (row : stored.Installation) → FindsRow facts o (Some row) → (opening : Opening) × IsRowOf facts opening row
found_row facts None row finds = absurd (let e = finds in cc)
found_row facts (Some o) row finds = (o, finds)

-- If a meter has no row in `installations`, the store's records contain no installation of this
-- meter.
pub none_found : (facts : List Fact) (o : Option Opening) → FindsRow facts o None → None ≡ option_map (installation_of facts) o
none_found facts None finds = refl
none_found facts (Some o) finds = absurd finds

pub opening_made : (facts : List Fact) (o : Opening) (row : stored.Installation) (m : List ℕ) (x : Option ℕ) (y : Option EntryRow) (range : ℕ) (first : EntryRow) (made : Opening) → m ≡ string_bytes row.meter → x ≡ Some range
    → y ≡ Some first → made ≡ opening_from row range first → FindsRange m facts x → FindsFirst m facts y → IsRowOf facts o row → made ≡ o
opening_made facts o row m x y range first made named ranged_is first_is made_is ranges begins of =
    let one = subst (λ (t : List ℕ). FindsRange t facts (Some range)) named (subst (λ (z : Option ℕ). FindsRange m facts z) ranged_is ranges) in
    let two = subst (λ (t : List ℕ). FindsFirst t facts (Some first)) named (subst (λ (z : Option EntryRow). FindsFirst m facts z) first_is begins) in
    made_is ∙ opening_is facts o row range first of one two

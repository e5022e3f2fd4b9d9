-- Proofs that voiding (cancelling) a meter entry changes the tables so that they encode the store's
-- records with the void.
use Rattle.std.proofs.Common.{◌≡◌, ℕ, ℤ, ◌+◌, ◌≤◌, ◌&&◌, true, false, cond, inl, inr, ◌⊎◌, List, [], ◌∷◌, ◌++◌, map, filter, Option, Some, None, option_map, refl, sym, ap, ap₂, subst, ◌∙◌, IsPermutation, arith, append-nil}
use Rattle.std.specs.Prelude.{is_none}
use Rattle.std.specs.List.{AllByRecursion}
use Rattle.std.proofs.lemmas.Bool.{cond-true}
use Rattle.std.proofs.lemmas.Option.{same_Some}
use Rattle.std.proofs.lemmas.List.Sums.{sum_by-cons}
use Rattle.sqlite_keyed.proofs.RuleLemmas.{first_of_both, second_of_both}
use Rattle.energy_core.specs.declared.entries.Entry.{Entry}
use Rattle.energy_core.specs.declared.entries.Entry.TheVariants as entry
use Rattle.energy_core.specs.declared.entries.Last.{Last}
use Rattle.energy_core.specs.declared.entries.Step.{Step}
use Rattle.energy_core.specs.Account.{after, moment_of, step_to}
use Rattle.interval_core.specs.declared.shares.Share.{Share}
use Rattle.interval_core.specs.Share.{shares_of}
use Rattle.meter_journal.specs.declared.lines.EntryKind.{EntryKind}
use Rattle.meter_journal.specs.declared.lines.EntryRow.{EntryRow}
use Rattle.meter_journal.specs.Books as books
use Rattle.meter_journal.specs.Fitting as journals
use Rattle.meter_journal.specs.Intervals.{all_shares}
use Rattle.meter_journal.specs.Journal as journal
use Rattle.meter_journal.specs.Journal.{Around, row_at, is_read, is_reading, with_rolls}
use Rattle.meter_journal.specs.Laws.{RowsStand}
use Rattle.meter_journal.specs.Lists.{AreNumbered}
use Rattle.meter_journal.specs.Standing.{is_voided}
use Rattle.meter_journal.specs.Voids.{VoidsChangeTwoRows, last_before, steps_out, steps_put, step_if, energy_in}
use Rattle.meter_journal.proofs.Keeping.{by_read}
use Rattle.office_events.specs.declared.facts.Opening.{Opening}
use Rattle.office_events.specs.declared.facts.VoidedEntry.{VoidedEntry}
use Rattle.office_events.specs.declared.facts.Fact.{Fact}
use Rattle.office_events.specs.declared.facts.Fact.TheVariants as fact
use Rattle.office_books.specs.Facts.{openings_in, opening_of, voids_in}
use Rattle.office_books.specs.Lawful.{AreLawful}
use Rattle.office_books.specs.Meters.{opened, installed, journal_of, rows_of, installation_of}
use Rattle.office_books.proofs.Journals.{installed_fits, well}
use Rattle.office_books.proofs.Lookups.{same_itself}
use Rattle.office_books.proofs.Stepping.{named, own_line, installed_so}
use Rattle.store_tables.specs.Content.{Content}
use Rattle.store_tables.specs.declared.meters.rows.LastRow.{LastRow}
use Rattle.store_tables.specs.Meters.Rows.{HasRange}
use Rattle.store_tables.specs.Entries.Rows.{Entered, Voided, is_of}
use Rattle.store_tables.specs.declared.entries.rows.EntryRow as stored
use Rattle.office_store.specs.Rows.{counter_after, placed, installed_row, last_row, ranged, voided, rolls_of, raw_of, entry_row, entered_rows, entries_at}
use Rattle.office_store.specs.Tables.{AreOf}
use Rattle.office_store.proofs.Standing.{stands_found, range_found}
use Rattle.office_store.proofs.MeteringLemmas.Shapes.{HasShape, IsPlain, plain}
use Rattle.office_store.specs.Voids.Places.{AreVoided, names}
use Rattle.office_store.specs.Bookings.Corrections.{IsReadingOf, RejoinsNext, Corrects, energy_out, energy_put, gone_from}
use Rattle.office_store.specs.Bookings.MeterState.{counter_of, stands_at}
use Rattle.office_store.specs.Bookings.Places.{StandsThere}
use Rattle.office_store.specs.Bookings.Surroundings.{HasEntry, IsAround}
use Rattle.office_store.specs.declared.bookings.corrections.Correction.{Correction}
use Rattle.office_store.specs.declared.bookings.corrections.Rejoined.{Rejoined}
use Rattle.office_store.specs.declared.bookings.corrections.Rollover.{Rollover}
use Rattle.office_store.specs.declared.bookings.surroundings.Surroundings.{Surroundings}
use Rattle.office_store.proofs.MeteringLemmas.Around.{AtRow, IsNextRow, AreStruck, names_are, entries_at_rows, stands_after_row, stood_around, next_around, none_next, all_places, all_of_meter, opening_alone, reported_of, none_reported}
use Rattle.office_store.proofs.BookingsLemmas.Left.{HasRolls, IsLeft, next_out, next_put}
use Rattle.office_store.proofs.BookingsLemmas.Rolling as rolling

-- Lemmas: the row of `entries` that stores a meter's reading has the data of this reading.

read_back : (k : EntryKind) (e : Entry) → is_read k e ≡ true → entry.Step (moment_of e) (raw_of e) (rolls_of e) ≡ e
read_back k e is = by_read (λ k e. entry.Step (moment_of e) (raw_of e) (rolls_of e) ≡ e) (λ at raw rolls. refl) k e is

read_shape : (k : EntryKind) (e : Entry) → is_read k e ≡ true → HasShape k e
read_shape k e is = by_read HasShape (λ at raw rolls. tt) k e is

read_kind : (k : EntryKind) (e : Entry) → is_read k e ≡ true → is_reading k ≡ true
read_kind k e is = by_read (λ k e. is_reading k ≡ true) (λ at raw rolls. refl) k e is

-- If a reading's row of `entries` is converted to a meter entry, the result equals the recorded
-- entry.
reported_entry : (row : stored.EntryRow) (e : Entry) (sf : ℤ) (is : EntryRow) → IsReadingOf row e → row ≡ entry_row sf is → is_read is.kind is.entry ≡ true → e ≡ is.entry
reported_entry row e sf is reading row_is read =
    reading.step ∙ ap (λ (r : stored.EntryRow). entry.Step r.moment r.raw r.rolls) row_is ∙ read_back is.kind is.entry read

one_energy : (s : Step) → energy_in (s ∷ []) ≡ s.mwh
one_energy s = let parts = sum_by-cons (λ (x : Step). x.mwh) s [] in omega (arith, parts)

two_energies : (s t : Step) → energy_in (s ∷ t ∷ []) ≡ s.mwh + t.mwh
two_energies s t = let parts = sum_by-cons (λ (x : Step). x.mwh) s (t ∷ []) in let more = one_energy t in omega (arith, parts, more)

one_shares : (s : Step) → all_shares (s ∷ []) ≡ shares_of s
one_shares s = append-nil (shares_of s)

two_shares : (s t : Step) → all_shares (s ∷ t ∷ []) ≡ shares_of s ++ shares_of t
two_shares s t = ap (λ (l : List Share). shares_of s ++ l) (append-nil (shares_of t))

-- A void (the cancellation of an entry) changes the step to the next entry. True if the next
-- entry's new rollovers, and the subtracted and added energies, equal those computed from the
-- records with the void.
record NextLeft (o : Opening) (around : Around) (out : Step) (next : Option Rejoined) : Type 0 where
  rolls : HasRolls (opened o) around next
  outs : all_shares (steps_out (installed o) around) ≡ next_out next ++ shares_of out
  puts : all_shares (steps_put (installed o) around) ≡ next_put next
  gone : energy_in (steps_out (installed o) around) ≡ energy_out out next
  come : energy_in (steps_put (installed o) around) ≡ energy_put next

module _ (o : Opening) (around : Around) (out : Step) where
  abbrev last : Last
  last = last_before (opened o) around

  abbrev step : Step
  step = step_to o.range last around.row.entry

  abbrev outs_by : Option EntryRow → List Step
  outs_by next = step_if o.range (after last around.row.entry) next ++ step ∷ []

  abbrev puts_by : Option EntryRow → List Step
  puts_by next = step_if o.range last (option_map (journal.rolled last) next)

  none_left : out ≡ step → around.next ≡ None → NextLeft o around out None
  none_left out_is none = record {
    rolls = none;
    outs = ap (λ n. all_shares (outs_by n)) none ∙ (one_shares step ∙ ap shares_of (sym out_is));
    puts = ap (λ n. all_shares (puts_by n)) none;
    gone = ap (λ n. energy_in (outs_by n)) none ∙ (one_energy step ∙ ap (λ (s : Step). s.mwh) (sym out_is));
    come = ap (λ n. energy_in (puts_by n)) none;
  }

  one_left : (next : EntryRow) (joined : Rejoined) → out ≡ step → around.next ≡ Some next → (next.stands && is_reading next.kind) ≡ true
      → joined.rollover ≡ record { place = next.place; rolls = rolls_of (with_rolls last next.entry) }
      → joined.out ≡ step_to o.range (after last around.row.entry) next.entry → joined.put ≡ step_to o.range last (with_rolls last next.entry) → NextLeft o around out (Some joined)
  one_left next joined out_is is on rollover outs puts =
      let again : EntryRow = record next { entry = with_rolls last next.entry } in
      let rolled_is : journal.rolled last next ≡ again = cond-true (next.stands && is_reading next.kind) again next on in
      let two : Step = step_to o.range (after last around.row.entry) next.entry in
      let come : Step = step_to o.range last (with_rolls last next.entry) in
      let write_is : puts_by around.next ≡ come ∷ [] = ap puts_by is ∙ ap (λ (r : EntryRow). step_to o.range last r.entry ∷ []) rolled_is in
      record {
        rolls = (next, is, rollover);
        outs = ap (λ n. all_shares (outs_by n)) is ∙ (two_shares two step ∙ ap₂ (λ (s t : Step). shares_of s ++ shares_of t) (sym outs) (sym out_is));
        puts = ap all_shares write_is ∙ (one_shares come ∙ ap shares_of (sym puts));
        gone = ap (λ n. energy_in (outs_by n)) is ∙ (two_energies two step ∙ ap₂ (λ (s t : Step). s.mwh + t.mwh) (sym outs) (sym out_is));
        come = ap energy_in write_is ∙ (one_energy come ∙ ap (λ (s : Step). s.mwh) (sym puts));
      }

-- Lemmas: all changes that voiding (cancelling) a meter entry makes to `intervals` give the energy
-- by quarter hour that follows from the store's records.

module _ (v : VoidedEntry) (facts : List Fact) (lawful : AreLawful (fact.Void v ∷ facts)) (o : Opening) (there : opening_of facts v.meter ≡ Some o)
    (stand : RowsStand) (change : VoidsChangeTwoRows) (late : 2 ≤ v.place) (zone : List ℕ) (content after_asking : Content) (a : AreOf zone facts content)
    (found : Surroundings) (at : IsAround v.meter v.place found content after_asking) where
  abbrev lines : journal.Journal
  lines = journal_of facts o.meter

  abbrev rows : List EntryRow
  rows = rows_of facts o

  abbrev table : List Entered
  table = a.entries.rows

  abbrev vs : List Voided
  vs = map voided (voids_in facts)

  name : o.meter ≡ v.meter
  name = named facts v.meter o there

  begun : books.IsWellInstalled (installed o)
  begun = well facts o lawful.1 (installed_so facts v.meter o there)

  fitting : journals.AreFitting (installed o) lines
  fitting = installed_fits facts o lawful.1 (installed_so facts v.meter o there)

  fits : journals.VoidFits (installed o) rows v.place
  fits = own_line facts v.meter (journal.Voided v.place) o lawful.0.0 there

  numbered : AreNumbered rows
  numbered = (stand (installed o) lines begun fitting).places

  plains : AllByRecursion (IsPlain lines) rows
  plains = plain stand change (installed o) begun lines fitting

  are : IsPermutation (filter (is_of v.meter) table) (entered_rows o rows)
  are = subst (λ (l : List Entered). IsPermutation (filter (is_of v.meter) table) l) (ap (entries_at facts) there) (a.entries.each v.meter)

  row : AtRow o v.place rows found.near.entry
  row = reported_of v.meter o rows table are (AtRow o v.place rows) v.place found.near.entry (entries_at_rows o v.place rows numbered late) (at.near.entry.there table a.entries.there)

  abbrev around : Around
  around = row.around

  abbrev before : Last
  before = last_before (opened o) around

  -- The table `voids` has a row for an entry if and only if the meter's history marks the entry as
  -- voided (cancelled).
  named_at : (place : ℕ) → names v.meter place vs ≡ is_voided place lines
  named_at place = names_are facts v.meter place ∙ ap (λ m. is_voided place (journal_of facts m)) (sym name)

  struck : (low high : ℕ) → AreVoided v.meter low high vs → AreStruck lines low high
  struck low high h place above under = sym (named_at place) ∙ h place above under

  before_is : counter_after found.near.before ≡ before
  before_is =
      let near = at.near.before in
      let b = near.stands vs a.voids in
      let stands : (near.at ≡ 1) ⊎ (is_voided near.at lines ≡ false) = elim b.stands [
        | inl first ↦ inl first
        | inr off ↦ inr (sym (named_at near.at) ∙ off)
      ] in
      reported_of v.meter o rows table are (λ e. counter_after e ≡ before) near.at found.near.before (stood_around o lines v.place near.at rows around numbered plains row.there b.lower (struck near.at v.place b.between) stands)
      (near.there table a.entries.there)

  voidable : journals.is_voidable around.row around.next ≡ true
  voidable = subst (λ (a : Around). journals.is_voidable a.row a.next ≡ true) (same_Some fits.around around (sym fits.there ∙ row.there)) fits.voidable

  stands_and_read : (around.row.stands && is_read around.row.kind around.row.entry) ≡ true
  stands_and_read = first_of_both (around.row.stands && is_read around.row.kind around.row.entry) (journals.is_free around.next) voidable

  stands : around.row.stands ≡ true
  stands = first_of_both around.row.stands (is_read around.row.kind around.row.entry) stands_and_read

  read : is_read around.row.kind around.row.entry ≡ true
  read = second_of_both around.row.stands (is_read around.row.kind around.row.entry) stands_and_read

  free : journals.is_free around.next ≡ true
  free = second_of_both (around.row.stands && is_read around.row.kind around.row.entry) (journals.is_free around.next) voidable

  voided_is : counter_after found.near.entry ≡ after before around.row.entry
  voided_is = ap counter_after row.is ∙ stands_after_row o around.row around.before (read_shape around.row.kind around.row.entry read) stands

  -- The last entry and the total energy in the meter's row of `installations` equal the meter's
  -- last entry and energy in the store's records.
  last_is : found.standing.last ≡ last_row (installation_of facts o)
  last_is = let it = stands_found facts lawful.1 v.meter o there StandsThere found.standing.last (at.standing.last (placed (installed_row facts) (openings_in facts)) a.installations) in it.1 ∙ it.2

  range_is : found.standing.range ≡ o.range
  range_is = let it = range_found facts lawful.1 v.meter o there HasRange found.standing.range (at.standing.range (map ranged (openings_in facts)) a.ranges) in it.1 ∙ it.2

  opened_is : found.opened ≡ o.at
  opened_is = at.opened.moment ∙ reported_of v.meter o rows table are (λ e. e.moment ≡ o.at) 1 at.opened.opening (opening_alone o rows numbered) (at.opened.finds.there table a.entries.there)

  module _ (made : Correction) (corrects : Corrects found made) where
    out_is : made.out ≡ step_to o.range before around.row.entry
    out_is =
        corrects.out ∙ ap (λ n. step_to n (counter_after found.near.before) corrects.entry) range_is ∙ ap (λ (l : Last). step_to o.range l corrects.entry) before_is
        ∙ ap (step_to o.range before) (reported_entry found.near.entry corrects.entry _ around.row corrects.reading row.is read)

    next_left : (next : Option stored.EntryRow) (joined : Option Rejoined) → RejoinsNext found.standing.range (counter_after found.near.before) (counter_after found.near.entry) next joined
        → HasEntry v.meter at.near.next.at next content → NextLeft o around made.out joined
    next_left None joined none has =
        let higher = at.near.next.stands vs a.voids in
        let mine : AllByRecursion (λ (e : Entered). is_of v.meter e ≡ true) (entered_rows o rows) = subst (λ m. AllByRecursion (λ (e : Entered). is_of m e ≡ true) (entered_rows o rows)) name (all_of_meter o rows (same_itself o.meter)) in
        let beyond = all_places o at.near.next.at rows numbered (let up = higher.higher in omega (arith, up, late)) (none_reported v.meter o rows table are at.near.next.at mine (has table a.entries.there)) in
        let no_next : around.next ≡ None = none_next o lines v.place rows around numbered plains row.there (λ q above under. struck v.place at.near.next.at higher.between q above (omega (arith, under, beyond))) in
        subst (NextLeft o around made.out) (sym none) (none_left o around made.out out_is no_next)
    next_left (Some e) None none has = absurd none
    next_left (Some e) (Some joined) joins has =
        let higher = at.near.next.stands vs a.voids in
        let next = reported_of v.meter o rows table are (IsNextRow o lines around) at.near.next.at e
        (next_around o lines v.place at.near.next.at rows around numbered plains row.there higher.higher (struck v.place at.near.next.at higher.between) (sym (named_at at.near.next.at) ∙ higher.stands)) (has table a.entries.there) in
        let next_read : is_read next.row.kind next.row.entry ≡ true = subst (λ n. journals.is_free n ≡ true) next.next free in
        let it = rolling.next_there v.place rows around next.row numbered row.there next.next in
        let entry_is : joins.entry ≡ next.row.entry = reported_entry e joins.entry e.sf next.row joins.reading next.is next_read in
        let place_is : e.place ≡ next.row.place = ap (λ (r : stored.EntryRow). r.place) next.is in
        one_left o around made.out next.row joined out_is next.next (ap₂ ◌&&◌ it.stands (read_kind next.row.kind next.row.entry next_read))
        (joins.rollover ∙ ap (λ n. let r : Rollover = record { place = n; rolls = rolls_of (with_rolls (counter_after found.near.before) joins.entry) } in r) place_is
        ∙ ap₂ (λ (l : Last) (x : Entry). let r : Rollover = record { place = next.row.place; rolls = rolls_of (with_rolls l x) } in r) before_is entry_is)
        (joins.out ∙ ap (λ n. step_to n (counter_after found.near.entry) joins.entry) range_is ∙ ap₂ (λ (l : Last) (x : Entry). step_to o.range l x) voided_is entry_is)
        (joins.put ∙ ap (λ n. step_to n (counter_after found.near.before) (with_rolls (counter_after found.near.before) joins.entry)) range_is
        ∙ ap₂ (λ (l : Last) (x : Entry). step_to o.range l (with_rolls l x)) before_is entry_is)

    pub is_left : IsLeft facts o v.place made
    is_left =
        let next = next_left found.near.next made.next corrects.next at.near.next.there in
        record {
          around = around;
          there = row.there;
          rolls = next.rolls;
          out = next.outs;
          put = next.puts;
          gone = next.gone;
          come = next.come;
          total = corrects.total;
          sum = corrects.sum ∙ ap (λ (l : LastRow). l.total + energy_put made.next) last_is;
          last = corrects.last ∙ ap₂ (λ (b : Last) (l : LastRow). stands_at (cond (is_none made.next) b (counter_of l)) corrects.total) before_is last_is;
          from = corrects.from ∙ ap (λ n. gone_from n made.last.moment) opened_is;
        }

-- Proofs that after a meter entry was voided (cancelled as false), the meter's rows in the SQL
-- tables encode the store's records, which include the void.
use Rattle.std.proofs.Common.{◌≡◌, ◌≢◌, ℕ, ◌+◌, ◌≤◌, ◌<◌, ◌==◌, ◌&&◌, Bool, true, false, cond, inl, inr, List, [], ◌∷◌, ◌++◌, map, filter, Option, Some, None, option_map, bytes_eq, refl, sym, ap, ap₂, subst, ◌∙◌, IsPermutation, arith}
use Rattle.std.specs.Prelude.{nat_lt, is_some, is_none}
use Rattle.std.specs.List.{AllByRecursion}
use Rattle.std.proofs.lemmas.Bool.{cases_Bool, cond-false}
use Rattle.std.proofs.lemmas.Option.{same_Some}
use Rattle.std.proofs.lemmas.List.Sums.{sum_by-cons}
use Rattle.std.proofs.lemmas.List.Elements.{recursion_from_All}
use Rattle.std.proofs.lemmas.List.Sorted.{IsPermutation-map}
use Rattle.sqlite_keyed.proofs.ListLemmas.{all_weaker, all-append}
use Rattle.sqlite_keyed.proofs.RuleLemmas.{first_of_both, second_of_both}
use Rattle.energy_core.specs.declared.entries.Entry.{Entry}
use Rattle.energy_core.specs.declared.entries.Entry.TheVariants as entry
use Rattle.energy_core.specs.declared.entries.Last.{Last}
use Rattle.energy_core.specs.declared.entries.Step.{Step}
use Rattle.energy_core.specs.Account.{after, moment_of}
use Rattle.interval_core.specs.declared.shares.Share.{Share}
use Rattle.interval_core.specs.Share.{shares_of}
use Rattle.interval_core.specs.Account.{SharesAddUp, energy_of as energy_in_rows}
use Rattle.meter_journal.specs.declared.lines.EntryRow.{EntryRow}
use Rattle.meter_journal.specs.Books as books
use Rattle.energy_core.specs.Laws.{IsShareable}
use Rattle.meter_journal.specs.Changes.{LiesWithin, RowsLieWithin}
use Rattle.meter_journal.specs.Fitting as journals
use Rattle.meter_journal.specs.Intervals.{with_each, without_each, all_shares}
use Rattle.meter_journal.specs.Journal as journal
use Rattle.meter_journal.specs.Journal.{Around, entries_in, row_at, is_read, with_rolls}
use Rattle.meter_journal.specs.Laws.{RowsStand}
use Rattle.meter_journal.specs.Lists.{AreNumbered}
use Rattle.meter_journal.specs.Voids.{IsVoided, VoidsChangeTwoRows, AreTherein, changed_by, last_before, steps_out, steps_put, step_if, energy_in, rows_until}
use Rattle.office_events.specs.declared.facts.Opening.{Opening}
use Rattle.office_events.specs.declared.facts.VoidedEntry.{VoidedEntry}
use Rattle.office_events.specs.declared.facts.Fact.{Fact}
use Rattle.office_events.specs.declared.facts.Fact.TheVariants as fact
use Rattle.office_books.specs.Facts.{same, openings_in, opening_of}
use Rattle.office_books.specs.Intervals.{rows_of_opening, rows_of_installed, rows_of_meter}
use Rattle.office_books.specs.Lawful.{AreLawful}
use Rattle.office_books.specs.Laws.{IsRecorded, MetersAreKept}
use Rattle.office_books.specs.Meters.{opened, installed, journal_of, rows_of, installation_of}
use Rattle.office_books.specs.Ranges.{InstallationsAreInRange}
use Rattle.office_books.specs.Steps.{OtherMetersStay}
use Rattle.office_books.proofs.Journals.{installed_fits, well}
use Rattle.office_books.proofs.Lookups.{same_text}
use Rattle.office_books.proofs.Stepping.{installation_by, named, own_line, installed_so, line_after}
use Rattle.store_tables.specs.Content.{Content, HasRows, Edits, changed_where}
use Rattle.store_tables.specs.declared.meters.rows.LastRow.{LastRow}
use Rattle.store_tables.specs.Entries.Trees as entry_tree
use Rattle.store_tables.specs.Entries.Rows.{Entered, entry_columns, is_entry, is_of as is_entry_of, rolled as with_rollovers}
use Rattle.office_store.specs.Intervals.Trees as interval_tree
use Rattle.office_store.specs.Intervals.Rows.{Interval, interval_columns, is_of as is_interval_of}
use Rattle.office_store.specs.Intervals.StepShares.{EditsIf, AreSmall, with_shares}
use Rattle.office_store.specs.Rows.{installed_as, installed_row, last_row, interval_of, rolls_of, entered_rows, entries_at, entries_of}
use Rattle.office_store.specs.Tables.{AreEntries, AreIntervals}
use Rattle.office_store.proofs.Booked.{AreApart, AreRowsOf}
use Rattle.office_store.proofs.Energy.{found_recorded, opening_apart, rows_small}
use Rattle.office_store.proofs.Entered.{SparesOthers, other_entries, other_intervals}
use Rattle.office_store.proofs.Passing.{filter_edited, filter_spared}
use Rattle.office_store.proofs.MeteringLemmas.Shapes.{FoundThere, found_there}
use Rattle.office_store.specs.Voids.Withdrawal.{TakesShares}
use Rattle.office_store.specs.Bookings.Corrections.{energy_out, energy_put, gone_from}
use Rattle.office_store.specs.Bookings.MeterState.{stands_at, settled}
use Rattle.office_store.specs.Bookings.Voids.{RollsNext, TakesNext, PutsNext, ExchangesRows}
use Rattle.office_store.specs.declared.bookings.corrections.Correction.{Correction}
use Rattle.office_store.specs.declared.bookings.corrections.Rejoined.{Rejoined}
use Rattle.office_store.specs.declared.bookings.corrections.Rollover.{Rollover}
use Rattle.office_store.proofs.BookingsLemmas.Exchanging.{IsSmall, starts_below_with, starts_below_without, none_gone, several_taken, several_therein, until_is, have_all, there_then, own_put, own_left, others_put, others_left, write_rows, left_rows, less_rows}
use Rattle.office_store.proofs.BookingsLemmas.Later.{next_lies, shares_begin}
use Rattle.office_store.proofs.BookingsLemmas.Rolling as rolling

module _ (f : Fact) (facts : List Fact) (meter : List ℕ) (same_found : (m : List ℕ) → opening_of (f ∷ facts) m ≡ opening_of facts m) (spares : SparesOthers f facts meter) where
  -- Lemmas: voiding (cancelling) a meter entry changes the rows of `entries` so that they encode
  -- the store's records with the void.
  module _ (o : Opening) (there : opening_of facts meter ≡ Some o) where
    own_entries : (g : List Fact) → opening_of g meter ≡ Some o → entries_of g meter ≡ entered_rows o (rows_of g o)
    own_entries g found = ap (entries_at g) found

    -- If no entry follows the voided (cancelled) entry of a meter, voiding it changes no row of
    -- `entries`.
    pub entries_kept : (content after : Content) → entered_rows o (rows_of (f ∷ facts) o) ≡ entered_rows o (rows_of facts o) → Edits entry_tree.entries entry_columns (λ rows. rows) content after
        → AreEntries facts content → AreEntries (f ∷ facts) after
    entries_kept content after are e a = record {
      rows = a.rows;
      there = e.rows a.rows a.there;
      each = λ m. elim (cases_Bool (same meter m)) [
        | inl is ↦ subst (λ t. IsPermutation (filter (is_entry_of t) a.rows) (entries_of (f ∷ facts) t)) (same_text meter m is) (subst (IsPermutation (filter (is_entry_of meter) a.rows)) own (a.each meter))
        | inr off ↦ subst (IsPermutation (filter (is_entry_of m) a.rows)) (sym (other_entries f facts meter same_found spares m off)) (a.each m)
      ];
    }
      where
        own : entries_of facts meter ≡ entries_of (f ∷ facts) meter
        own = own_entries facts there ∙ sym are ∙ sym (own_entries (f ∷ facts) (same_found meter ∙ there))

    -- Lemmas that, if a meter entry follows the voided (cancelled) entry, voiding changes only this
    -- next entry's row of `entries`.
    module _ (place rolls : ℕ) where
      abbrev edit : Entered → Entered
      edit e = cond (is_entry meter place e) (with_rollovers rolls e) e

      keeps_meter : (b : Bool) (e : Entered) → (let made : Entered = cond b (with_rollovers rolls e) e in made.meter) ≡ e.meter
      keeps_meter true e = refl
      keeps_meter false e = refl

      keeps : (m : List ℕ) (e : Entered) → is_entry_of m (edit e) ≡ is_entry_of m e
      keeps m e = ap (λ t. bytes_eq t m) (keeps_meter (is_entry meter place e) e)

      spared : (m : List ℕ) → same meter m ≡ false → (e : Entered) → is_entry_of m e ≡ true → edit e ≡ e
      spared m off e is =
          cond-false (is_entry meter place e) (with_rollovers rolls e) e (off_by (bytes_eq e.meter meter) (e.entry.place == place) (λ here.
          let t : true ≡ false = sym is ∙ (ap (λ t. bytes_eq t m) (same_text e.meter meter here) ∙ off) in absurd (cc)))
        where
          off_by : (b c : Bool) → (b ≡ true → ⊥) → (b && c) ≡ false
          off_by true c h = absurd (h refl)
          off_by false c h = refl

      pub entry_rolled : (content after : Content) → entered_rows o (rows_of (f ∷ facts) o) ≡ map edit (entered_rows o (rows_of facts o))
          → Edits entry_tree.entries entry_columns (changed_where (is_entry meter place) (with_rollovers rolls)) content after → AreEntries facts content → AreEntries (f ∷ facts) after
      entry_rolled content after are e a = record {
        rows = map edit a.rows;
        there = e.rows a.rows a.there;
        each = λ m. elim (cases_Bool (same meter m)) [
          | inl is ↦ subst (λ t. IsPermutation (filter (is_entry_of t) (map edit a.rows)) (entries_of (f ∷ facts) t)) (same_text meter m is) own
          | inr off ↦
              subst (IsPermutation (filter (is_entry_of m) (map edit a.rows))) (sym (other_entries f facts meter same_found spares m off))
              (subst (λ l. IsPermutation l (entries_of facts m)) (sym (filter_spared (is_entry_of m) edit (keeps m) (spared m off) a.rows)) (a.each m))
        ];
      }
        where
          whole : entries_of (f ∷ facts) meter ≡ map edit (entries_of facts meter)
          whole = own_entries (f ∷ facts) (same_found meter ∙ there) ∙ are ∙ ap (map edit) (sym (own_entries facts there))

          own : IsPermutation (filter (is_entry_of meter) (map edit a.rows)) (entries_of (f ∷ facts) meter)
          own =
              subst (IsPermutation (filter (is_entry_of meter) (map edit a.rows))) (sym whole)
              (subst (λ l. IsPermutation l (map edit (entries_of facts meter))) (sym (filter_edited (is_entry_of meter) edit (keeps meter) a.rows))
              (IsPermutation-map edit _ _ (a.each meter)))

map_same : {X : Type 0} (xs : List X) → map (λ x. x) xs ≡ xs
map_same [] = refl
map_same (x ∷ xs) = ap (λ l. x ∷ l) (map_same xs)

-- Changes a row of `entries`: if it is the row of the meter's entry at index `place`, it gets the
-- number of counter rollovers `rolls`.
abbrev edited : (meter : List ℕ) → (place rolls : ℕ) → Entered → Entered
edited meter place rolls e = cond (is_entry meter place e) (with_rollovers rolls e) e

abbrev pub next_out : Option Rejoined → List Share
next_out None = []
next_out (Some joined) = shares_of joined.out

abbrev pub next_put : Option Rejoined → List Share
next_put None = []
next_put (Some joined) = shares_of joined.put

-- True if a void gives the entry after the voided (cancelled) entry the number of counter rollovers
-- since the entry before the voided entry. The value None means that no entry follows.
abbrev pub HasRolls : (opening : Last) → Around → Option Rejoined → Type 0
HasRolls opening around None = around.next ≡ None
HasRolls opening around (Some joined) =
    (next : EntryRow) × (around.next ≡ Some next)
    × (joined.rollover ≡ record { place = next.place; rolls = rolls_of (with_rolls (last_before opening around) next.entry) })

-- True if `made`, the changes that voiding a meter entry makes to the tables, are exactly those
-- with which the tables encode the store's records with the void.
pub record IsLeft (facts : List Fact) (o : Opening) (place : ℕ) (made : Correction) : Type 0 where
  pub around : Around
  pub there : row_at place (rows_of facts o) ≡ Some around
  pub rolls : HasRolls (opened o) around made.next
  pub out : all_shares (steps_out (installed o) around) ≡ next_out made.next ++ shares_of made.out
  pub put : all_shares (steps_put (installed o) around) ≡ next_put made.next
  pub gone : energy_in (steps_out (installed o) around) ≡ energy_out made.out made.next
  pub come : energy_in (steps_put (installed o) around) ≡ energy_put made.next
  pub total : ℕ
  pub sum : total + energy_out made.out made.next ≡ (installation_of facts o).total + energy_put made.next
  pub last : made.last ≡ stands_at (cond (is_none made.next) (last_before (opened o) around) (installation_of facts o).last) total
  pub from : made.from ≡ gone_from o.at made.last.moment

-- True if the energy that voiding (cancelling) an entry adds may be added to `intervals`: no row of
-- `intervals` then has more energy than `greatest_total`, the fixed limit on a meter's total.
abbrev pub may_put : (meter : List ℕ) → Option Rejoined → List Interval → Type 0
may_put meter None is = Unit {0}
may_put meter (Some joined) is = AreSmall (with_shares meter (shares_of joined.put) is)

taken_next : (meter : List ℕ) (next : Option Rejoined) (x y : Content) → TakesNext meter next x y → TakesShares meter (next_out next) x y
taken_next meter None x y same = record {
  rows = λ is has may. subst (HasRows interval_tree.intervals interval_columns is) (sym same) has;
  others = λ t off. ap (λ (f : Content). f t) same;
}
taken_next meter (Some joined) x y takes = takes

puts_next : (meter : List ℕ) (next : Option Rejoined) (x y : Content) → PutsNext meter next x y → EditsIf (may_put meter next) (with_shares meter (next_put next)) x y
puts_next meter None x y same = record {
  rows = λ is has may. subst (HasRows interval_tree.intervals interval_columns is) (sym same) has;
  others = λ t off. ap (λ (f : Content). f t) same;
}
puts_next meter (Some joined) x y puts = puts

may_of : (meter : List ℕ) (opening : Last) (around : Around) (next : Option Rejoined) (less : List Interval) → HasRolls opening around next
    → ((row : EntryRow) → around.next ≡ Some row → AreSmall (with_shares meter (next_put next) less)) → may_put meter next less
may_of meter opening around None less rolls small = tt
may_of meter opening around (Some joined) less rolls small = small rolls.0 rolls.1

within_sum : (n : ℕ) (rows : List Share) → energy_in_rows rows ≤ n → AllByRecursion (λ (row : Share). row.mwh ≤ n) rows
within_sum n [] h = tt
within_sum n (row ∷ rows) h =
    let parts = sum_by-cons (λ (row : Share). row.mwh) row rows in
    (omega (arith, h, parts), within_sum n rows (omega (arith, h, parts)))

-- True if the time between two meter entries is positive, and the second entry is at the given time
-- or earlier.
abbrev IsBefore : ℕ → Step → Type 0
IsBefore bound step = (step.from < step.till) × (step.till ≤ bound)

all_begin : SharesAddUp → (bound : ℕ) (steps : List Step) → AllByRecursion (IsBefore bound) steps → AllByRecursion (λ (row : Share). row.start < bound) (all_shares steps)
all_begin law bound [] h = tt
all_begin law bound (step ∷ steps) h = all-append (λ (row : Share). row.start < bound) (shares_of step) (all_shares steps) (shares_begin law step bound h.0.0 h.0.1) (all_begin law bound steps h.1)

moment_rolled : (last : Last) (e : Entry) → moment_of (with_rolls last e) ≡ moment_of e
moment_rolled last (entry.Step at raw rolls) = refl
moment_rolled last (entry.Change at before new sf) = refl

moment_if : (b : Bool) (last : Last) (row : EntryRow) → (let made : EntryRow = cond b (record row { entry = with_rolls last row.entry }) row in moment_of made.entry) ≡ moment_of row.entry
moment_if true last row = moment_rolled last row.entry
moment_if false last row = refl

write_before : (range bound : ℕ) (last : Last) (next : Option EntryRow) → ((row : EntryRow) → next ≡ Some row → moment_of row.entry ≤ bound) → AllByRecursion (λ (s : Step). s.from < s.till) (step_if range last (option_map (journal.rolled last) next))
    → AllByRecursion (IsBefore bound) (step_if range last (option_map (journal.rolled last) next))
write_before range bound last None low forward = tt
write_before range bound last (Some row) low forward =
    let le = low row refl in
    let is = moment_if (row.stands && journal.is_reading row.kind) last row in
    ((forward.0, omega (arith, le, is)), tt)

module _ (v : VoidedEntry) (facts : List Fact) (lawful : AreLawful (fact.Void v ∷ facts)) (o : Opening) (there : opening_of facts v.meter ≡ Some o)
    (others : OtherMetersStay) (stand : RowsStand) (change : VoidsChangeTwoRows) (made : Correction) (left : IsLeft facts o v.place made) where
  abbrev f : Fact
  f = fact.Void v

  abbrev lines : journal.Journal
  lines = journal_of facts o.meter

  abbrev later : journal.Journal
  later = journal.Voided v.place ∷ lines

  abbrev rows : List EntryRow
  rows = rows_of facts o

  abbrev around : Around
  around = left.around

  abbrev last : Last
  last = last_before (opened o) around

  line_is : journal_of (f ∷ facts) o.meter ≡ later
  line_is = line_after facts v.meter (journal.Voided v.place) o (named facts v.meter o there)

  pub spares : SparesOthers f facts v.meter
  spares = λ (x : Opening) (off : same v.meter x.meter ≡ false). others f facts x (cond-false _ _ _ off)

  same_found : (m : List ℕ) → opening_of (f ∷ facts) m ≡ opening_of facts m
  same_found m = refl

  fits : journals.VoidFits (installed o) rows v.place
  fits = own_line facts v.meter (journal.Voided v.place) o lawful.0.0 there

  begun : books.IsWellInstalled (installed o)
  begun = well facts o lawful.1 (installed_so facts v.meter o there)

  fitting : journals.AreFitting (installed o) lines
  fitting = installed_fits facts o lawful.1 (installed_so facts v.meter o there)

  recorded : IsRecorded facts o
  recorded = found_recorded (λ (x : Opening). same x.meter v.meter) (openings_in facts) o there

  voided_so : IsVoided (installed o) lines v.place around
  voided_so = change (installed o) lines v.place around begun (fits, fitting) left.there

  -- Lemmas: after a meter's entry was voided (cancelled), the stored last entry and total energy of
  -- the meter are those that follow from the store's records.

  stands_by : (next : Option Rejoined) (l : Last) → HasRolls (opened o) around next → cond (is_none next) last l ≡ cond (is_some around.next) l last
  stands_by None l none = sym (ap (λ (n : Option EntryRow). cond (is_some n) l last) none)
  stands_by (Some joined) l one = sym (ap (λ (n : Option EntryRow). cond (is_some n) l last) one.1)

  total_is : left.total ≡ books.total_in (installed o) later
  total_is =
      let was = voided_so.steps.before in
      let now = voided_so.steps.after in
      let out = left.gone in
      let put = left.come in
      let sum = left.sum in
      omega (arith, was, now, out, put, sum)

  last_is : made.last ≡ last_row (installation_by o later)
  last_is =
      left.last ∙ ap (λ (l : Last). stands_at l left.total) (stands_by made.next (installation_of facts o).last left.rolls ∙ sym voided_so.last)
      ∙ ap (λ (n : ℕ). stands_at (books.last_in (installed o) later) n) total_is

  pub row_changed : (place : ℕ) → installed_row (f ∷ facts) place o ≡ settled made.last false (installed_row facts place o)
  row_changed place =
      ap (λ ls. installed_as place (installation_by o ls)) line_is
      ∙ ap (λ (l : LastRow). settled l false (installed_row facts place o)) (sym last_is)

  -- Lemmas: after a meter's entry was voided (cancelled), the meter's rows of `entries` encode its
  -- history with the void.

  numbered : AreNumbered rows
  numbered = (stand (installed o) lines begun fitting).places

  rows_are : rows_of (f ∷ facts) o ≡ map (changed_by v.place around.next last) rows
  rows_are = ap (journal.rows_of (opened o)) line_is ∙ voided_so.rows

  voidable : journals.is_voidable around.row around.next ≡ true
  voidable = subst (λ (a : Around). journals.is_voidable a.row a.next ≡ true) (same_Some fits.around around (sym fits.there ∙ left.there)) fits.voidable

  free : journals.is_free around.next ≡ true
  free = second_of_both (around.row.stands && is_read around.row.kind around.row.entry) (journals.is_free around.next) voidable

  each_read : AllByRecursion (rolling.IsRead o v.place) rows
  each_read =
      let read : is_read around.row.kind around.row.entry ≡ true =
      second_of_both around.row.stands (is_read around.row.kind around.row.entry) (first_of_both (around.row.stands && is_read around.row.kind around.row.entry) (journals.is_free around.next) voidable) in
      all_weaker (FoundThere v.place around.row) (rolling.IsRead o v.place) (λ row found e. subst (λ (r : EntryRow). is_read r.kind r.entry ≡ true) (found e) read) rows
      (found_there v.place rows around numbered left.there).0

  pub entries_after : (next : Option Rejoined) → HasRolls (opened o) around next → (content after : Content) → RollsNext v.meter next content after → AreEntries facts content → AreEntries (f ∷ facts) after
  entries_after None none content after e a =
      let unrolled : entered_rows o (map (changed_by v.place None last) rows) ≡ entered_rows o rows =
      rolling.all_edited o v.place None last (λ e. e) refl rows each_read
      (all_weaker (rolling.IsRead o v.place) (rolling.IsEdited o v.place None last (λ e. e)) (λ row h. rolling.none_next o v.place last row) rows each_read)
      ∙ map_same (entered_rows o rows) in
      entries_kept f facts v.meter same_found spares o there content after
      (ap (entered_rows o) rows_are ∙ (ap (λ (n : Option EntryRow). entered_rows o (map (changed_by v.place n last) rows)) none ∙ unrolled)) e a
  entries_after (Some joined) one content after e a =
      let next : EntryRow = one.0 in
      let next_is : around.next ≡ Some next = one.1 in
      let it = rolling.next_there v.place rows around next numbered left.there next_is in
      let read : is_read next.kind next.entry ≡ true = subst (λ n. journals.is_free n ≡ true) next_is free in
      let edit = rolling.edit o v.place next last it.following it.stands read in
      let rolls = rolling.rolls o v.place next last it.following it.stands read in
      let rolled_rows : entered_rows o (map (changed_by v.place (Some next) last) rows) ≡ map edit (entered_rows o rows) =
      rolling.all_edited o v.place (Some next) last edit (rolling.opening_spared o v.place next last it.following it.stands read it.late) rows each_read
      (all_weaker (FoundThere next.place next) (rolling.IsEdited o v.place (Some next) last edit) (rolling.one_next o v.place next last it.following it.stands read) rows it.each) in
      let place_is : joined.rollover.place ≡ next.place = ap (λ (r : Rollover). r.place) one.2 in
      let rolls_are : joined.rollover.rolls ≡ rolls = ap (λ (r : Rollover). r.rolls) one.2 in
      let same_edit : map edit (entered_rows o rows) ≡ map (edited v.meter joined.rollover.place joined.rollover.rolls) (entered_rows o rows) =
      ap (λ m. map (edited m next.place rolls) (entered_rows o rows)) (named facts v.meter o there)
      ∙ ap (λ p. map (edited v.meter p rolls) (entered_rows o rows)) (sym place_is)
      ∙ ap (λ n. map (edited v.meter joined.rollover.place n) (entered_rows o rows)) (sym rolls_are) in
      entry_rolled f facts v.meter same_found spares o there joined.rollover.place joined.rollover.rolls content after
      (ap (entered_rows o) rows_are ∙ (ap (λ (n : Option EntryRow). entered_rows o (map (changed_by v.place n last) rows)) next_is ∙ (rolled_rows ∙ same_edit))) e a

  -- Lemmas: after a meter's entry was voided (cancelled), the meter's rows of `intervals` (energy
  -- by quarter hour) encode its energy in the store's records.
  module _ (kept : MetersAreKept) (ranges : InstallationsAreInRange) (lying : RowsLieWithin) (law : SharesAddUp) where
    abbrev old : List Share
    old = rows_of_opening facts o

    abbrev A : List Share
    A = next_out made.next

    abbrev B : List Share
    B = shares_of made.out

    abbrev C : List Share
    C = next_put made.next

    abbrev exchanged : List Share
    exchanged = with_each C (without_each B (without_each A old))

    abbrev ended : ℕ
    ended = (books.last_in (installed o) later).at

    small : AllByRecursion IsSmall old
    small =
        let whole = (kept facts o lawful.1 recorded).sum in
        let limit = ((ranges facts lawful.1).recorded o recorded).total in
        within_sum 4000000000000000000 old (omega (arith, whole, limit))

    both_therein : AreTherein A old × AreTherein B (without_each A old)
    both_therein = several_therein A B old (subst (λ (shares : List Share). AreTherein shares old) left.out voided_so.shares.therein)

    new_is : rows_of_opening (f ∷ facts) o ≡ rows_until o.at ended exchanged
    new_is =
        ap (books.interval_rows (installed o)) line_is ∙ voided_so.shares.intervals
        ∙ ap₂ (λ (outs puts : List Share). rows_until o.at ended (with_each puts (without_each outs old))) left.out left.put
        ∙ ap (λ (rest : List Share). rows_until o.at ended (with_each C rest)) (several_taken A B old)

    -- If a meter entry follows the voided (cancelled) entry, voiding deletes no row of `intervals`.
    all_stay : (next : EntryRow) → around.next ≡ Some next → rows_until o.at ended exchanged ≡ exchanged
    all_stay next is =
        let end : ended ≡ (books.last_in (installed o) lines).at = ap (λ (l : Last). l.at) (voided_so.last ∙ ap (λ (n : Option EntryRow). cond (is_some n) (books.last_in (installed o) lines) last) is) in
        let account = (kept facts o lawful.1 recorded).account.account in
        let lies = next_lies o.range (opened o) v.place rows around next left.there is account.follow in
        let bound : ℕ = (books.last_in (installed o) lines).at in
        let was : AllByRecursion (λ (row : Share). row.start < bound) old =
        all_weaker (LiesWithin o.at bound) (λ (row : Share). row.start < bound) (λ row h. h.before) old (recursion_from_All (LiesWithin o.at bound) old (lying (installed o) lines begun fitting)) in
        let forward : AllByRecursion (λ (s : Step). s.from < s.till) (steps_put (installed o) around) = all_weaker IsShareable (λ (s : Step). s.from < s.till) (λ s h. h.later) (steps_put (installed o) around) (recursion_from_All IsShareable (steps_put (installed o) around) voided_so.steps.put) in
        let comes : AllByRecursion (λ (row : Share). row.start < bound) C =
        subst (AllByRecursion (λ (row : Share). row.start < bound)) left.put
        (all_begin law bound (steps_put (installed o) around) (write_before o.range bound last around.next (λ row found. subst (λ (r : EntryRow). moment_of r.entry ≤ bound) (same_Some next row (sym is ∙ found)) lies.earlier) forward)) in
        let low : AllByRecursion (λ (row : Share). row.start < ended) exchanged =
        subst (λ n. AllByRecursion (λ (row : Share). row.start < n) exchanged) (sym end)
        (starts_below_with bound C (without_each B (without_each A old)) comes (starts_below_without bound B (without_each A old) (starts_below_without bound A old was))) in
        let first = lies.later in
        let then_ = lies.earlier in
        none_gone o.at ended exchanged (omega (arith, first, then_, end)) low

    module _ (content after : Content) (a : AreIntervals facts content) where
      of_meter : rows_of_meter facts v.meter ≡ old
      of_meter = ap (rows_of_installed facts) there

      own : AreRowsOf v.meter a.rows old
      own = subst (λ rs. IsPermutation (filter (is_interval_of v.meter) a.rows) (map (interval_of v.meter) rs)) of_meter (a.each v.meter)

      apart : AreApart old
      apart = opening_apart kept ranges facts o lawful.1 recorded

      abbrev put : List Interval
      put = write_rows v.meter A B C made.from a.rows

      abbrev rest : List Interval
      rest = left_rows v.meter A B C made.from a.rows

      now_of : rows_of_meter (f ∷ facts) v.meter ≡ rows_of_opening (f ∷ facts) o
      now_of = ap (rows_of_installed (f ∷ facts)) there

      own_now : AreRowsOf v.meter put exchanged
      own_now = own_put v.meter A B C made.from a.rows old own apart

      each_put : (next : EntryRow) → around.next ≡ Some next → (m : List ℕ) → IsPermutation (filter (is_interval_of m) put) (map (interval_of m) (rows_of_meter (f ∷ facts) m))
      each_put next is m = elim (cases_Bool (same v.meter m)) [
        | inl here ↦ subst (λ t. IsPermutation (filter (is_interval_of t) put) (map (interval_of t) (rows_of_meter (f ∷ facts) t))) (same_text v.meter m here)
            (subst (λ (rs : List Share). IsPermutation (filter (is_interval_of v.meter) put) (map (interval_of v.meter) rs)) (sym (now_of ∙ new_is ∙ all_stay next is)) own_now)
        | inr off ↦
            subst (λ rs. IsPermutation (filter (is_interval_of m) put) (map (interval_of m) rs)) (sym (other_intervals f facts v.meter same_found spares m off))
            (subst (λ l. IsPermutation l (map (interval_of m) (rows_of_meter facts m))) (sym (others_put v.meter A B C made.from a.rows m off)) (a.each m))
      ]

      may : may_put v.meter made.next (less_rows v.meter A B C made.from a.rows)
      may = may_of v.meter (opened o) around made.next (less_rows v.meter A B C made.from a.rows) left.rolls (λ next is. rows_small kept ranges (f ∷ facts) put lawful (each_put next is))

      until : filter (λ (row : Share). nat_lt row.start made.from) exchanged ≡ rows_of_opening (f ∷ facts) o
      until =
          ap (λ n. filter (λ (row : Share). nat_lt row.start n) exchanged) (left.from ∙ ap (λ (l : LastRow). gone_from o.at l.moment) last_is)
          ∙ until_is v.meter o.at ended exchanged ∙ sym new_is

      own_rest : IsPermutation (filter (is_interval_of v.meter) rest) (map (interval_of v.meter) (rows_of_meter (f ∷ facts) v.meter))
      own_rest =
          subst (λ (rs : List Share). IsPermutation (filter (is_interval_of v.meter) rest) (map (interval_of v.meter) rs)) (until ∙ sym now_of)
          (own_left v.meter A B C made.from a.rows exchanged own_now)

      pub intervals_after : ExchangesRows v.meter made content after → AreIntervals (f ∷ facts) after
      intervals_after e =
          let has = have_all v.meter A B C made.from a.rows old own small both_therein.0 both_therein.1 in
          record {
            rows = rest;
            there = there_then v.meter A B C made.from a.rows (may_put v.meter made.next) content e.taken.one e.one e.two after a.there has.0 has.1 may
                (taken_next v.meter made.next content e.taken.one e.taken.next) e.taken.out (puts_next v.meter made.next e.one e.two e.put) e.gone;
            each = λ m. elim (cases_Bool (same v.meter m)) [
              | inl is ↦ subst (λ t. IsPermutation (filter (is_interval_of t) rest) (map (interval_of t) (rows_of_meter (f ∷ facts) t))) (same_text v.meter m is) own_rest
              | inr off ↦
                  subst (λ rs. IsPermutation (filter (is_interval_of m) rest) (map (interval_of m) rs)) (sym (other_intervals f facts v.meter same_found spares m off))
                  (subst (λ l. IsPermutation l (map (interval_of m) (rows_of_meter facts m))) (sym (others_left v.meter A B C made.from a.rows m off)) (a.each m))
            ];
          }

      pub energy_others : ExchangesRows v.meter made content after → (t : ℕ) → t ≢ interval_tree.intervals → after t ≡ content t
      energy_others e t off =
          e.gone.others t off ∙ (puts_next v.meter made.next e.one e.two e.put).others t off ∙ e.taken.out.others t off ∙ (taken_next v.meter made.next content e.taken.one e.taken.next).others t off

-- Proof that the store's SQL tables encode all of the store's records after a meter entry was
-- recorded.
use Rattle.std.proofs.Common.{◌≡◌, ◌≢◌, ℕ, Bool, false, ◌+◌, ◌≤◌, List, [], ◌∷◌, map, filter, length, Option, Some, None, refl, sym, ap, subst, ◌∙◌, IsPermutation, arith}
use Rattle.std.specs.List.{AllByRecursion}
use Rattle.std.proofs.lemmas.Bool.{cond-false}
use Rattle.interval_core.specs.Share.{shares_of}
use Rattle.meter_journal.specs.declared.lines.EntryRow as journal
use Rattle.meter_journal.specs.Journal.{new_row}
use Rattle.meter_journal.specs.Lists.{AreNumbered}
use Rattle.office_events.specs.declared.facts.Opening.{Opening}
use Rattle.office_events.specs.declared.facts.BookedEntry.{BookedEntry}
use Rattle.office_events.specs.declared.facts.Fact.{Fact}
use Rattle.office_events.specs.declared.facts.Fact.TheVariants as fact
use Rattle.office_books.specs.Facts.{same, devices_in, registers_in, openings_in, opening_of, holds_in, voids_in, replies_in, polls_in, ended_in}
use Rattle.office_books.specs.Lawful.{AreLawful}
use Rattle.office_books.specs.Meters.{rows_of, installation_of}
use Rattle.office_books.specs.Laws.{MetersAreKept}
use Rattle.office_books.specs.Ranges.{InstallationsAreInRange}
use Rattle.office_books.specs.Steps.{OtherMetersStay, EntriesMoveOn, step_from}
use Rattle.office_books.proofs.Stepping.{named}
use Rattle.store_tables.specs.Answer.{IsLast}
use Rattle.store_tables.specs.Content.{Content, HasRows, Edits, with_row, changed_where}
use Rattle.store_tables.specs.Devices.Trees as list_tree
use Rattle.store_tables.specs.Devices.Rows.{device_columns, register_columns}
use Rattle.store_tables.specs.Meters.Trees as meter_tree
use Rattle.store_tables.specs.Meters.Rows.{Installed, installed_columns, ranged_columns, is_meter}
use Rattle.store_tables.specs.Entries.Trees as entry_tree
use Rattle.store_tables.specs.Entries.Rows.{Entered, entry_columns, entry_place, voided_columns}
use Rattle.office_store.specs.Intervals.Trees as interval_tree
use Rattle.office_store.specs.Intervals.StepShares.{BooksShares}
use Rattle.store_tables.specs.Polls.Trees as poll_tree
use Rattle.store_tables.specs.Polls.Rows.{poll_columns, outcome_columns, hold_columns, reply_columns}
use Rattle.office_store.specs.Rows.{placed, added, registered, installed_row, ranged, voided, started, outcome_row, held_row, kept, entered, entry_row, opening_row, scale_after, entered_rows}
use Rattle.office_store.specs.Tables.{meta_tree, meta_columns, AreOf}
use Rattle.office_store.specs.Recording.{next_place}
use Rattle.office_store.proofs.Placed.{greatest}
use Rattle.office_store.proofs.Recorded.{stay, points_stay, entries_stay, intervals_stay}
use Rattle.office_store.proofs.Entered.{entry_added, energy_added, installations_changed}

-- Lemmas that the index of a meter's next entry is one more than the number of its entries.

few_entered : (o : Opening) (rows : List journal.EntryRow) (n : ℕ) → AreNumbered rows → length rows + 1 ≤ n
    → AllByRecursion (λ e. entry_place e ≤ n) (entered_rows o rows)
few_entered o [] n numbered h = (h, tt)
few_entered o (row ∷ rows) n numbered h =
    let place = numbered.0 in (omega (arith, h, place), few_entered o rows n numbered.1 (omega (arith, h)))

-- The index after the greatest one in a meter's rows of `entries` is the number of the meter's
-- entries plus 1. These entries are the opening (the first entry) and `rows`.
pub entries_count : (o : Opening) (rows : List journal.EntryRow) (passes : Entered → Bool) (entered_all : List Entered) (last : Option ℕ) → AreNumbered rows
    → IsPermutation (filter passes entered_all) (entered_rows o rows)
    → IsLast passes (λ e n. n ≡ entry_place e) entry_place entered_all last → next_place last ≡ length rows + 2
entries_count o [] passes all last numbered are h = greatest entry_place passes all (entered o.meter (opening_row o)) [] last are tt h
entries_count o (row ∷ rows) passes all last numbered are h =
    let place = numbered.0 in
    let following = greatest entry_place passes all (entered o.meter (entry_row (scale_after o (row ∷ rows)) row)) (entered_rows o rows) last are
    (few_entered o rows row.place numbered.1 (omega (arith, place))) h in
    omega (arith, following, place)

-- If the row of a meter entry, its energy and the meter's new state are written, the SQL tables
-- encode the store's records with this entry.
pub entry_recorded : EntriesMoveOn → OtherMetersStay → MetersAreKept → InstallationsAreInRange
    → (booked : BookedEntry) (zone : List ℕ) (facts : List Fact) (o : Opening) (change : Installed → Installed) (content one two after : Content)
    → AreOf zone facts content → AreLawful (fact.Entry booked ∷ facts) → opening_of facts booked.meter ≡ Some o
    → ((place : ℕ) → installed_row (fact.Entry booked ∷ facts) place o ≡ change (installed_row facts place o))
    → (let row = new_row (rows_of facts o) booked.kind booked.entry in
    Edits entry_tree.entries entry_columns (with_row (entered booked.meter (entry_row (scale_after o (row ∷ rows_of facts o)) row))) content one)
    → BooksShares booked.meter (shares_of (step_from (installation_of facts o) booked.entry)) one two
    → Edits meter_tree.installations installed_columns (changed_where (is_meter booked.meter) change) two after
    → AreOf zone (fact.Entry booked ∷ facts) after
entry_recorded moves others sums limits booked zone facts o change content one two after a lawful there changed e b m =
    let f = fact.Entry booked in
    let on = moves booked facts o lawful there in
    let row = new_row (rows_of facts o) booked.kind booked.entry in
    let new = entered booked.meter (entry_row (scale_after o (row ∷ rows_of facts o)) row) in
    let spares = λ (x : Opening) (off : same booked.meter x.meter ≡ false). others f facts x (cond-false _ _ _ off) in
    let found = λ (m : List ℕ). let is : opening_of (f ∷ facts) m ≡ opening_of facts m = refl in is in
    let late = λ (t : ℕ) (x : t ≢ 14) (y : t ≢ 7). m.others t y ∙ b.others t x in
    let far = λ (t : ℕ) (x : t ≢ 9) (y : t ≢ 14) (z : t ≢ 7). late t y z ∙ e.others t x in
    record {
      lawful = lawful;
      meta = stay meta_tree meta_columns (zone ∷ []) content after (far 0 (λ is. omega (arith, is)) (λ is. omega (arith, is)) (λ is. omega (arith, is))) a.meta;
      devices = stay list_tree.devices device_columns (placed added (devices_in facts)) content after (far 1 (λ is. omega (arith, is)) (λ is. omega (arith, is)) (λ is. omega (arith, is))) a.devices;
      points = points_stay facts (f ∷ facts) content after (far 3 (λ is. omega (arith, is)) (λ is. omega (arith, is)) (λ is. omega (arith, is))) (λ device. refl) a.points;
      registers = stay list_tree.registers register_columns (placed registered (registers_in facts)) content after (far 5 (λ is. omega (arith, is)) (λ is. omega (arith, is)) (λ is. omega (arith, is))) a.registers;
      installations =
          subst (λ rows. HasRows meter_tree.installations installed_columns rows after) (sym (installations_changed f facts booked.meter found spares o there change changed lawful.1))
          (m.rows (placed (installed_row facts) (openings_in facts))
          (stay meter_tree.installations installed_columns (placed (installed_row facts) (openings_in facts)) content two
          (b.others 7 (λ is. omega (arith, is)) ∙ e.others 7 (λ is. omega (arith, is))) a.installations));
      ranges = stay meter_tree.ranges ranged_columns (map ranged (openings_in facts)) content after (far 18 (λ is. omega (arith, is)) (λ is. omega (arith, is)) (λ is. omega (arith, is))) a.ranges;
      entries = entries_stay (f ∷ facts) (f ∷ facts) one after (late 9 (λ is. omega (arith, is)) (λ is. omega (arith, is))) (λ meter. refl)
          (entry_added f facts booked.meter found spares o there row new content one on.rows (ap (λ name. entered name (entry_row (scale_after o (row ∷ rows_of facts o)) row) ∷ entered_rows o (rows_of facts o)) (named facts booked.meter o there)) refl e a.entries);
      voids = stay entry_tree.voids voided_columns (map voided (voids_in facts)) content after (far 20 (λ is. omega (arith, is)) (λ is. omega (arith, is)) (λ is. omega (arith, is))) a.voids;
      polls = stay poll_tree.polls poll_columns (map started (polls_in facts)) content after (far 11 (λ is. omega (arith, is)) (λ is. omega (arith, is)) (λ is. omega (arith, is))) a.polls;
      holds = stay poll_tree.holds hold_columns (placed held_row (holds_in facts)) content after (far 12 (λ is. omega (arith, is)) (λ is. omega (arith, is)) (λ is. omega (arith, is))) a.holds;
      outcomes = stay poll_tree.outcomes outcome_columns (map outcome_row (ended_in facts)) content after (far 13 (λ is. omega (arith, is)) (λ is. omega (arith, is)) (λ is. omega (arith, is))) a.outcomes;
      intervals = intervals_stay (f ∷ facts) (f ∷ facts) two after (m.others 14 (λ is. omega (arith, is))) (λ meter. refl)
          (energy_added f facts booked.meter found spares o there sums limits (shares_of (step_from (installation_of facts o) booked.entry)) one two lawful.1 lawful on.added b
          (intervals_stay facts facts content one (e.others 14 (λ is. omega (arith, is))) (λ meter. refl) a.intervals));
      replies = stay poll_tree.replies reply_columns (map kept (replies_in facts)) content after (far 16 (λ is. omega (arith, is)) (λ is. omega (arith, is)) (λ is. omega (arith, is))) a.replies;
    }

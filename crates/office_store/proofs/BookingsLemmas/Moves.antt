-- Proofs that the queries and the three writes for one more entry of a meter store rows that encode
-- the record of this entry.
use Rattle.std.proofs.Common.{◌≡◌, ℕ, ℤ, ◌+◌, Bool, true, false, cond, List, [], ◌∷◌, map, filter, length, Some, Ok, refl, sym, ap, ap₂, subst, ◌∙◌, IsPermutation}
use Rattle.std.proofs.lemmas.Bool.{cond-true, cond-false}
use Rattle.sqlite.specs.Order.{Row}
use Rattle.energy_core.specs.declared.entries.Last.{Last}
use Rattle.energy_core.specs.declared.entries.Step.{Step}
use Rattle.energy_core.specs.Admission.{entered as entered_after}
use Rattle.interval_core.specs.Share.{shares_of}
use Rattle.meter_journal.specs.Books.{last_in}
use Rattle.meter_journal.specs.Changes.{step_on}
use Rattle.meter_journal.specs.Journal.{Entered as EnteredLine, is_closing, new_row}
use Rattle.meter_journal.specs.Lists.{AreNumbered}
use Rattle.office_events.specs.declared.facts.Opening.{Opening}
use Rattle.office_events.specs.declared.facts.BookedEntry.{BookedEntry}
use Rattle.office_events.specs.declared.facts.Fact.{Fact}
use Rattle.office_events.specs.declared.facts.Fact.TheVariants as fact
use Rattle.office_books.specs.Facts.{same, openings_in, opening_of}
use Rattle.office_books.specs.Meters.{installed, journal_of, rows_of, installation_of}
use Rattle.office_books.specs.Laws.{MetersAreKept, VoidsLeaveNoTrace}
use Rattle.office_books.specs.Ranges.{InstallationsAreInRange}
use Rattle.office_books.specs.Steps.{OtherMetersStay, EntriesMoveOn, MovesOn, moved_by, step_from}
use Rattle.store_tables.specs.Content.{Content, HasRows, Edits, with_row, changed_where}
use Rattle.store_tables.specs.Meters.Trees as meter_tree
use Rattle.store_tables.specs.declared.meters.rows.LastRow.{LastRow}
use Rattle.store_tables.specs.Meters.Rows.{installed_columns, ranged_columns, is_meter, is_range_of, moved, ended, HasRange}
use Rattle.store_tables.specs.Entries.Trees as entry_tree
use Rattle.store_tables.specs.declared.entries.rows.EntryRow.{EntryRow}
use Rattle.store_tables.specs.Entries.Rows.{Entered, entry_columns, entry_place, is_of}
use Rattle.office_store.specs.Intervals.StepShares.{BooksShares}
use Rattle.office_store.specs.Rows.{placed, installed_as, installed_row, last_row, ranged, entered, entry_row, scale_after, entered_rows, entries_at}
use Rattle.office_store.specs.Recording.{Records, IsNext}
use Rattle.office_store.proofs.Energy.{found_recorded}
use Rattle.office_store.proofs.EntryRecorded.{entries_count, entry_recorded}
use Rattle.office_store.proofs.Standing.{stands_found, range_found}
use Rattle.office_store.specs.declared.bookings.meter_state.Standing.{Standing}
use Rattle.office_store.specs.declared.bookings.meter_entries.Advance.{Advance}
use Rattle.office_store.specs.Bookings.Places.{IsSeenIn, StandsThere}
use Rattle.office_store.specs.Bookings.MeterState.{IsStanding, Advances, EntersEntry, Settles, counter_of, stands_at, settled}

-- If three queries in sequence find the parts of a meter's state, the three queries together find
-- the complete state and change nothing.
pub stands : (meter : List ℕ) (it : Standing) (a b c d : Content) → IsNext entry_tree.entries entry_columns (is_of meter) entry_place it.place a b
    → IsSeenIn meter_tree.installations installed_columns (is_meter meter) StandsThere it.last b c → IsSeenIn meter_tree.ranges ranged_columns (is_range_of meter) HasRange it.range c d
    → IsStanding meter it a d
stands meter it a b c d p q r = record {
  same = r.same ∙ (q.same ∙ p.same);
  following = p.following;
  last = λ rows has. q.seen rows (subst (HasRows meter_tree.installations installed_columns rows) (sym p.same) has);
  range = λ rows has. r.seen rows (subst (HasRows meter_tree.ranges ranged_columns rows) (sym (q.same ∙ p.same)) has);
}

-- Lemmas: two updates of a meter's row in `installations`, one after the other, have the effect of
-- one update.

module _ {X : Type 0} (p : X → Bool) (f h : X → X) (keeps : (x : X) → p (f x) ≡ p x) where
  twice_step : (b : Bool) (x : X) → p x ≡ b → cond (p (let y : X = cond b (f x) x in y)) (h (cond b (f x) x)) (cond b (f x) x) ≡ cond b (h (f x)) x
  twice_step true x is = cond-true _ _ _ (keeps x ∙ is)
  twice_step false x is = cond-false _ _ _ is

  twice_changed : (xs : List X) → changed_where p h (changed_where p f xs) ≡ changed_where p (λ x. h (f x)) xs
  twice_changed [] = refl
  twice_changed (x ∷ xs) = ap₂ ◌∷◌ (twice_step (p x) x refl) (twice_changed xs)

  pub edited_twice : (tree : ℕ) (columns : X → Row) (content mid after : Content) → Edits tree columns (changed_where p f) content mid → Edits tree columns (changed_where p h) mid after
      → Edits tree columns (changed_where p (λ x. h (f x))) content after
  edited_twice tree columns content mid after one two = record {
    rows = λ xs has. subst (λ l. HasRows tree columns l after) (twice_changed xs) (two.rows (changed_where p f xs) (one.rows xs has));
    others = λ t off. two.others t off ∙ one.others t off;
  }

-- If an entry closes a meter, two updates of the meter's row set its last entry and then mark the
-- meter as closed. Together they satisfy `Settles`, the contract of a single update that does both.
pub settles_closed : (meter : List ℕ) (last : LastRow) (content mid after : Content) → Edits meter_tree.installations installed_columns (changed_where (is_meter meter) (moved last)) content mid
    → Edits meter_tree.installations installed_columns (changed_where (is_meter meter) ended) mid after → Settles meter last true content after
settles_closed meter last content mid after one two = edited_twice (is_meter meter) (moved last) ended (λ i. refl) meter_tree.installations installed_columns content mid after one two

module _ (booked : BookedEntry) (facts : List Fact) (o : Opening) (on : MovesOn booked facts o) (standing : Standing) (advance : Advance) (advances : Advances standing booked.entry advance)
    (last_is : standing.last ≡ last_row (installation_of facts o)) (range_is : standing.range ≡ o.range) where
  advanced : (advance.last ≡ last_row (moved_by booked.kind booked.entry (installation_of facts o))) × (advance.step ≡ step_from (installation_of facts o) booked.entry)
  advanced =
      let lines = journal_of facts o.meter in
      let meter = installed o in
      let next = last_in meter (EnteredLine booked.kind booked.entry ∷ lines) in
      let step = step_on meter lines booked.entry in
      let is : entered_after standing.range standing.last.total (counter_of standing.last) booked.entry ≡ Ok (next, step) =
      ap₂ (λ (range : ℕ) (last : LastRow). entered_after range last.total (counter_of last) booked.entry) range_is last_is ∙ on.goes_on.booked in
      let made = advances next step is in
      (made.0 ∙ ap₂ (λ (last : Last) (total : ℕ). stands_at last (total + step.mwh)) on.goes_on.last (ap (λ (last : LastRow). last.total) last_is), made.1)

  pub step_is : advance.step ≡ step_from (installation_of facts o) booked.entry
  step_is = advanced.1

  pub changed : (place : ℕ) → installed_row (fact.Entry booked ∷ facts) place o ≡ settled advance.last (is_closing booked.kind) (installed_row facts place o)
  changed place =
      ap (installed_as place) on.installation
      ∙ ap (λ (last : LastRow). settled last (is_closing booked.kind) (installed_row facts place o)) (sym advanced.0)

  pub same_row : (row : EntryRow) → standing.place ≡ length (rows_of facts o) + 2
      → row ≡ entry_row advance.last.sf (record { place = standing.place; kind = booked.kind; entry = booked.entry; stands = true })
      → (let new = new_row (rows_of facts o) booked.kind booked.entry in row ≡ entry_row (scale_after o (new ∷ rows_of facts o)) new)
  same_row row place_is row_is =
      row_is ∙ ap₂ (λ (sf : ℤ) (place : ℕ). entry_row sf (record { place = place; kind = booked.kind; entry = booked.entry; stands = true }))
      (ap (λ (last : LastRow). last.sf) advanced.0) place_is

pub entry_entered : EntriesMoveOn → OtherMetersStay → MetersAreKept → InstallationsAreInRange → VoidsLeaveNoTrace
    → (booked : BookedEntry) (standing : Standing) (advance : Advance) (row : EntryRow) → Advances standing booked.entry advance
    → row ≡ entry_row advance.last.sf (record { place = standing.place; kind = booked.kind; entry = booked.entry; stands = true })
    → (before mid after : Content) → IsStanding booked.meter standing before mid → EntersEntry booked.meter row advance (is_closing booked.kind) mid after
    → Records (fact.Entry booked) before after
entry_entered moves others sums limits traces booked standing advance row advances row_is before mid after at enters zone facts a lawful =
    let meter = booked.meter in
    let o = lawful.0.0.opening in
    let there : opening_of facts meter ≡ Some o = lawful.0.0.there in
    let on = moves booked facts o lawful there in
    let recorded = found_recorded (λ (x : Opening). same x.meter meter) (openings_in facts) o there in
    let numbered : AreNumbered (rows_of facts o) = (traces facts o lawful.1 recorded).rows.places in
    let last = stands_found facts lawful.1 meter o there StandsThere standing.last (at.last (placed (installed_row facts) (openings_in facts)) a.installations) in
    let last_is : standing.last ≡ last_row (installation_of facts o) = last.1 ∙ last.2 in
    let range = range_found facts lawful.1 meter o there HasRange standing.range (at.range (map ranged (openings_in facts)) a.ranges) in
    let range_is : standing.range ≡ o.range = range.1 ∙ range.2 in
    let following = at.following a.entries.rows a.entries.there in
    let are : IsPermutation (filter (is_of meter) a.entries.rows) (entered_rows o (rows_of facts o)) =
    subst (λ (l : List Entered). IsPermutation (filter (is_of meter) a.entries.rows) l) (ap (entries_at facts) there) (a.entries.each meter) in
    let place_is : standing.place ≡ length (rows_of facts o) + 2 = following.1 ∙ entries_count o (rows_of facts o) (is_of meter) a.entries.rows following.0 numbered are following.2 in
    entry_recorded moves others sums limits booked zone facts o (settled advance.last (is_closing booked.kind)) before enters.one enters.two after a lawful there
    (changed booked facts o on standing advance advances last_is range_is)
    (subst (λ (e : EntryRow). Edits entry_tree.entries entry_columns (with_row (entered meter e)) before enters.one) (same_row booked facts o on standing advance advances last_is range_is row place_is row_is)
    (subst (λ (content : Content). Edits entry_tree.entries entry_columns (with_row (entered meter row)) content enters.one) at.same enters.entry))
    (subst (λ (s : Step). BooksShares meter (shares_of s) enters.one enters.two) (step_is booked facts o on standing advance advances last_is range_is) enters.energy)
    enters.stands

-- If the calls that write a meter entry succeed, the tables encode the record of the entry.
pub entry_booked : EntriesMoveOn → OtherMetersStay → MetersAreKept → InstallationsAreInRange → VoidsLeaveNoTrace
    → (booked : BookedEntry) (meter : List ℕ) (standing : Standing) (advance : Advance) (row : EntryRow) (closing : Bool) → meter ≡ booked.meter → Advances standing booked.entry advance
    → row ≡ entry_row advance.last.sf (record { place = standing.place; kind = booked.kind; entry = booked.entry; stands = true }) → closing ≡ is_closing booked.kind
    → (before mid after : Content) → IsStanding meter standing before mid → EntersEntry meter row advance closing mid after → Records (fact.Entry booked) before after
entry_booked moves others sums limits traces booked meter standing advance row closing meter_is advances row_is closing_is before mid after at enters =
    entry_entered moves others sums limits traces booked standing advance row advances row_is before mid after (subst (λ (m : List ℕ). IsStanding m standing before mid) meter_is at)
    (subst (λ (c : Bool). EntersEntry booked.meter row advance c mid after) closing_is (subst (λ (m : List ℕ). EntersEntry m row advance closing mid after) meter_is enters))

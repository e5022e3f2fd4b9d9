-- Proofs that the tables encode the record of a void, the cancellation of a false meter reading.
use Rattle.std.proofs.Common.{◌≡◌, ◌≢◌, ◌≤◌, ℕ, List, [], ◌∷◌, map, Some, false, refl, sym, subst, ◌∙◌, arith}
use Rattle.interval_core.specs.Account.{SharesAddUp}
use Rattle.meter_journal.specs.Changes.{RowsLieWithin}
use Rattle.meter_journal.specs.Laws.{RowsStand}
use Rattle.meter_journal.specs.Voids.{VoidsChangeTwoRows}
use Rattle.office_events.specs.declared.facts.VoidedEntry.{VoidedEntry}
use Rattle.office_events.specs.declared.facts.Fact.{Fact}
use Rattle.office_events.specs.declared.facts.Fact.TheVariants as fact
use Rattle.office_books.specs.Facts.{devices_in, registers_in, openings_in, opening_of, holds_in, voids_in, replies_in, polls_in, ended_in}
use Rattle.office_books.specs.Laws.{MetersAreKept}
use Rattle.office_books.specs.Ranges.{InstallationsAreInRange}
use Rattle.office_books.specs.Steps.{OtherMetersStay}
use Rattle.store_tables.specs.Content.{Content, HasRows}
use Rattle.store_tables.specs.Devices.Trees as list_tree
use Rattle.store_tables.specs.Devices.Rows.{device_columns, register_columns}
use Rattle.store_tables.specs.Meters.Trees as meter_tree
use Rattle.store_tables.specs.Meters.Rows.{installed_columns, ranged_columns}
use Rattle.store_tables.specs.Entries.Trees as entry_tree
use Rattle.store_tables.specs.Entries.Rows.{voided_columns}
use Rattle.store_tables.specs.Polls.Trees as poll_tree
use Rattle.store_tables.specs.Polls.Rows.{poll_columns, outcome_columns, hold_columns, reply_columns}
use Rattle.office_store.specs.Rows.{placed, added, registered, installed_row, ranged, voided, started, outcome_row, held_row, kept}
use Rattle.office_store.specs.Tables.{meta_tree, meta_columns, AreOf}
use Rattle.office_store.specs.Recording.{Records}
use Rattle.office_store.proofs.Entered.{installations_changed}
use Rattle.office_store.proofs.Recorded.{stay, points_stay, entries_stay, intervals_stay}
use Rattle.office_store.specs.Bookings.Corrections.{Corrects}
use Rattle.office_store.specs.Bookings.MeterState.{settled}
use Rattle.office_store.specs.Bookings.Surroundings.{IsAround}
use Rattle.office_store.specs.Bookings.Voids.{EntersVoid}
use Rattle.office_store.specs.declared.bookings.corrections.Correction.{Correction}
use Rattle.office_store.specs.declared.bookings.surroundings.Surroundings.{Surroundings}
use Rattle.office_store.proofs.BookingsLemmas.Left.{IsLeft, spares, row_changed, entries_after, intervals_after, energy_others}
use Rattle.office_store.proofs.BookingsLemmas.Reported.{is_left}

-- After the row of a void (the cancellation of a reading) and the resulting changes are written,
-- the tables encode the record of the void.
void_recorded : OtherMetersStay → MetersAreKept → InstallationsAreInRange → RowsStand → RowsLieWithin → SharesAddUp → VoidsChangeTwoRows → (v : VoidedEntry) (found : Surroundings) (made : Correction) → 2 ≤ v.place → Corrects found made
    → (before mid after : Content) → IsAround v.meter v.place found before mid → EntersVoid v.meter v.place v.at made mid after → Records (fact.Void v) before after
void_recorded others kept_law ranges stand lying law change v found made late corrects before mid after at enters zone facts was lawful =
    let g : Fact = fact.Void v in
    let a : AreOf zone facts mid = subst (AreOf zone facts) (sym at.standing.same) was in
    let o = lawful.0.0.opening in
    let there : opening_of facts v.meter ≡ Some o = lawful.0.0.there in
    let left : IsLeft facts o v.place made = is_left v facts lawful o there stand change late zone before mid was found at made corrects in
    let two = enters.one in
    let three = enters.two in
    let marks = enters.marks in
    let stands = enters.stands in
    let shares_after = energy_others v facts lawful o there others stand change made left kept_law ranges lying law two three in
    let one_intervals = intervals_stay facts facts mid two (marks.next.others 14 (λ is. omega (arith, is)) ∙ marks.void.others 14 (λ is. omega (arith, is))) (λ meter. refl) a.intervals in
    let after_energy = shares_after one_intervals enters.energy in
    let late = λ (t : ℕ) (x : t ≢ 14) (y : t ≢ 7). stands.others t y ∙ after_energy t x in
    let far = λ (t : ℕ) (x : t ≢ 9) (y : t ≢ 14) (z : t ≢ 7) (w : t ≢ 20). late t y z ∙ marks.next.others t x ∙ marks.void.others t w in
    record {
      lawful = lawful;
      meta = stay meta_tree meta_columns (zone ∷ []) mid after (far 0 (λ is. omega (arith, is)) (λ is. omega (arith, is)) (λ is. omega (arith, is)) (λ is. omega (arith, is))) a.meta;
      devices = stay list_tree.devices device_columns (placed added (devices_in facts)) mid after (far 1 (λ is. omega (arith, is)) (λ is. omega (arith, is)) (λ is. omega (arith, is)) (λ is. omega (arith, is))) a.devices;
      points = points_stay facts (g ∷ facts) mid after (far 3 (λ is. omega (arith, is)) (λ is. omega (arith, is)) (λ is. omega (arith, is)) (λ is. omega (arith, is))) (λ device. refl) a.points;
      registers = stay list_tree.registers register_columns (placed registered (registers_in facts)) mid after (far 5 (λ is. omega (arith, is)) (λ is. omega (arith, is)) (λ is. omega (arith, is)) (λ is. omega (arith, is))) a.registers;
      installations =
          subst (λ rs. HasRows meter_tree.installations installed_columns rs after)
          (sym (installations_changed g facts v.meter (λ m. refl) (spares v facts lawful o there others stand change made left) o there
          (settled made.last false) (row_changed v facts lawful o there others stand change made left) lawful.1))
          (stands.rows (placed (installed_row facts) (openings_in facts))
          (stay meter_tree.installations installed_columns (placed (installed_row facts) (openings_in facts)) mid three
          (after_energy 7 (λ is. omega (arith, is)) ∙ marks.next.others 7 (λ is. omega (arith, is)) ∙ marks.void.others 7 (λ is. omega (arith, is))) a.installations));
      ranges = stay meter_tree.ranges ranged_columns (map ranged (openings_in facts)) mid after (far 18 (λ is. omega (arith, is)) (λ is. omega (arith, is)) (λ is. omega (arith, is)) (λ is. omega (arith, is))) a.ranges;
      entries = entries_stay (g ∷ facts) (g ∷ facts) two after (late 9 (λ is. omega (arith, is)) (λ is. omega (arith, is))) (λ meter. refl)
          (entries_after v facts lawful o there others stand change made left made.next left.rolls marks.one two marks.next
          (entries_stay facts facts mid marks.one (marks.void.others 9 (λ is. omega (arith, is))) (λ meter. refl) a.entries));
      voids = stay entry_tree.voids voided_columns (map voided (voids_in (g ∷ facts))) marks.one after
          (late 20 (λ is. omega (arith, is)) (λ is. omega (arith, is)) ∙ marks.next.others 20 (λ is. omega (arith, is)))
          (marks.void.rows (map voided (voids_in facts)) a.voids);
      polls = stay poll_tree.polls poll_columns (map started (polls_in facts)) mid after (far 11 (λ is. omega (arith, is)) (λ is. omega (arith, is)) (λ is. omega (arith, is)) (λ is. omega (arith, is))) a.polls;
      holds = stay poll_tree.holds hold_columns (placed held_row (holds_in facts)) mid after (far 12 (λ is. omega (arith, is)) (λ is. omega (arith, is)) (λ is. omega (arith, is)) (λ is. omega (arith, is))) a.holds;
      outcomes = stay poll_tree.outcomes outcome_columns (map outcome_row (ended_in facts)) mid after (far 13 (λ is. omega (arith, is)) (λ is. omega (arith, is)) (λ is. omega (arith, is)) (λ is. omega (arith, is))) a.outcomes;
      intervals = intervals_stay (g ∷ facts) (g ∷ facts) three after (stands.others 14 (λ is. omega (arith, is))) (λ meter. refl)
          (intervals_after v facts lawful o there others stand change made left kept_law ranges lying law two three one_intervals enters.energy);
      replies = stay poll_tree.replies reply_columns (map kept (replies_in facts)) mid after (far 16 (λ is. omega (arith, is)) (λ is. omega (arith, is)) (λ is. omega (arith, is)) (λ is. omega (arith, is))) a.replies;
    }

-- If the calls that void (cancel) a meter reading succeed, the tables encode the record of the
-- cancellation.
pub void_entered : OtherMetersStay → MetersAreKept → InstallationsAreInRange → RowsStand → RowsLieWithin → SharesAddUp → VoidsChangeTwoRows → (v : VoidedEntry) (meter : List ℕ) (found : Surroundings) (made : Correction) → 2 ≤ v.place → meter ≡ v.meter
    → Corrects found made → (before mid after : Content) → IsAround meter v.place found before mid → EntersVoid meter v.place v.at made mid after → Records (fact.Void v) before after
void_entered others kept_law ranges stand lying law change v meter found made late meter_is corrects before mid after at enters =
    void_recorded others kept_law ranges stand lying law change v found made late corrects before mid after (subst (λ (m : List ℕ). IsAround m v.place found before mid) meter_is at)
    (subst (λ (m : List ℕ). EntersVoid m v.place v.at made mid after) meter_is enters)

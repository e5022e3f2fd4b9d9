-- Proofs that the store's SQL tables encode all of the store's records after a meter was installed.
use Rattle.std.proofs.Common.{◌≡◌, ◌≢◌, ℕ, ◌+◌, true, false, inl, inr, List, [], ◌∷◌, map, filter, length, Option, Some, None, bytes_eq, refl, sym, ap, subst, ◌∙◌, IsPermutation, arith}
use Rattle.std.proofs.lemmas.Bool.{cases_Bool, cond-true, cond-false}
use Rattle.std.proofs.lemmas.List.Sorted.{IsPermutation-cons}
use Rattle.interval_core.specs.declared.shares.Share.{Share}
use Rattle.office_events.specs.declared.facts.Opening.{Opening}
use Rattle.office_events.specs.declared.facts.Fact.{Fact}
use Rattle.office_events.specs.declared.facts.Fact.TheVariants as fact
use Rattle.office_books.specs.Facts.{same, devices_in, registers_in, openings_in, opening_of, holds_in, voids_in, replies_in, polls_in, ended_in}
use Rattle.office_books.specs.Intervals.{rows_of_installed, rows_of_meter}
use Rattle.office_books.specs.Lawful.{AreLawful}
use Rattle.office_books.specs.Steps.{Begins, OpeningsBegin}
use Rattle.office_books.proofs.Lookups.{same_text, same_itself}
use Rattle.store_tables.specs.Answer.{every}
use Rattle.store_tables.specs.Content.{Content, HasRows, Edits, with_row}
use Rattle.store_tables.specs.Devices.Trees as list_tree
use Rattle.store_tables.specs.Devices.Rows.{device_columns, register_columns}
use Rattle.store_tables.specs.Meters.Trees as meter_tree
use Rattle.store_tables.specs.Meters.Rows.{Installed, installed_columns, installed_place, ranged_columns}
use Rattle.store_tables.specs.Entries.Trees as entry_tree
use Rattle.store_tables.specs.Entries.Rows.{Entered, entry_columns, voided_columns, is_of as is_entry_of}
use Rattle.office_store.specs.Intervals.Trees as interval_tree
use Rattle.office_store.specs.Intervals.Rows.{Interval, is_of as is_interval_of}
use Rattle.store_tables.specs.Polls.Trees as poll_tree
use Rattle.store_tables.specs.Polls.Rows.{poll_columns, outcome_columns, hold_columns, reply_columns}
use Rattle.office_store.specs.Rows.{begun, placed, added, registered, installed_as, installed_row, ranged, voided, started, outcome_row, held_row, kept, entered, opening_row, entered_rows, entries_at, entries_of, interval_of}
use Rattle.office_store.specs.Tables.{meta_tree, meta_columns, AreEntries, AreIntervals, AreOf}
use Rattle.office_store.specs.Recording.{IsAfter}
use Rattle.office_store.proofs.Placed.{last_counts}
use Rattle.office_store.proofs.Recorded.{stay, points_stay, entries_stay, intervals_stay}

module _ (facts : List Fact) (o : Opening) (begins : Begins facts o) (new : opening_of facts o.meter ≡ None) where
  opening_entered : (content after : Content) → Edits entry_tree.entries entry_columns (with_row (entered o.meter (opening_row o))) content after
      → AreEntries facts content → AreEntries (fact.Opening o ∷ facts) after
  opening_entered content after e a = record {
    rows = first ∷ a.rows;
    there = e.rows a.rows a.there;
    each = λ m. elim (cases_Bool (same o.meter m)) [
      | inl is ↦ subst (λ t. IsPermutation (filter (is_entry_of t) (first ∷ a.rows)) (entries_of (fact.Opening o ∷ facts) t)) (same_text o.meter m is) own
      | inr off ↦
          subst (IsPermutation (filter (is_entry_of m) (first ∷ a.rows))) (sym (ap (entries_at (fact.Opening o ∷ facts)) (cond-false _ _ _ off) ∙ still (opening_of facts m)))
          (subst (λ l. IsPermutation l (entries_of facts m)) (sym (cond-false _ _ _ off)) (a.each m))
    ];
  }
    where
      first : Entered
      first = entered o.meter (opening_row o)

      still : (found : Option Opening) → entries_at (fact.Opening o ∷ facts) found ≡ entries_at facts found
      still None = refl
      still (Some x) = refl

      whole : entries_of (fact.Opening o ∷ facts) o.meter ≡ first ∷ entries_of facts o.meter
      whole = ap (entries_at (fact.Opening o ∷ facts)) begins.by_name ∙ ap (entered_rows o) begins.rows ∙ ap (λ l. first ∷ l) (sym (ap (entries_at facts) new))

      own : IsPermutation (filter (is_entry_of o.meter) (first ∷ a.rows)) (entries_of (fact.Opening o ∷ facts) o.meter)
      own =
          subst (IsPermutation (filter (is_entry_of o.meter) (first ∷ a.rows))) (sym whole)
          (subst (λ l. IsPermutation l (first ∷ entries_of facts o.meter)) (sym (cond-true _ _ _ (same_itself o.meter)))
          (IsPermutation-cons first _ _ (a.each o.meter)))

  opening_intervals : (meter : List ℕ) → rows_of_meter (fact.Opening o ∷ facts) meter ≡ rows_of_meter facts meter
  opening_intervals m = elim (cases_Bool (same o.meter m)) [
    | inl is ↦ subst (λ t. rows_of_meter (fact.Opening o ∷ facts) t ≡ rows_of_meter facts t) (same_text o.meter m is)
        (ap (rows_of_installed (fact.Opening o ∷ facts)) begins.by_name ∙ begins.intervals ∙ sym (ap (rows_of_installed facts) new))
    | inr off ↦ ap (rows_of_installed (fact.Opening o ∷ facts)) (cond-false _ _ _ off) ∙ still (opening_of facts m)
  ]
    where
      still : (found : Option Opening) → rows_of_installed (fact.Opening o ∷ facts) found ≡ rows_of_installed facts found
      still None = refl
      still (Some x) = refl

-- If a new meter's rows are inserted into `installations`, `ranges` and `entries`, the SQL tables
-- encode the store's records with the new meter.
pub opening_recorded : OpeningsBegin → (o : Opening) (place : ℕ) (zone : List ℕ) (facts : List Fact) (content one two after : Content)
    → AreOf zone facts content → AreLawful (fact.Opening o ∷ facts)
    → IsAfter meter_tree.installations installed_columns every installed_place place content
    → Edits meter_tree.installations installed_columns (with_row (installed_as place (begun o))) content one
    → Edits meter_tree.ranges ranged_columns (with_row (ranged o)) one two
    → Edits entry_tree.entries entry_columns (with_row (entered o.meter (opening_row o))) two after
    → AreOf zone (fact.Opening o ∷ facts) after
opening_recorded law o place zone facts content one two after a lawful following i r e =
    let f = fact.Opening o in
    let begins = law o facts lawful in
    let new = lawful.0.0.new in
    let far = λ (t : ℕ) (x : t ≢ 7) (y : t ≢ 18) (z : t ≢ 9). e.others t z ∙ r.others t y ∙ i.others t x in
    record {
      lawful = lawful;
      meta = stay meta_tree meta_columns (zone ∷ []) content after (far 0 (λ is. omega (arith, is)) (λ is. omega (arith, is)) (λ is. omega (arith, is))) a.meta;
      devices = stay list_tree.devices device_columns (placed added (devices_in facts)) content after (far 1 (λ is. omega (arith, is)) (λ is. omega (arith, is)) (λ is. omega (arith, is))) a.devices;
      points = points_stay facts (f ∷ facts) content after (far 3 (λ is. omega (arith, is)) (λ is. omega (arith, is)) (λ is. omega (arith, is))) (λ device. refl) a.points;
      registers = stay list_tree.registers register_columns (placed registered (registers_in facts)) content after (far 5 (λ is. omega (arith, is)) (λ is. omega (arith, is)) (λ is. omega (arith, is))) a.registers;
      installations =
          let os = openings_in facts in
          let rows = placed (installed_row facts) os in
          let it = following rows a.installations in
          let count : place ≡ length os + 1 = it.1 ∙ last_counts (installed_row facts) installed_place (λ place x. refl) os it.0 it.2 in
          stay meter_tree.installations installed_columns (installed_row (f ∷ facts) (length os + 1) o ∷ rows) one after (e.others 7 (λ is. omega (arith, is)) ∙ r.others 7 (λ is. omega (arith, is)))
          (subst (λ row. HasRows meter_tree.installations installed_columns (installed_as (length os + 1) row ∷ rows) one) (sym begins.installation)
          (subst (λ n. HasRows meter_tree.installations installed_columns (installed_as n (begun o) ∷ rows) one) count (i.rows rows a.installations)));
      ranges = stay meter_tree.ranges ranged_columns (ranged o ∷ map ranged (openings_in facts)) two after (e.others 18 (λ is. omega (arith, is)))
          (r.rows (map ranged (openings_in facts)) (stay meter_tree.ranges ranged_columns (map ranged (openings_in facts)) content one (i.others 18 (λ is. omega (arith, is))) a.ranges));
      entries = opening_entered facts o begins new two after e (entries_stay facts facts content two (r.others 9 (λ is. omega (arith, is)) ∙ i.others 9 (λ is. omega (arith, is))) (λ meter. refl) a.entries);
      voids = stay entry_tree.voids voided_columns (map voided (voids_in facts)) content after (far 20 (λ is. omega (arith, is)) (λ is. omega (arith, is)) (λ is. omega (arith, is))) a.voids;
      polls = stay poll_tree.polls poll_columns (map started (polls_in facts)) content after (far 11 (λ is. omega (arith, is)) (λ is. omega (arith, is)) (λ is. omega (arith, is))) a.polls;
      holds = stay poll_tree.holds hold_columns (placed held_row (holds_in facts)) content after (far 12 (λ is. omega (arith, is)) (λ is. omega (arith, is)) (λ is. omega (arith, is))) a.holds;
      outcomes = stay poll_tree.outcomes outcome_columns (map outcome_row (ended_in facts)) content after (far 13 (λ is. omega (arith, is)) (λ is. omega (arith, is)) (λ is. omega (arith, is))) a.outcomes;
      intervals = intervals_stay facts (f ∷ facts) content after (far 14 (λ is. omega (arith, is)) (λ is. omega (arith, is)) (λ is. omega (arith, is))) (opening_intervals facts o begins new) a.intervals;
      replies = stay poll_tree.replies reply_columns (map kept (replies_in facts)) content after (far 16 (λ is. omega (arith, is)) (λ is. omega (arith, is)) (λ is. omega (arith, is))) a.replies;
    }

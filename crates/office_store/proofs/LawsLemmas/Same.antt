-- Proofs that two lists of records are equal up to order if the same tables encode both lists.
use Rattle.std.proofs.Common.{◌≡◌, ℕ, List, [], ◌∷◌, map, inl, inr, refl, sym, ap, subst, ◌∙◌, Some, IsPermutation}
use Rattle.std.specs.List.{AllByRecursion, Contains}
use Rattle.std.proofs.lemmas.Option.{same_Some}
use Rattle.std.proofs.lemmas.List.Sorted.{list_any-IsPermutation}
use Rattle.sqlite_keyed.proofs.ListLemmas.{all_both, all_unmap, IsPermutation-same}
use Rattle.meter_journal.specs.Laws.{RowsStand}
use Rattle.read_plan.specs.PlannedLists.{ListsArePlannedOnce}
use Rattle.office_events.specs.declared.facts.Opening.{Opening}
use Rattle.office_events.specs.declared.facts.Fact.{Fact}
use Rattle.office_books.specs.Facts.{devices_in, registers_in, openings_in, opening_of, holds_in, voids_in, polls_in, ended_in, replies_in, list_of}
use Rattle.office_books.specs.Meters.{journal_of, rows_of}
use Rattle.office_books.specs.Same.{AreSame}
use Rattle.store_tables.specs.Content.{Content}
use Rattle.store_tables.specs.Devices.Trees as list_tree
use Rattle.store_tables.specs.Devices.Rows.{device_columns, point_columns, register_columns, device_place, register_place, is_point_of}
use Rattle.store_tables.specs.Meters.Trees as meter_tree
use Rattle.store_tables.specs.Meters.Rows.{installed_columns, installed_place, ranged_columns}
use Rattle.store_tables.specs.Entries.Trees as entry_tree
use Rattle.store_tables.specs.Entries.Rows.{entry_columns, entry_place, voided_columns, is_of}
use Rattle.store_tables.specs.Polls.Trees as poll_tree
use Rattle.store_tables.specs.Polls.Rows.{poll_columns, outcome_columns, hold_columns, hold_place, reply_columns}
use Rattle.office_store.specs.Rows.{placed, added, registered, installed_row, ranged, entered, opening_row, entered_rows, entries_at, entries_of, voided, started, outcome_row, held_row, kept}
use Rattle.office_store.specs.Tables.{meta_tree, meta_columns, AreOf}
use Rattle.office_store.specs.Laws.Laws.{TablesTellTheirFacts}
use Rattle.office_store.proofs.LawsLemmas.Lists.{Among, all_among, among_contained, among_permuted, among_map, same_in_order, IsInjective, permuted_back, one_table, same_by_parts, of_passing}
use Rattle.office_store.proofs.LawsLemmas.Columns as columns
use Rattle.office_store.proofs.LawsLemmas.Rows.{one_device, one_register, one_hold, one_void, one_end, one_reply, one_poll}
use Rattle.office_store.proofs.LawsLemmas.Placed.{Falls, falls_one_way, placed_alike, placed_same}
use Rattle.office_store.proofs.LawsLemmas.Points.{same_list}
use Rattle.office_store.proofs.LawsLemmas.EntryRows.{SameVoids, rows_reported, entries_fall, opening_among, first_entry}
use Rattle.office_store.proofs.LawsLemmas.Facts.{last_put, number_of, polls_fall, IsInstalled, all_installed, has_rows, names, voids_named}

one_zone : IsInjective meta_columns
one_zone a b e = cc

module _ (stand : RowsStand) (once : ListsArePlannedOnce) (zone others_zone : List ℕ) (facts others : List Fact) (content : Content)
    (a : AreOf zone facts content) (b : AreOf others_zone others content) where
  same_zone : zone ≡ others_zone
  same_zone = elim (there.0) [ inl is ↦ is | inr none ↦ absurd none ]
    where
      there : AllByRecursion (λ (z : List ℕ). Among z (others_zone ∷ [])) (zone ∷ [])
      there = among_permuted (zone ∷ []) (others_zone ∷ []) (one_table meta_columns one_zone (zone ∷ []) (others_zone ∷ []) (content meta_tree) a.meta b.meta)

  -- Lemmas that, if the same tables encode two lists of records, both lists have the same records
  -- of each kind, such as devices or polls.

  same_devices : devices_in facts ≡ devices_in others
  same_devices =
      placed_same added one_device device_place (λ place x. refl) (devices_in facts) (devices_in others)
      (one_table device_columns columns.one_device (placed added (devices_in facts)) (placed added (devices_in others)) (content list_tree.devices) a.devices b.devices)

  same_registers : registers_in facts ≡ registers_in others
  same_registers =
      placed_same registered one_register register_place (λ place x. refl) (registers_in facts) (registers_in others)
      (one_table register_columns columns.one_register (placed registered (registers_in facts)) (placed registered (registers_in others)) (content list_tree.registers)
      a.registers b.registers)

  same_holds : holds_in facts ≡ holds_in others
  same_holds =
      placed_same held_row one_hold hold_place (λ place x. refl) (holds_in facts) (holds_in others)
      (one_table hold_columns columns.one_hold (placed held_row (holds_in facts)) (placed held_row (holds_in others)) (content poll_tree.holds) a.holds b.holds)

  same_voids : IsPermutation (voids_in facts) (voids_in others)
  same_voids =
      permuted_back voided one_void (voids_in facts) (voids_in others)
      (one_table voided_columns columns.one_void (map voided (voids_in facts)) (map voided (voids_in others)) (content entry_tree.voids) a.voids b.voids)

  same_ends : IsPermutation (ended_in facts) (ended_in others)
  same_ends =
      permuted_back outcome_row one_end (ended_in facts) (ended_in others)
      (one_table outcome_columns columns.one_end (map outcome_row (ended_in facts)) (map outcome_row (ended_in others)) (content poll_tree.outcomes) a.outcomes b.outcomes)

  same_replies : IsPermutation (replies_in facts) (replies_in others)
  same_replies =
      permuted_back kept one_reply (replies_in facts) (replies_in others)
      (one_table reply_columns columns.one_reply (map kept (replies_in facts)) (map kept (replies_in others)) (content poll_tree.replies) a.replies b.replies)

  same_polls : polls_in facts ≡ polls_in others
  same_polls =
      same_in_order (Falls number_of) (falls_one_way number_of) (polls_in facts) (polls_in others) (polls_fall facts a.lawful) (polls_fall others b.lawful)
      (permuted_back started one_poll (polls_in facts) (polls_in others)
      (one_table poll_columns columns.one_poll (map started (polls_in facts)) (map started (polls_in others)) (content poll_tree.polls) a.polls b.polls))

  same_lists : (device : List ℕ) → list_of facts device ≡ list_of others device
  same_lists device =
      same_list once device _ _ (last_put facts device a.lawful) (last_put others device b.lawful)
      (of_passing (is_point_of device) a.points.rows b.points.rows _ _
      (one_table point_columns columns.one_point a.points.rows b.points.rows (content list_tree.points) a.points.there b.points.there)
      (a.points.each device) (b.points.each device))

  -- Lemmas that, if the same tables encode two lists of records, both lists have the same meters
  -- with the same entries.

  same_entries : (meter : List ℕ) → IsPermutation (entries_of facts meter) (entries_of others meter)
  same_entries meter =
      of_passing (is_of meter) a.entries.rows b.entries.rows (entries_of facts meter) (entries_of others meter)
      (one_table entry_columns columns.one_entry a.entries.rows b.entries.rows (content entry_tree.entries) a.entries.there b.entries.there)
      (a.entries.each meter) (b.entries.each meter)

  -- If the same tables encode two lists of records, each meter has the same entries in both lists.
  meter_entries : (o p : Opening) → IsInstalled facts o → opening_of others o.meter ≡ Some p
      → IsPermutation (entered_rows o (rows_of facts o)) (entered_rows p (rows_of others p))
  meter_entries o p here there =
      subst (λ rows. IsPermutation rows (entered_rows p (rows_of others p))) (ap (entries_at facts) here)
      (subst (IsPermutation (entries_of facts o.meter)) (ap (entries_at others) there) (same_entries o.meter))

  -- True if two openings (records that install meters) have the same meter, accounting register
  -- (named energy counter) and greatest power.
  record IsAlike (o p : Opening) : Type 0 where
    meter : o.meter ≡ p.meter
    register : o.register ≡ p.register
    ceiling : o.ceiling ≡ p.ceiling

  -- True if one list of records has the opening `o` (the record that installs a meter), and the
  -- other list has an opening with the same meter and counter range.
  record IsKnown (o : Opening) : Type 0 where
    here : IsInstalled facts o
    range : Among (ranged o) (map ranged (openings_in others))

  one_opening : (o p : Opening) → IsAlike o p → IsKnown o → IsInstalled others p → o ≡ p
  one_opening o p h known q =
      let there : opening_of others o.meter ≡ Some p = ap (opening_of others) h.meter ∙ q in
      let first = entered o.meter (opening_row o) in
      let e : first ≡ entered p.meter (opening_row p) =
      first_entry p (rows_of others p) first (has_rows stand others p b.lawful q).numbered
      (all_among (λ x. Among x (entered_rows p (rows_of others p))) (entered_rows o (rows_of facts o)) first
      (among_permuted (entered_rows o (rows_of facts o)) (entered_rows p (rows_of others p)) (meter_entries o p known.here there))
      (opening_among o (rows_of facts o))) refl in
      let found = among_map ranged (IsInstalled others) (openings_in others) (ranged o) (all_installed others b.lawful) known.range in
      let named : o.meter ≡ found.0.meter = λ i. (found.2 i).meter in
      let this : found.0 ≡ p = same_Some found.0 p (sym found.1 ∙ ap (opening_of others) (sym named) ∙ there) in
      let range : o.range ≡ p.range = (λ i. (found.2 i).range) ∙ ap (λ (x : Opening). x.range) this in
      λ i. record {
        meter = h.meter i;
        register = h.register i;
        ceiling = h.ceiling i;
        range = range i;
        at = (e i).entry.moment;
        raw = (e i).entry.raw;
        sf = (e i).entry.sf;
      }

  all_known : AllByRecursion IsKnown (openings_in facts)
  all_known =
      all_both (IsInstalled facts) (λ (o : Opening). Among (ranged o) (map ranged (openings_in others))) IsKnown
      (λ o here range. record { here = here; range = range }) (openings_in facts) (all_installed facts a.lawful)
      (all_unmap (λ r. Among r (map ranged (openings_in others))) ranged (openings_in facts)
      (among_permuted (map ranged (openings_in facts)) (map ranged (openings_in others))
      (one_table ranged_columns columns.one_range (map ranged (openings_in facts)) (map ranged (openings_in others)) (content meter_tree.ranges) a.ranges b.ranges)))

  same_openings : openings_in facts ≡ openings_in others
  same_openings =
      same_by_parts IsAlike IsKnown (IsInstalled others) one_opening (openings_in facts) (openings_in others)
      (placed_alike (installed_row facts) (installed_row others) IsAlike
      (λ m n o p e. record { meter = λ i. (e i).meter; register = λ i. (e i).register; ceiling = λ i. (e i).row.ceiling })
      installed_place (λ place o. refl) (λ place o. refl) (openings_in facts) (openings_in others)
      (one_table installed_columns columns.one_installation (placed (installed_row facts) (openings_in facts)) (placed (installed_row others) (openings_in others))
      (content meter_tree.installations) a.installations b.installations))
      all_known (all_installed others b.lawful)

  voids_agree : (meter : List ℕ) → SameVoids (journal_of facts meter) (journal_of others meter)
  voids_agree meter place =
      voids_named facts meter place ∙ list_any-IsPermutation (names meter place) (voids_in facts) (voids_in others) same_voids ∙ sym (voids_named others meter place)

  same_rows : (o : Opening) → Contains (openings_in facts) o → rows_of facts o ≡ rows_of others o
  same_rows o there =
      let mine = among_contained (openings_in facts) o there in
      let here : IsInstalled facts o = all_among (IsInstalled facts) (openings_in facts) o (all_installed facts a.lawful) mine in
      let also : IsInstalled others o = all_among (IsInstalled others) (openings_in others) o (all_installed others b.lawful) (subst (Among o) same_openings mine) in
      let rows = has_rows stand facts o a.lawful here in
      let theirs = has_rows stand others o b.lawful also in
      rows_reported o (journal_of facts o.meter) (journal_of others o.meter) (voids_agree o.meter) (rows_of facts o) (rows_of others o)
      (same_in_order (Falls entry_place) (falls_one_way entry_place) (entered_rows o (rows_of facts o)) (entered_rows o (rows_of others o))
      (entries_fall o (rows_of facts o) rows.numbered) (entries_fall o (rows_of others o) theirs.numbered) (meter_entries o o here also))
      rows.formed theirs.formed rows.stand theirs.stand

  same_books : AreSame facts others
  same_books = record {
    devices = same_devices;
    lists = same_lists;
    registers = same_registers;
    openings = same_openings;
    entries = same_rows;
    holds = IsPermutation-same (holds_in facts) (holds_in others) same_holds;
    voids = same_voids;
    polls = same_polls;
    outcomes = same_ends;
    replies = same_replies;
  }

pub tables_give_their_records : RowsStand → ListsArePlannedOnce → TablesTellTheirFacts
tables_give_their_records stand once zone others_zone facts others content a b =
    (same_books stand once zone others_zone facts others content a b, same_zone stand once zone others_zone facts others content a b)

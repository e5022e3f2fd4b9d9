-- Proofs that the store's SQL tables encode all of the store's records after a device's point list
-- was recorded.
use Rattle.std.proofs.Common.{◌≡◌, ◌≢◌, ℕ, ◌+◌, Bool, true, false, not, cond, inl, inr, List, [], ◌∷◌, ◌++◌, map, filter, Option, Some, None, bytes_eq, refl, sym, ap, ap₂, subst, ◌∙◌, IsPermutation, arith}
use Rattle.std.specs.List.{find, AllByRecursion}
use Rattle.std.proofs.lemmas.Bool.{cases_Bool, cond-true, cond-false}
use Rattle.std.proofs.lemmas.List.{append-nil}
use Rattle.std.proofs.lemmas.List.Elements.{filter-append}
use Rattle.sqlite_keyed.proofs.ListLemmas.{IsPermutation-same, filter_all, filter_none}
use Rattle.office_events.specs.declared.facts.DeviceList.{DeviceList}
use Rattle.office_events.specs.declared.facts.Fact.{Fact}
use Rattle.office_events.specs.declared.facts.Fact.TheVariants as fact
use Rattle.office_books.specs.Facts.{same, lists_in, devices_in, registers_in, openings_in, holds_in, voids_in, replies_in, polls_in, ended_in}
use Rattle.office_books.proofs.Lookups.{same_text, same_itself, same_turned}
use Rattle.store_tables.specs.Content.{Content, Edits, without_where}
use Rattle.store_tables.specs.Devices.Trees as list_tree
use Rattle.store_tables.specs.declared.devices.rows.Point.{Point}
use Rattle.store_tables.specs.Devices.Rows.{Listed, device_columns, register_columns, point_columns, is_point_of, listed_at, with_list}
use Rattle.store_tables.specs.Meters.Trees as meter_tree
use Rattle.store_tables.specs.Meters.Rows.{installed_columns, ranged_columns}
use Rattle.store_tables.specs.Entries.Trees as entry_tree
use Rattle.store_tables.specs.Entries.Rows.{voided_columns}
use Rattle.store_tables.specs.Polls.Trees as poll_tree
use Rattle.store_tables.specs.Polls.Rows.{poll_columns, outcome_columns, hold_columns, reply_columns}
use Rattle.office_store.specs.Rows.{placed, placed_on, added, listed, points_put, points_of, registered, installed_row, ranged, voided, started, outcome_row, held_row, kept}
use Rattle.office_store.specs.Tables.{meta_tree, meta_columns, ArePoints}
use Rattle.office_store.specs.Recording.{Records}
use Rattle.office_store.proofs.Recorded.{stay, entries_stay, intervals_stay}

-- Every row of `points` that encodes a point of a device's point list has the name of this device.
own_points : (device : List ℕ) (ps : List Point) → AllByRecursion (λ (p : Listed). is_point_of device p ≡ true) (map (listed_at device) ps)
own_points device [] = tt
own_points device (p ∷ ps) = (same_itself device, own_points device ps)

other_points : (device other : List ℕ) (ps : List Point) → same device other ≡ false → AllByRecursion (λ (p : Listed). is_point_of other p ≡ false) (map (listed_at device) ps)
other_points device other [] off = tt
other_points device other (p ∷ ps) off = (off, other_points device other ps off)

without_step : (b : Bool) (p : Listed) (rest : List Listed) (passes : Listed → Bool) → passes p ≡ b → filter passes rest ≡ []
    → filter passes (cond (not b) (p ∷ rest) rest) ≡ []
without_step true p rest passes is more = more
without_step false p rest passes is more = cond-false _ _ _ is ∙ more

-- After the points of a device are deleted, `points` has no point of this device.
none_left : (device : List ℕ) (rows : List Listed) → filter (is_point_of device) (without_where (is_point_of device) rows) ≡ []
none_left device [] = refl
none_left device (p ∷ rows) = without_step (is_point_of device p) p (without_where (is_point_of device) rows) (is_point_of device) refl (none_left device rows)

spared_step : (b c : Bool) (p : Listed) (rest rows : List Listed) (passes : Listed → Bool) → passes p ≡ c → (b ≡ true → c ≡ false) → filter passes rest ≡ filter passes rows
    → filter passes (cond (not b) (p ∷ rest) rest) ≡ cond c (p ∷ filter passes rows) (filter passes rows)
spared_step true c p rest rows passes is off more = more ∙ sym (cond-false _ _ _ (off refl))
spared_step false true p rest rows passes is off more = cond-true _ _ _ is ∙ ap (λ l. p ∷ l) more
spared_step false false p rest rows passes is off more = cond-false _ _ _ is ∙ more

-- After the points of one device are deleted, `points` still has all points of every other device.
others_left : (device other : List ℕ) (rows : List Listed) → same device other ≡ false
    → filter (is_point_of other) (without_where (is_point_of device) rows) ≡ filter (is_point_of other) rows
others_left device other [] off = refl
others_left device other (p ∷ rows) off =
    spared_step (is_point_of device p) (is_point_of other p) p (without_where (is_point_of device) rows) rows (is_point_of other) refl
    (λ here. ap (λ t. same t other) (same_text p.device device here) ∙ off) (others_left device other rows off)

-- If a device's points are replaced in `points`, the table encodes the records with the device's
-- new point list.
pub list_put : (put : DeviceList) (facts : List Fact) (ps : List Point) (content after : Content) → map (listed_at put.device) ps ≡ placed_on (listed put.device) 0 put.list.points
    → Edits list_tree.points point_columns (with_list put.device ps) content after → ArePoints facts content → ArePoints (fact.List put ∷ facts) after
list_put put facts ps content after are e a = record {
  rows = with_list put.device ps a.rows;
  there = e.rows a.rows a.there;
  each = λ device. elim (cases_Bool (same put.device device)) [
    | inl is ↦ subst (λ d. IsPermutation (filter (is_point_of d) (with_list put.device ps a.rows)) (placed_on (listed d) 0 (points_of (fact.List put ∷ facts) d))) (same_text put.device device is) own
    | inr off ↦
        subst (λ l. IsPermutation (filter (is_point_of device) (with_list put.device ps a.rows)) (placed_on (listed device) 0 (points_put l))) (sym (cond-false _ _ _ off))
        (subst (λ l. IsPermutation l (placed_on (listed device) 0 (points_of facts device))) (sym (other device off)) (a.each device))
  ];
}
  where
    rest : List Listed
    rest = without_where (is_point_of put.device) a.rows

    news : List Listed
    news = map (listed_at put.device) ps

    mine : filter (is_point_of put.device) (with_list put.device ps a.rows) ≡ placed_on (listed put.device) 0 put.list.points
    mine =
        filter-append (is_point_of put.device) news rest
        ∙ ap₂ ◌++◌ (filter_all (is_point_of put.device) news (own_points put.device ps)) (none_left put.device a.rows)
        ∙ append-nil news ∙ are

    own : IsPermutation (filter (is_point_of put.device) (with_list put.device ps a.rows)) (placed_on (listed put.device) 0 (points_of (fact.List put ∷ facts) put.device))
    own = IsPermutation-same _ _ (mine ∙ ap (λ l. placed_on (listed put.device) 0 (points_put l)) (sym (cond-true _ _ _ (same_itself put.device))))

    other : (device : List ℕ) → same put.device device ≡ false → filter (is_point_of device) (with_list put.device ps a.rows) ≡ filter (is_point_of device) a.rows
    other device off =
        filter-append (is_point_of device) news rest
        ∙ ap₂ ◌++◌ (filter_none (is_point_of device) news (other_points put.device device ps off)) (others_left put.device device a.rows off)

-- After a device's new point list replaces the previous list in `points`, the tables encode the
-- record of the new list.
pub list_recorded : (put : DeviceList) (ps : List Point) (content after : Content)
    → map (listed_at put.device) ps ≡ placed_on (listed put.device) 0 put.list.points
    → Edits list_tree.points point_columns (with_list put.device ps) content after → Records (fact.List put) content after
list_recorded put ps content after are e zone facts a lawful = record {
  lawful = lawful;
  meta = stay meta_tree meta_columns (zone ∷ []) content after (e.others 0 (λ is. omega (arith, is))) a.meta;
  devices = stay list_tree.devices device_columns (placed added (devices_in facts)) content after (e.others 1 (λ is. omega (arith, is))) a.devices;
  points = list_put put facts ps content after are e a.points;
  registers = stay list_tree.registers register_columns (placed registered (registers_in facts)) content after (e.others 5 (λ is. omega (arith, is))) a.registers;
  installations = stay meter_tree.installations installed_columns (placed (installed_row facts) (openings_in facts)) content after (e.others 7 (λ is. omega (arith, is))) a.installations;
  ranges = stay meter_tree.ranges ranged_columns (map ranged (openings_in facts)) content after (e.others 18 (λ is. omega (arith, is))) a.ranges;
  entries = entries_stay facts (fact.List put ∷ facts) content after (e.others 9 (λ is. omega (arith, is))) (λ meter. refl) a.entries;
  voids = stay entry_tree.voids voided_columns (map voided (voids_in facts)) content after (e.others 20 (λ is. omega (arith, is))) a.voids;
  polls = stay poll_tree.polls poll_columns (map started (polls_in facts)) content after (e.others 11 (λ is. omega (arith, is))) a.polls;
  holds = stay poll_tree.holds hold_columns (placed held_row (holds_in facts)) content after (e.others 12 (λ is. omega (arith, is))) a.holds;
  outcomes = stay poll_tree.outcomes outcome_columns (map outcome_row (ended_in facts)) content after (e.others 13 (λ is. omega (arith, is))) a.outcomes;
  intervals = intervals_stay facts (fact.List put ∷ facts) content after (e.others 14 (λ is. omega (arith, is))) (λ meter. refl) a.intervals;
  replies = stay poll_tree.replies reply_columns (map kept (replies_in facts)) content after (e.others 16 (λ is. omega (arith, is))) a.replies;
}

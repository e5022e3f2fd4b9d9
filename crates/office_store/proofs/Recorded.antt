-- Proofs that the store's SQL tables encode its records after a record that changes no meter. This
-- is a device, an energy counter (accounting register), a poll, an outcome or a stored request.
use Rattle.std.proofs.Common.{◌≡◌, ◌≢◌, ℕ, ◌+◌, List, [], ◌∷◌, map, filter, length, Option, Some, None, refl, sym, ap, subst, ◌∙◌, IsPermutation, arith}
use Rattle.sqlite.specs.Order.{Row}
use Rattle.office_events.specs.declared.facts.Device.{Device}
use Rattle.office_events.specs.declared.facts.Register.{Register}
use Rattle.office_events.specs.declared.facts.Poll.{Poll}
use Rattle.office_events.specs.declared.facts.EndedPoll.{EndedPoll}
use Rattle.office_events.specs.declared.facts.Reply.{Reply}
use Rattle.office_events.specs.declared.facts.Fact.{Fact}
use Rattle.office_events.specs.declared.facts.Fact.TheVariants as fact
use Rattle.office_books.specs.Facts.{devices_in, registers_in, openings_in, holds_in, voids_in, replies_in, polls_in, ended_in}
use Rattle.office_books.specs.Intervals.{rows_of_meter}
use Rattle.store_tables.specs.Answer.{every}
use Rattle.store_tables.specs.Content.{Content, HasRows, Edits, with_row}
use Rattle.store_tables.specs.Devices.Trees as list_tree
use Rattle.store_tables.specs.Devices.Rows.{point_columns, is_point_of, Added, Registered, device_columns, register_columns, device_place, register_place}
use Rattle.store_tables.specs.Meters.Trees as meter_tree
use Rattle.store_tables.specs.Meters.Rows.{installed_columns, ranged_columns}
use Rattle.store_tables.specs.Entries.Trees as entry_tree
use Rattle.store_tables.specs.Entries.Rows.{voided_columns, entry_columns, is_of as is_entry_of}
use Rattle.office_store.specs.Intervals.Trees as interval_tree
use Rattle.office_store.specs.Intervals.Rows.{interval_columns, is_of as is_interval_of}
use Rattle.store_tables.specs.Polls.Trees as poll_tree
use Rattle.store_tables.specs.Polls.Rows.{poll_columns, outcome_columns, hold_columns, reply_columns}
use Rattle.office_store.specs.Rows.{placed, placed_on, listed, interval_of, added, registered, installed_row, ranged, voided, started, outcome_row, held_row, kept, points_of, entries_of}
use Rattle.office_store.specs.Tables.{meta_tree, meta_columns, ArePoints, AreEntries, AreIntervals, AreOf}
use Rattle.office_store.specs.Recording.{Records, IsAfter}
use Rattle.office_store.proofs.Placed.{last_counts}

pub stay : {X : Type 0} (tree : ℕ) (columns : X → Row) (rows : List X) (content after : Content) → after tree ≡ content tree → HasRows tree columns rows content → HasRows tree columns rows after
stay tree columns rows content after same has = subst (IsPermutation (map columns rows)) (sym same) has

pub points_stay : (facts others : List Fact) (content after : Content) → after list_tree.points ≡ content list_tree.points
    → ((device : List ℕ) → points_of others device ≡ points_of facts device) → ArePoints facts content → ArePoints others after
points_stay facts others content after same of a = record {
  rows = a.rows;
  there = subst (IsPermutation (map point_columns a.rows)) (sym same) a.there;
  each = λ device. subst (λ ps. IsPermutation (filter (is_point_of device) a.rows) (placed_on (listed device) 0 ps)) (sym (of device)) (a.each device);
}

pub entries_stay : (facts others : List Fact) (content after : Content) → after entry_tree.entries ≡ content entry_tree.entries
    → ((meter : List ℕ) → entries_of others meter ≡ entries_of facts meter) → AreEntries facts content → AreEntries others after
entries_stay facts others content after same of a = record {
  rows = a.rows;
  there = subst (IsPermutation (map entry_columns a.rows)) (sym same) a.there;
  each = λ meter. subst (IsPermutation (filter (is_entry_of meter) a.rows)) (sym (of meter)) (a.each meter);
}

pub intervals_stay : (facts others : List Fact) (content after : Content) → after interval_tree.intervals ≡ content interval_tree.intervals
    → ((meter : List ℕ) → rows_of_meter others meter ≡ rows_of_meter facts meter) → AreIntervals facts content → AreIntervals others after
intervals_stay facts others content after same of a = record {
  rows = a.rows;
  there = subst (IsPermutation (map interval_columns a.rows)) (sym same) a.there;
  each = λ meter. subst (λ rs. IsPermutation (filter (is_interval_of meter) a.rows) (map (interval_of meter) rs)) (sym (of meter)) (a.each meter);
}

-- If the row of a new device gets the index after the last row of `devices`, the tables encode the
-- device.
pub device_recorded : (device : Device) (place : ℕ) (content after : Content) → IsAfter list_tree.devices device_columns every device_place place content
    → Edits list_tree.devices device_columns (with_row (added place device)) content after → Records (fact.Device device) content after
device_recorded device place content after following e zone facts a lawful = record {
  lawful = lawful;
  meta = stay meta_tree meta_columns (zone ∷ []) content after (e.others 0 (λ is. omega (arith, is))) a.meta;
  devices =
      let ds = devices_in facts in
      let it = following (placed added ds) a.devices in
      let count : place ≡ length ds + 1 = it.1 ∙ last_counts added device_place (λ place d. refl) ds it.0 it.2 in
      subst (λ n. HasRows list_tree.devices device_columns (added n device ∷ placed added ds) after) count (e.rows (placed added ds) a.devices);
  points = points_stay facts (fact.Device device ∷ facts) content after (e.others 3 (λ is. omega (arith, is))) (λ device. refl) a.points;
  registers = stay list_tree.registers register_columns (placed registered (registers_in facts)) content after (e.others 5 (λ is. omega (arith, is))) a.registers;
  installations = stay meter_tree.installations installed_columns (placed (installed_row facts) (openings_in facts)) content after (e.others 7 (λ is. omega (arith, is))) a.installations;
  ranges = stay meter_tree.ranges ranged_columns (map ranged (openings_in facts)) content after (e.others 18 (λ is. omega (arith, is))) a.ranges;
  entries = entries_stay facts (fact.Device device ∷ facts) content after (e.others 9 (λ is. omega (arith, is))) (λ meter. refl) a.entries;
  voids = stay entry_tree.voids voided_columns (map voided (voids_in facts)) content after (e.others 20 (λ is. omega (arith, is))) a.voids;
  polls = stay poll_tree.polls poll_columns (map started (polls_in facts)) content after (e.others 11 (λ is. omega (arith, is))) a.polls;
  holds = stay poll_tree.holds hold_columns (placed held_row (holds_in facts)) content after (e.others 12 (λ is. omega (arith, is))) a.holds;
  outcomes = stay poll_tree.outcomes outcome_columns (map outcome_row (ended_in facts)) content after (e.others 13 (λ is. omega (arith, is))) a.outcomes;
  intervals = intervals_stay facts (fact.Device device ∷ facts) content after (e.others 14 (λ is. omega (arith, is))) (λ meter. refl) a.intervals;
  replies = stay poll_tree.replies reply_columns (map kept (replies_in facts)) content after (e.others 16 (λ is. omega (arith, is))) a.replies;
}

-- If the row of a new accounting register (a named energy counter) gets the next index of
-- `registers`, the tables encode the register.
pub register_recorded : (register : Register) (place : ℕ) (content after : Content) → IsAfter list_tree.registers register_columns every register_place place content
    → Edits list_tree.registers register_columns (with_row (registered place register)) content after → Records (fact.Register register) content after
register_recorded register place content after following e zone facts a lawful = record {
  lawful = lawful;
  meta = stay meta_tree meta_columns (zone ∷ []) content after (e.others 0 (λ is. omega (arith, is))) a.meta;
  devices = stay list_tree.devices device_columns (placed added (devices_in facts)) content after (e.others 1 (λ is. omega (arith, is))) a.devices;
  points = points_stay facts (fact.Register register ∷ facts) content after (e.others 3 (λ is. omega (arith, is))) (λ device. refl) a.points;
  registers =
      let rs = registers_in facts in
      let it = following (placed registered rs) a.registers in
      let count : place ≡ length rs + 1 = it.1 ∙ last_counts registered register_place (λ place r. refl) rs it.0 it.2 in
      subst (λ n. HasRows list_tree.registers register_columns (registered n register ∷ placed registered rs) after) count (e.rows (placed registered rs) a.registers);
  installations = stay meter_tree.installations installed_columns (placed (installed_row facts) (openings_in facts)) content after (e.others 7 (λ is. omega (arith, is))) a.installations;
  ranges = stay meter_tree.ranges ranged_columns (map ranged (openings_in facts)) content after (e.others 18 (λ is. omega (arith, is))) a.ranges;
  entries = entries_stay facts (fact.Register register ∷ facts) content after (e.others 9 (λ is. omega (arith, is))) (λ meter. refl) a.entries;
  voids = stay entry_tree.voids voided_columns (map voided (voids_in facts)) content after (e.others 20 (λ is. omega (arith, is))) a.voids;
  polls = stay poll_tree.polls poll_columns (map started (polls_in facts)) content after (e.others 11 (λ is. omega (arith, is))) a.polls;
  holds = stay poll_tree.holds hold_columns (placed held_row (holds_in facts)) content after (e.others 12 (λ is. omega (arith, is))) a.holds;
  outcomes = stay poll_tree.outcomes outcome_columns (map outcome_row (ended_in facts)) content after (e.others 13 (λ is. omega (arith, is))) a.outcomes;
  intervals = intervals_stay facts (fact.Register register ∷ facts) content after (e.others 14 (λ is. omega (arith, is))) (λ meter. refl) a.intervals;
  replies = stay poll_tree.replies reply_columns (map kept (replies_in facts)) content after (e.others 16 (λ is. omega (arith, is))) a.replies;
}

-- After the row of a new poll is inserted into `polls`, the tables encode the poll.
pub poll_recorded : (poll : Poll) (content after : Content) → Edits poll_tree.polls poll_columns (with_row (started poll)) content after → Records (fact.Poll poll) content after
poll_recorded poll content after e zone facts a lawful = record {
  lawful = lawful;
  meta = stay meta_tree meta_columns (zone ∷ []) content after (e.others 0 (λ is. omega (arith, is))) a.meta;
  devices = stay list_tree.devices device_columns (placed added (devices_in facts)) content after (e.others 1 (λ is. omega (arith, is))) a.devices;
  points = points_stay facts (fact.Poll poll ∷ facts) content after (e.others 3 (λ is. omega (arith, is))) (λ device. refl) a.points;
  registers = stay list_tree.registers register_columns (placed registered (registers_in facts)) content after (e.others 5 (λ is. omega (arith, is))) a.registers;
  installations = stay meter_tree.installations installed_columns (placed (installed_row facts) (openings_in facts)) content after (e.others 7 (λ is. omega (arith, is))) a.installations;
  ranges = stay meter_tree.ranges ranged_columns (map ranged (openings_in facts)) content after (e.others 18 (λ is. omega (arith, is))) a.ranges;
  entries = entries_stay facts (fact.Poll poll ∷ facts) content after (e.others 9 (λ is. omega (arith, is))) (λ meter. refl) a.entries;
  voids = stay entry_tree.voids voided_columns (map voided (voids_in facts)) content after (e.others 20 (λ is. omega (arith, is))) a.voids;
  polls = e.rows (map started (polls_in facts)) a.polls;
  holds = stay poll_tree.holds hold_columns (placed held_row (holds_in facts)) content after (e.others 12 (λ is. omega (arith, is))) a.holds;
  outcomes = stay poll_tree.outcomes outcome_columns (map outcome_row (ended_in facts)) content after (e.others 13 (λ is. omega (arith, is))) a.outcomes;
  intervals = intervals_stay facts (fact.Poll poll ∷ facts) content after (e.others 14 (λ is. omega (arith, is))) (λ meter. refl) a.intervals;
  replies = stay poll_tree.replies reply_columns (map kept (replies_in facts)) content after (e.others 16 (λ is. omega (arith, is))) a.replies;
}

-- After the row of a poll's outcome is inserted into `outcomes`, the tables encode the outcome.
pub outcome_recorded : (ended : EndedPoll) (content after : Content) → Edits poll_tree.outcomes outcome_columns (with_row (outcome_row ended)) content after → Records (fact.Outcome ended) content after
outcome_recorded ended content after e zone facts a lawful = record {
  lawful = lawful;
  meta = stay meta_tree meta_columns (zone ∷ []) content after (e.others 0 (λ is. omega (arith, is))) a.meta;
  devices = stay list_tree.devices device_columns (placed added (devices_in facts)) content after (e.others 1 (λ is. omega (arith, is))) a.devices;
  points = points_stay facts (fact.Outcome ended ∷ facts) content after (e.others 3 (λ is. omega (arith, is))) (λ device. refl) a.points;
  registers = stay list_tree.registers register_columns (placed registered (registers_in facts)) content after (e.others 5 (λ is. omega (arith, is))) a.registers;
  installations = stay meter_tree.installations installed_columns (placed (installed_row facts) (openings_in facts)) content after (e.others 7 (λ is. omega (arith, is))) a.installations;
  ranges = stay meter_tree.ranges ranged_columns (map ranged (openings_in facts)) content after (e.others 18 (λ is. omega (arith, is))) a.ranges;
  entries = entries_stay facts (fact.Outcome ended ∷ facts) content after (e.others 9 (λ is. omega (arith, is))) (λ meter. refl) a.entries;
  voids = stay entry_tree.voids voided_columns (map voided (voids_in facts)) content after (e.others 20 (λ is. omega (arith, is))) a.voids;
  polls = stay poll_tree.polls poll_columns (map started (polls_in facts)) content after (e.others 11 (λ is. omega (arith, is))) a.polls;
  holds = stay poll_tree.holds hold_columns (placed held_row (holds_in facts)) content after (e.others 12 (λ is. omega (arith, is))) a.holds;
  outcomes = e.rows (map outcome_row (ended_in facts)) a.outcomes;
  intervals = intervals_stay facts (fact.Outcome ended ∷ facts) content after (e.others 14 (λ is. omega (arith, is))) (λ meter. refl) a.intervals;
  replies = stay poll_tree.replies reply_columns (map kept (replies_in facts)) content after (e.others 16 (λ is. omega (arith, is))) a.replies;
}

-- After the row of an accepted request is inserted into `replies`, the tables encode the request.
pub reply_recorded : (reply : Reply) (content after : Content) → Edits poll_tree.replies reply_columns (with_row (kept reply)) content after → Records (fact.Reply reply) content after
reply_recorded reply content after e zone facts a lawful = record {
  lawful = lawful;
  meta = stay meta_tree meta_columns (zone ∷ []) content after (e.others 0 (λ is. omega (arith, is))) a.meta;
  devices = stay list_tree.devices device_columns (placed added (devices_in facts)) content after (e.others 1 (λ is. omega (arith, is))) a.devices;
  points = points_stay facts (fact.Reply reply ∷ facts) content after (e.others 3 (λ is. omega (arith, is))) (λ device. refl) a.points;
  registers = stay list_tree.registers register_columns (placed registered (registers_in facts)) content after (e.others 5 (λ is. omega (arith, is))) a.registers;
  installations = stay meter_tree.installations installed_columns (placed (installed_row facts) (openings_in facts)) content after (e.others 7 (λ is. omega (arith, is))) a.installations;
  ranges = stay meter_tree.ranges ranged_columns (map ranged (openings_in facts)) content after (e.others 18 (λ is. omega (arith, is))) a.ranges;
  entries = entries_stay facts (fact.Reply reply ∷ facts) content after (e.others 9 (λ is. omega (arith, is))) (λ meter. refl) a.entries;
  voids = stay entry_tree.voids voided_columns (map voided (voids_in facts)) content after (e.others 20 (λ is. omega (arith, is))) a.voids;
  polls = stay poll_tree.polls poll_columns (map started (polls_in facts)) content after (e.others 11 (λ is. omega (arith, is))) a.polls;
  holds = stay poll_tree.holds hold_columns (placed held_row (holds_in facts)) content after (e.others 12 (λ is. omega (arith, is))) a.holds;
  outcomes = stay poll_tree.outcomes outcome_columns (map outcome_row (ended_in facts)) content after (e.others 13 (λ is. omega (arith, is))) a.outcomes;
  intervals = intervals_stay facts (fact.Reply reply ∷ facts) content after (e.others 14 (λ is. omega (arith, is))) (λ meter. refl) a.intervals;
  replies = e.rows (map kept (replies_in facts)) a.replies;
}

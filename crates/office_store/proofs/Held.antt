-- Proofs that the store's SQL tables encode all of the store's records after a rejected reading was
-- recorded.
use Rattle.std.proofs.Common.{◌≡◌, ℕ, ◌+◌, List, [], ◌∷◌, map, length, Option, Some, None, refl, sym, ap, subst, ◌∙◌, IsPermutation, arith}
use Rattle.office_events.specs.declared.facts.Opening.{Opening}
use Rattle.office_events.specs.declared.facts.HeldReading.{HeldReading}
use Rattle.office_events.specs.declared.facts.Fact.{Fact}
use Rattle.office_events.specs.declared.facts.Fact.TheVariants as fact
use Rattle.office_books.specs.Facts.{devices_in, registers_in, openings_in, opening_of, holds_in, voids_in, replies_in, polls_in, ended_in}
use Rattle.office_books.specs.Intervals.{rows_of_installed, rows_of_meter}
use Rattle.office_books.specs.Steps.{Stays, HoldsChangeNothing}
use Rattle.store_tables.specs.Answer.{every}
use Rattle.store_tables.specs.Content.{Content, HasRows, Edits, with_row}
use Rattle.store_tables.specs.Devices.Trees as list_tree
use Rattle.store_tables.specs.Devices.Rows.{device_columns, register_columns}
use Rattle.store_tables.specs.Meters.Trees as meter_tree
use Rattle.store_tables.specs.Meters.Rows.{installed_columns, ranged_columns}
use Rattle.store_tables.specs.Entries.Trees as entry_tree
use Rattle.store_tables.specs.Entries.Rows.{voided_columns}
use Rattle.office_store.specs.Intervals.Trees as interval_tree
use Rattle.store_tables.specs.Polls.Trees as poll_tree
use Rattle.store_tables.specs.Polls.Rows.{Held, poll_columns, outcome_columns, hold_columns, hold_place, reply_columns}
use Rattle.office_store.specs.Rows.{placed, added, registered, installed_as, installed_row, ranged, voided, started, outcome_row, held_row, kept, entered_rows, entries_at, entries_of}
use Rattle.office_store.specs.Tables.{meta_tree, meta_columns, AreOf}
use Rattle.office_store.specs.Recording.{Records, IsAfter}
use Rattle.office_store.proofs.Placed.{last_counts}
use Rattle.office_store.proofs.Recorded.{stay, points_stay, entries_stay, intervals_stay}

-- Lemmas: if a record (such as a rejected reading) changes no meter, the rows that encode meters
-- also encode the meters after this record.
module _ (f : Fact) (facts : List Fact) (stays : (o : Opening) → Stays f facts o) where
  entries_same : (found : Option Opening) → entries_at (f ∷ facts) found ≡ entries_at facts found
  entries_same None = refl
  entries_same (Some o) = ap (entered_rows o) (stays o).rows

  intervals_same : (found : Option Opening) → rows_of_installed (f ∷ facts) found ≡ rows_of_installed facts found
  intervals_same None = refl
  intervals_same (Some o) = (stays o).intervals

  installed_same : (openings : List Opening) → placed (installed_row (f ∷ facts)) openings ≡ placed (installed_row facts) openings
  installed_same openings = λ i. placed (λ place o. installed_as place ((stays o).installation i)) openings

-- If the row of a new rejected reading gets the index after the last row of `holds`, the tables
-- encode the reading.
pub hold_recorded : HoldsChangeNothing → (reading : HeldReading) (place : ℕ) (content after : Content) → IsAfter poll_tree.holds hold_columns every hold_place place content
    → Edits poll_tree.holds hold_columns (with_row (held_row place reading)) content after → Records (fact.Hold reading) content after
hold_recorded law reading place content after following e zone facts a lawful =
    let f = fact.Hold reading in
    let stays = λ (o : Opening). law reading facts o in
    record {
      lawful = lawful;
      meta = stay meta_tree meta_columns (zone ∷ []) content after (e.others 0 (λ is. omega (arith, is))) a.meta;
      devices = stay list_tree.devices device_columns (placed added (devices_in facts)) content after (e.others 1 (λ is. omega (arith, is))) a.devices;
      points = points_stay facts (f ∷ facts) content after (e.others 3 (λ is. omega (arith, is))) (λ device. refl) a.points;
      registers = stay list_tree.registers register_columns (placed registered (registers_in facts)) content after (e.others 5 (λ is. omega (arith, is))) a.registers;
      installations = subst (λ rows. HasRows meter_tree.installations installed_columns rows after) (sym (installed_same f facts stays (openings_in facts)))
          (stay meter_tree.installations installed_columns (placed (installed_row facts) (openings_in facts)) content after (e.others 7 (λ is. omega (arith, is))) a.installations);
      ranges = stay meter_tree.ranges ranged_columns (map ranged (openings_in facts)) content after (e.others 18 (λ is. omega (arith, is))) a.ranges;
      entries = entries_stay facts (f ∷ facts) content after (e.others 9 (λ is. omega (arith, is))) (λ meter. entries_same f facts stays (opening_of facts meter)) a.entries;
      voids = stay entry_tree.voids voided_columns (map voided (voids_in facts)) content after (e.others 20 (λ is. omega (arith, is))) a.voids;
      polls = stay poll_tree.polls poll_columns (map started (polls_in facts)) content after (e.others 11 (λ is. omega (arith, is))) a.polls;
      holds =
          let hs = holds_in facts in
          let it = following (placed held_row hs) a.holds in
          let count : place ≡ length hs + 1 = it.1 ∙ last_counts held_row hold_place (λ place h. refl) hs it.0 it.2 in
          subst (λ n. HasRows poll_tree.holds hold_columns (held_row n reading ∷ placed held_row hs) after) count (e.rows (placed held_row hs) a.holds);
      outcomes = stay poll_tree.outcomes outcome_columns (map outcome_row (ended_in facts)) content after (e.others 13 (λ is. omega (arith, is))) a.outcomes;
      intervals = intervals_stay facts (f ∷ facts) content after (e.others 14 (λ is. omega (arith, is))) (λ meter. intervals_same f facts stays (opening_of facts meter)) a.intervals;
      replies = stay poll_tree.replies reply_columns (map kept (replies_in facts)) content after (e.others 16 (λ is. omega (arith, is))) a.replies;
    }

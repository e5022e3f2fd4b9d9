-- Proofs that queries in sequence find a meter entry, and the entries before and after this entry.
use Rattle.std.proofs.Common.{◌≡◌, ℕ, List, Option, Some, Ok, Err, Result, subst, ◌∙◌}
use Rattle.sqlite.specs.State.{State}
use Rattle.store_tables.specs.declared.faults.RowFault.{RowFault}
use Rattle.store_tables.specs.Answer.{IsFound}
use Rattle.store_tables.specs.Content.{Content}
use Rattle.store_tables.specs.Entries.Rows.{Entered, entry_columns, voided_columns, is_entry, IsRow}
use Rattle.store_tables.specs.Entries.Trees.{entries, voids}
use Rattle.store_tables.specs.declared.entries.rows.EntryRow.{EntryRow}
use Rattle.office_store.specs.Going.{Goes, Reported}
use Rattle.office_store.proofs.GoingLemmas.{goes_then, then_failed, reported_less}
use Rattle.office_store.specs.Voids.Places.{ReportsOf, IsBefore, IsAfter}
use Rattle.office_store.specs.declared.bookings.meter_state.Standing.{Standing}
use Rattle.office_store.specs.declared.bookings.surroundings.Neighbours.{Neighbours}
use Rattle.office_store.specs.declared.bookings.surroundings.Surroundings.{Surroundings}
use Rattle.office_store.specs.Bookings.MeterState.{IsStanding}
use Rattle.office_store.specs.Bookings.Places.{Answered}
use Rattle.office_store.specs.Bookings.Surroundings.{HasEntry, StandsBefore, StandsAfter, FindsEntry, FindsBefore, FindsAfter, AreNear, OpenedAt, IsAround}

-- If a query changes nothing, every property that the tables have after the query also holds before
-- the query.
pub earlier : (P : Content → Type 0) (content after : Content) → after ≡ content → P after → P content
earlier P content after same holds = subst P same holds

module _ (meter : List ℕ) where
  -- True if a query changed nothing, and its answer is the meter's entry at the index `place`. The
  -- answer None means that the meter has no entry at this index.
  abbrev pub Asks : (place : ℕ) → Option EntryRow → Content → Content → Type 0
  Asks place found = Reported entries entry_columns (IsFound (is_entry meter place) IsRow) found

  pub found_there : (place : ℕ) (a b : State) (found : Option EntryRow) (entry : EntryRow) → found ≡ Some entry → Goes {X = Option EntryRow} {E = RowFault} a b (Ok found) (Asks place found)
      → Goes {X = EntryRow} {E = RowFault} a b (Ok entry) (FindsEntry meter place entry)
  found_there place a b found entry is goes =
      reported_less {D = RowFault} a b found entry (Asks place found) (FindsEntry meter place entry)
      (λ content after (reported : Asks place found content after). record { same = reported.same; there = λ rows has. subst (λ (f : Option EntryRow). IsFound (is_entry meter place) IsRow rows f) is (reported.answers rows has) }) goes

  -- One query of the table `voids` finds the last index before `place` (an index of a meter's
  -- entries) whose entry is not voided (cancelled). A second query reads the entry at this index.
  -- Together the two queries find this entry.
  pub found_before : (place at : ℕ) (a b c : State) (r : Result EntryRow RowFault) → Goes {X = ℕ} {E = RowFault} a b (Ok at) (Reported voids voided_columns (IsBefore meter place) at)
      → Goes b c r (Answered r (FindsEntry meter at)) → Goes a c r (Answered r (FindsBefore meter place))
  found_before place at a b c (Err e) one two = then_failed a b c at e e (Reported voids voided_columns (IsBefore meter place) at) (Answered (Err e) (FindsEntry meter at)) (Answered (Err e) (FindsBefore meter place)) one two
  found_before place at a b c (Ok entry) one two =
      goes_then a b c at (Ok entry) (Reported voids voided_columns (IsBefore meter place) at) (FindsEntry meter at entry) (FindsBefore meter place entry) one two
      (λ before mid after (reported : Reported voids voided_columns (IsBefore meter place) at before mid) (finds : FindsEntry meter at entry mid after). record {
        same = finds.same ∙ reported.same;
        at = at;
        stands = reported.answers;
        there = earlier (HasEntry meter at (Some entry)) before mid reported.same finds.there;
      })

  pub found_after : (place at : ℕ) (a b c : State) (r : Result (Option EntryRow) RowFault) → Goes {X = ℕ} {E = RowFault} a b (Ok at) (Reported voids voided_columns (IsAfter meter place) at)
      → Goes b c r (ReportsOf r entries entry_columns (IsFound (is_entry meter at) IsRow)) → Goes a c r (Answered r (FindsAfter meter place))
  found_after place at a b c (Err e) one two =
      then_failed a b c at e e (Reported voids voided_columns (IsAfter meter place) at) (ReportsOf {X = Entered} {A = Option EntryRow} (Err e) entries entry_columns (IsFound (is_entry meter at) IsRow)) (Answered (Err e) (FindsAfter meter place)) one two
  found_after place at a b c (Ok found) one two =
      goes_then a b c at (Ok found) (Reported voids voided_columns (IsAfter meter place) at) (Asks at found) (FindsAfter meter place found) one two
      (λ before mid after (reported : Reported voids voided_columns (IsAfter meter place) at before mid) (asked : Asks at found mid after). record {
        same = asked.same ∙ reported.same;
        at = at;
        stands = reported.answers;
        there = earlier (HasEntry meter at found) before mid reported.same asked.answers;
      })

  -- Three queries together find a meter entry, and the nearest entries before and after it that are
  -- not voided (cancelled).
  pub nearby : (place : ℕ) (near : Neighbours) (before : Content) (mid : Content) (late : Content) (after : Content) → FindsEntry meter place near.entry before mid → FindsBefore meter place near.before mid late
      → FindsAfter meter place near.next late after → AreNear meter place near before after
  nearby place near before mid late after entry lower higher = record {
    entry = record { same = all; there = entry.there };
    before = record { same = all; at = lower.at; stands = earlier (StandsBefore meter place lower.at) before mid entry.same lower.stands; there = earlier (HasEntry meter lower.at (Some near.before)) before mid entry.same lower.there };
    next = record { same = all; at = higher.at; stands = earlier (StandsAfter meter place higher.at) before late two higher.stands; there = earlier (HasEntry meter higher.at near.next) before late two higher.there };
  }
    where
      two : late ≡ before
      two = lower.same ∙ entry.same

      all : after ≡ before
      all = higher.same ∙ two

  standing_later : (standing : Standing) (content mid after : Content) → after ≡ mid → IsStanding meter standing content mid → IsStanding meter standing content after
  standing_later standing content mid after same is = record { same = same ∙ is.same; following = is.following; last = is.last; range = is.range }

  -- Suppose that queries find a meter's state, the time of its first entry, and an entry with the
  -- nearest entries that are not voided. Together the answers are all data that voiding
  -- (cancelling) this entry needs.
  pub around : (place : ℕ) (found : Surroundings) (before : Content) (mid : Content) (late : Content) (after : Content) → IsStanding meter found.standing before mid → OpenedAt meter found.opened mid late
      → AreNear meter place found.near late after → IsAround meter place found before after
  around place found before mid late after standing opened near = record {
    standing = standing_later found.standing before mid after (near.entry.same ∙ opened.finds.same) standing;
    opened = record {
      opening = opened.opening;
      moment = opened.moment;
      finds = record { same = all; there = earlier (HasEntry meter 1 (Some opened.opening)) before mid standing.same opened.finds.there };
    };
    near = record {
      entry = record { same = all; there = earlier (HasEntry meter place (Some found.near.entry)) before late two near.entry.there };
      before = record {
        same = all;
        at = near.before.at;
        stands = earlier (StandsBefore meter place near.before.at) before late two near.before.stands;
        there = earlier (HasEntry meter near.before.at (Some found.near.before)) before late two near.before.there;
      };
      next = record {
        same = all;
        at = near.next.at;
        stands = earlier (StandsAfter meter place near.next.at) before late two near.next.stands;
        there = earlier (HasEntry meter near.next.at found.near.next) before late two near.next.there;
      };
    };
  }
    where
      two : late ≡ before
      two = opened.finds.same ∙ standing.same

      all : after ≡ before
      all = near.entry.same ∙ two

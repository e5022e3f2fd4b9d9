-- Proofs that the rows of the table `holds` for a meter are the meter's rejected readings, the
-- latest first.
use Rattle.std.proofs.Common.{◌≡◌, ℕ, ◌+◌, ◌≤◌, ◌&&◌, min, nat_le, nat_lt, Bool, true, false, cond, List, [], ◌∷◌, map, filter, reverse, length, refl, sym, ap, ap₂, ◌∙◌}
use Rattle.std.specs.List.{AllByRecursion}
use Rattle.sqlite_keyed.proofs.ListLemmas.{all_of, all-filter, filter-map, filter_all, ascending-filter}
use Rattle.office_events.specs.declared.facts.HeldReading.{HeldReading}
use Rattle.office_events.specs.declared.facts.Fact.{Fact}
use Rattle.office_events.specs.declared.facts.Fact.TheVariants as fact
use Rattle.office_books.specs.Facts.{same, holds_in}
use Rattle.office_books.specs.Lawful.{AreLawful}
use Rattle.office_books.proofs.Lookups.{same_text}
use Rattle.office_books.proofs.Lists.{map_reverse, filter_reverse}
use Rattle.office_books.specs.declared.spans.Span.TheVariants.{All, Between}
use Rattle.office_books.specs.Holds.{holds_of, holds_within}
use Rattle.store_tables.specs.Limits.{latest_moment}
use Rattle.store_tables.specs.Polls.Rows.{Held, hold_place}
use Rattle.office_store.specs.Rows.{placed, held_row}
use Rattle.office_store.specs.Holds.{IsSoundReading, reading_of, is_of, is_between, AreReadingsOf, AreReadingsBetween, AreSoundHolds}
use Rattle.office_store.proofs.FindingLemmas.Rows.{all_reverse, in_turn, placed_falls}
use Rattle.office_store.proofs.MeteringLemmas.Spans.{one_by_one, bounded_rows}

-- If the numbers of all rejected readings are in their ranges, all rows of `holds` can be read.
pub all_sound : (hs : List HeldReading) → AllByRecursion IsSoundReading hs → AreSoundHolds (placed held_row hs)
all_sound [] sound = tt
all_sound (h ∷ hs) sound = (sound.0, all_sound hs sound.1)

-- True if the timestamp of a rejected reading is not later than the latest timestamp that the store
-- allows.
abbrev InTime : HeldReading → Type 0
InTime h = h.at ≤ latest_moment

held_in_time : (facts : List Fact) → AreLawful facts → AllByRecursion InTime (holds_in facts)
held_in_time [] lawful = tt
held_in_time (fact.Hold h ∷ facts) lawful = (lawful.0.1, held_in_time facts lawful.1)
held_in_time (fact.Device x ∷ facts) lawful = held_in_time facts lawful.1
held_in_time (fact.List x ∷ facts) lawful = held_in_time facts lawful.1
held_in_time (fact.Register x ∷ facts) lawful = held_in_time facts lawful.1
held_in_time (fact.Opening x ∷ facts) lawful = held_in_time facts lawful.1
held_in_time (fact.Entry x ∷ facts) lawful = held_in_time facts lawful.1
held_in_time (fact.Void x ∷ facts) lawful = held_in_time facts lawful.1
held_in_time (fact.Poll x ∷ facts) lawful = held_in_time facts lawful.1
held_in_time (fact.Outcome x ∷ facts) lawful = held_in_time facts lawful.1
held_in_time (fact.Reply x ∷ facts) lawful = held_in_time facts lawful.1

-- Lemmas that the rows of `holds` for a meter encode the meter's rejected readings.

module _ (meter : List ℕ) where
  abbrev of_it : HeldReading → Bool
  of_it h = same h.meter meter

  named : (h : HeldReading) (place : ℕ) → h.meter ≡ meter → reading_of meter (held_row place h) ≡ h
  named h place is = ap (λ (m : List ℕ). let r : HeldReading = record { meter = m; poll = h.poll; at = h.at; raw = h.raw; sf = h.sf; cause = h.cause } in r) (sym is)

  one_more : (b : Bool) (h : HeldReading) (place : ℕ) (rows : List Held) (hs : List HeldReading) → of_it h ≡ b → map (reading_of meter) rows ≡ hs
      → map (reading_of meter) (cond b (held_row place h ∷ rows) rows) ≡ cond b (h ∷ hs) hs
  one_more true h place rows hs is rest = ap₂ ◌∷◌ (named h place (same_text h.meter meter is)) rest
  one_more false h place rows hs is rest = rest

  -- The rows of `holds` for a meter are its rejected readings, the latest first.
  readings_back : (hs : List HeldReading) → map (reading_of meter) (filter (is_of meter) (placed held_row hs)) ≡ filter of_it hs
  readings_back [] = refl
  readings_back (h ∷ hs) = one_more (of_it h) h (length hs + 1) (filter (is_of meter) (placed held_row hs)) (filter of_it hs) refl (readings_back hs)

  pub of_meter : (facts : List Fact) (all : List HeldReading) → AreReadingsOf meter (placed held_row (holds_in facts)) all → all ≡ holds_within All (holds_of facts meter)
  of_meter facts all h =
      let rows = placed held_row (holds_in facts) in
      let here = in_turn hold_place (filter (is_of meter) rows) h.0 (ascending-filter _ (is_of meter) rows (placed_falls held_row hold_place (λ place o. refl) (holds_in facts))) h.1.all h.1.order in
      h.2 ∙ ap (map (reading_of meter)) here ∙ map_reverse (reading_of meter) (filter (is_of meter) rows) ∙ ap reverse (readings_back (holds_in facts))
      ∙ sym (filter_all (λ (r : HeldReading). true) (holds_of facts meter) (all_of (λ (r : HeldReading). true ≡ true) (λ r. refl) (holds_of facts meter)))

  module _ (facts : List Fact) (lawful : AreLawful facts) (from till low high : ℕ) (low_is : low ≡ min from (latest_moment + 1)) (high_is : high ≡ min till (latest_moment + 1)) where
    abbrev bounded : HeldReading → Bool
    bounded r = nat_le low r.at && nat_lt r.at high

    of_it_in_time : AllByRecursion InTime (holds_of facts meter)
    of_it_in_time = all_reverse InTime (filter of_it (holds_in facts)) (all-filter InTime of_it (holds_in facts) (held_in_time facts lawful))

    between_back : map (reading_of meter) (filter (λ h. is_of meter h && is_between low high h) (placed held_row (holds_in facts))) ≡ filter bounded (filter of_it (holds_in facts))
    between_back =
        let rows = placed held_row (holds_in facts) in
        ap (map (reading_of meter)) (one_by_one (is_of meter) (is_between low high) rows)
        ∙ sym (filter-map bounded (reading_of meter) (filter (is_of meter) rows))
        ∙ ap (filter bounded) (readings_back (holds_in facts))

    pub of_meter_between : (all : List HeldReading) → AreReadingsBetween meter low high (placed held_row (holds_in facts)) all → all ≡ holds_within (Between from till) (holds_of facts meter)
    of_meter_between all h =
        let rows = placed held_row (holds_in facts) in
        let asked : Held → Bool = λ x. is_of meter x && is_between low high x in
        let here = in_turn hold_place (filter asked rows) h.0 (ascending-filter _ asked rows (placed_falls held_row hold_place (λ place o. refl) (holds_in facts))) h.1.all h.1.order in
        h.2 ∙ ap (map (reading_of meter)) here ∙ map_reverse (reading_of meter) (filter asked rows) ∙ ap reverse between_back
        ∙ sym (filter_reverse bounded (filter of_it (holds_in facts)))
        ∙ bounded_rows (λ (r : HeldReading). r.at) from till low high low_is high_is (holds_of facts meter) of_it_in_time

-- The item that a meter's journal (history) has at a sequence number. Number 1 is the opening,
-- which installs the meter, and the entries have the numbers from 2.
use Rattle.std.specs.Prelude.{◌≡◌, ℕ, Bool, true, false, not, List, Option, Some, None, is_some}
use Rattle.std.specs.List.{find}
use Rattle.std.specs.Option.{option_and_then}
use Rattle.energy_core.specs.declared.verdicts.Cause.TheVariants as cause
use Rattle.office_events.specs.declared.facts.Fact.{Fact}
use Rattle.office_events.specs.declared.questions.EntryContext.{EntryContext}
use Rattle.office_events.specs.declared.refusals.Refusal.{Refusal}
use Rattle.office_events.specs.declared.refusals.Refusal.TheVariants as refusal
use Rattle.office_books.specs.Facts.{opening_of}
use Rattle.office_books.specs.Meters.{entry_at}
use Rattle.office_books.specs.Refusals.{has_place, is_not_voidable, is_held_for, verdict_at, reasons}
use Rattle.office_books.specs.Ranges.{IsSound}
use Rattle.office_core.specs.declared.refusing.arrivals.Arrival.{Arrival}
use Rattle.office_core.specs.declared.refusing.voids.Spot.{Spot}
use Rattle.office_core.specs.declared.refusing.voids.Spot.TheVariants as spot
use Rattle.office_core.specs.Refusing.Reasons.{comes_wrongly}

-- True if no item of the meter's journal (history) has the sequence number: neither the opening
-- (first entry) nor a later entry.
abbrev pub is_nothing : Spot → Bool
is_nothing spot.Nothing = true
is_nothing spot.Opening = false
is_nothing (spot.Entry place) = false

-- The meter's entry at the sequence number, or `None` for the opening (number 1) and for a missing
-- entry.
abbrev pub entry_in : Spot → Option EntryContext
entry_in spot.Nothing = None
entry_in spot.Opening = None
entry_in (spot.Entry place) = Some place

-- True if a void (cancellation) of the given entry would cause the next entry to be rejected. The
-- reason is that the meter's total energy would exceed its limit.
abbrev pub is_full : Option EntryContext → Bool
is_full found = is_held_for cause.TotalFull (verdict_at found)

-- True if voids (cancellations) of the two entries have the same result. Both entries exist or
-- neither does, both can be voided or neither can, and the next entry gets the same verdict.
pub record IsJudgedAs (own found : Option EntryContext) : Type 0 where
  pub there : is_some found ≡ is_some own
  pub voidable : is_not_voidable found ≡ is_not_voidable own
  pub verdict : verdict_at found ≡ verdict_at own

-- True if a void (cancellation) of the item `found` has the same result as a void of the meter's
-- item at the sequence number `place`. The two items may differ in other respects.
pub record IsAt (facts : List Fact) (meter : Option (List ℕ)) (place : ℕ)
    (found : Spot) : Type 0 where
  pub there : is_nothing found
      ≡ not (has_place facts place (option_and_then (opening_of facts) meter))
  pub voidable : is_not_voidable (entry_in found)
      ≡ is_not_voidable (option_and_then (λ m. entry_at facts m place) meter)
  pub verdict : verdict_at (entry_in found)
      ≡ verdict_at (option_and_then (λ m. entry_at facts m place) meter)

-- True if all numbers in the state that the meter had before the given entry are in range. Also
-- true for the opening (first entry) and for a missing entry.
abbrev pub IsSoundSpot : Spot → Type 0
IsSoundSpot (spot.Entry place) = IsSound place.before
IsSoundSpot _ = Unit {0}

-- True if the given reason to refuse applies to a void (cancellation) of the given item of a
-- meter's journal (history).
abbrev pub speaks_of_void : Arrival → Spot → Refusal → Bool
speaks_of_void arrival found refusal.NotFound = is_nothing found
speaks_of_void arrival found refusal.NotVoidable = is_not_voidable (entry_in found)
speaks_of_void arrival found (refusal.NotPlausible why) =
    is_held_for why (verdict_at (entry_in found))
speaks_of_void arrival found why = comes_wrongly arrival why

-- The first reason to refuse a void (cancellation) of what a meter has at a sequence number:
-- nothing, its opening (first entry) or a later entry. `None` if no reason applies.
abbrev pub void_refusal : Arrival → Spot → Option Refusal
void_refusal arrival found = find (speaks_of_void arrival found) reasons

-- True if the given reason to refuse applies to a void (cancellation) of the entry, regardless of
-- the timestamp of the void.
abbrev pub speaks_of_strike : EntryContext → Refusal → Bool
speaks_of_strike place refusal.NotVoidable = is_not_voidable (Some place)
speaks_of_strike place (refusal.NotPlausible why) = is_held_for why (verdict_at (Some place))
speaks_of_strike place why = false

-- The first reason to refuse a void (cancellation) of the entry, or `None` if the entry can be
-- voided.
abbrev pub strike_refusal : EntryContext → Option Refusal
strike_refusal place = find (speaks_of_strike place) reasons

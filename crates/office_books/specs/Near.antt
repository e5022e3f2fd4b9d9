-- The lookup of a meter's entry that reads only the rows around the entry. The result has the
-- meter's present total energy instead of the energy before the entry.
use Rattle.std.specs.Prelude.{◌≡◌, ℕ, ◌≤◌, List, Option, Some}
use Rattle.std.specs.Option.{option_map, option_and_then}
use Rattle.office_events.specs.declared.facts.Fact.{Fact}
use Rattle.office_events.specs.declared.questions.Installation.{Installation}
use Rattle.office_events.specs.declared.questions.EntryContext.{EntryContext}
use Rattle.office_books.specs.Meters.{meter_of, entry_at}

-- The entry and its neighbors, where `mwh` (in mWh) replaces the energy of the meter before the
-- entry.
abbrev pub with_energy : (mwh : ℕ) → EntryContext → EntryContext
with_energy mwh place = record place { before = record place.before { total = mwh } }

-- The entry of a meter with the sequence number `place`. The state before the entry contains the
-- meter's present total energy, so that earlier entries need not be added up.
abbrev pub entry_near : List Fact → (meter : List ℕ) → (place : ℕ) → Option EntryContext
entry_near facts meter place =
    option_and_then
    (λ (whole : Installation). option_map (with_energy whole.total) (entry_at facts meter place))
    (meter_of facts meter)

-- True if the energy of the meter before the entry with the sequence number `place` is at most the
-- meter's present total energy.
abbrev pub IsWithinWhole : List Fact → (meter : List ℕ) → (place : ℕ) → Type 0
IsWithinWhole facts meter place = (whole : Installation) (found : EntryContext)
    → meter_of facts meter ≡ Some whole
    → entry_at facts meter place ≡ Some found
    → found.before.total ≤ whole.total

-- The guarantees of the lookup of an entry from nearby rows. The lookup returns the entry with the
-- meter's present total energy, which is at least the energy before the entry.
pub record ReportsNear (facts : List Fact) (meter : List ℕ) (place : ℕ) (found : Option EntryContext) :
    Type 0 where
  pub near : found ≡ entry_near facts meter place
  pub within : IsWithinWhole facts meter place

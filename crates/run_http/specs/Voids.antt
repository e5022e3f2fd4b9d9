-- Defines the voided entries of a meter: entries that were withdrawn as false. They stay in the
-- store and no longer count.
use Rattle.std.specs.Prelude.{ℕ, Bool, false, not, List, filter, Option, Some}
use Rattle.std.specs.Option.{option_map, option_and_then}
use Rattle.office_events.specs.declared.facts.Fact.{Fact}
use Rattle.office_books.specs.Facts.{opening_of}
use Rattle.office_books.specs.declared.entries.MeterEntry.{MeterEntry}
use Rattle.office_books.specs.declared.entries.MeterEntry.TheVariants.{Opening, Later}
use Rattle.office_books.specs.Entries.{entries_at}

-- True if the meter entry is voided (withdrawn as false). The opening entry, which installs the
-- meter, cannot be voided.
abbrev pub is_voided : MeterEntry → Bool
is_voided (Opening last) = false
is_voided (Later row sf) = not row.stands

-- The voided meter entries in a list of meter entries, in order.
abbrev pub voided_in : List MeterEntry → List MeterEntry
voided_in entries = filter is_voided entries

-- The voided (withdrawn) entries of the meter with this name. None if no meter has the name.
abbrev pub voids_of : List Fact → (meter : Option (List ℕ)) → Option (List MeterEntry)
voids_of facts meter =
    option_map (λ opening. voided_in (entries_at facts (Some opening)))
    (option_and_then (opening_of facts) meter)

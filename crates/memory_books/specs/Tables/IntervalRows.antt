-- Quarter-hour rows that are passed one by one to a sink, which is a visitor of rows. A row is
-- passed when no further energy of its quarter hour can follow.
use Rattle.std.specs.Prelude.{◌≡◌, ℕ, List, [], ◌∷◌, ◌++◌, Option, None}
use Rattle.std.specs.List.{filter_map, flat_map}
use Rattle.std.specs.Option.{option_to_list}
use Rattle.interval_core.specs.declared.shares.Share.{Share}
use Rattle.meter_journal.specs.declared.lines.EntryRow.{EntryRow}
use Rattle.meter_journal.specs.declared.lines.Installed.{Installed}
use Rattle.meter_journal.specs.Books.{HasAccount, steps_after}
use Rattle.meter_journal.specs.Intervals.{rows_of_steps, with_shares}
use Rattle.meter_journal.specs.Journal.{entries_in}
use Rattle.meter_journal.specs.Lists.{latest_first}
use Rattle.office_books.specs.declared.spans.Span.{Span}
use Rattle.office_books.specs.Rows.{TakesAll}
use Rattle.office_books.specs.Spans.{rows_within}
use Rattle.office_events.specs.declared.facts.Fact.{Fact}
use Rattle.office_books.specs.Intervals.{rows_of_opening}
use Rattle.memory_books.specs.Tables.Lookups.{opening_at}

-- True if the sink (a consumer of rows) received all of these quarter-hour rows except the last
-- row. The last row is kept back, because more energy may be added to it.
pub record TookBut {S : Type 0} (takes : S → Share → S → Type 0) (before after : S)
    (waits : Option Share) (rows : List Share) : Type 0 where
  pub done : List Share
  pub took : TakesAll takes before done after
  pub rows_are : rows ≡ done ++ option_to_list waits
  pub none : waits ≡ None → rows ≡ []

-- The effect of further quarter-hour energies on a sink (a consumer of rows) that receives
-- quarter-hour rows. The sink receives each finished row. The last row is kept back, because more
-- energy may be added to it.
pub record Passes {S : Type 0} (takes : S → Share → S → Type 0) (before after : S)
    (waited waits : Option Share) (shares : List Share) : Type 0 where
  pub done : List Share
  pub took : TakesAll takes before done after
  pub rows_are : done ++ option_to_list waits ≡ with_shares (option_to_list waited) shares
  pub none : waits ≡ None → (waited ≡ None) × (shares ≡ [])

-- The quarter-hour rows of the meters whose installations have these indices in the list of
-- records, one meter after another.
abbrev pub rows_at : (known facts : List Fact) → (places : List ℕ) → List Share
rows_at known facts places = flat_map (rows_of_opening known) (filter_map (opening_at facts) places)

-- True if the sink (a consumer of rows) changed only by receiving quarter-hour rows.
abbrev pub TakesSome : {S : Type 0} → (takes : S → Share → S → Type 0) → (before after : S) → Type 0
TakesSome takes before after = (rows : List Share) × TakesAll takes before rows after

-- True if the sink (a consumer of rows) received the row, or if the row's quarter hour is outside
-- the time span and the sink is unchanged.
abbrev pub TakesWithin : {S : Type 0} → (takes : S → Share → S → Type 0) → Span → (before : S)
    → Share → (after : S) → Type 0
TakesWithin takes span before row after = TakesAll takes before (rows_within span (row ∷ [])) after

-- States that, if the rules for meter entries accept the meter's valid entries one after another,
-- the sink (a consumer of rows) received the quarter-hour rows of the meter.
abbrev pub TakesRowsOf : {S : Type 0} → (takes : S → Share → S → Type 0) → (before : S)
    → Installed → List EntryRow → (after : S) → Type 0
TakesRowsOf takes before meter rows after =
    HasAccount meter (entries_in (latest_first rows))
    → TakesAll takes before (rows_of_steps (steps_after meter (entries_in (latest_first rows))))
    after

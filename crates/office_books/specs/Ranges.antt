-- The ranges of counter values, scale factors and energies of meters in lawful records, which the
-- rules for adding records accept one after another.
use Rattle.std.specs.Prelude.{◌≡◌, ℕ, ◌≤◌, ◌<◌, List, Some}
use Rattle.energy_core.specs.declared.limits.TheConstants.{MAX_CEILING, MAX_RANGE, MAX_TOTAL, MIN_RANGE}
use Rattle.energy_core.specs.Account.{IsScale}
use Rattle.office_events.specs.declared.facts.Opening.{Opening}
use Rattle.office_events.specs.declared.facts.Fact.{Fact}
use Rattle.office_events.specs.declared.questions.Installation.{Installation}
use Rattle.office_events.specs.declared.questions.EntryContext.{EntryContext}
use Rattle.office_books.specs.Lawful.{AreLawful}
use Rattle.office_books.specs.Meters.{installation_of, meter_of, installation_at, open_at, entry_at}
use Rattle.office_books.specs.Laws.{IsRecorded}

-- True if the range, ceiling (maximum power), count, scale factor and total energy of a meter's
-- state are in range. The next entry can then be judged without overflow.
pub record IsSound (row : Installation) : Type 0 where
  pub range : (MIN_RANGE ≤ row.opening.range) × (row.opening.range ≤ MAX_RANGE)
  pub ceiling : (1 ≤ row.opening.ceiling) × (row.opening.ceiling ≤ MAX_CEILING)
  pub raw : row.last.raw < row.opening.range
  pub scale : IsScale row.last.sf
  pub total : row.total ≤ MAX_TOTAL

-- True if the numbers of each recorded meter's state are in range (`IsSound`), now and before each
-- entry. The meter may be looked up by name or by accounting register (an energy counter).
pub record AreInRange (facts : List Fact) : Type 0 where
  pub recorded : (opening : Opening) → IsRecorded facts opening
      → IsSound (installation_of facts opening)
  pub by_name : (meter : List ℕ) (row : Installation) → meter_of facts meter ≡ Some row
      → IsSound row
  pub at_register : (register : List ℕ) (row : Installation)
      → installation_at facts register ≡ Some row → IsSound row
  pub unended : (register : List ℕ) (row : Installation) → open_at facts register ≡ Some row
      → IsSound row
  pub placed : (meter : List ℕ) (place : ℕ) (found : EntryContext)
      → entry_at facts meter place ≡ Some found
      → IsSound found.before

-- Theorem: suppose that the records follow the rules for adding records (`AreLawful`). Then each
-- meter's count, scale factor and total energy are in range (`AreInRange`), now and before each
-- entry.
abbrev pub InstallationsAreInRange : Type 0
InstallationsAreInRange = (facts : List Fact) → AreLawful facts → AreInRange facts

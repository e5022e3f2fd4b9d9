-- The state of a meter after the records of a pending write (records not yet stored).
use Rattle.std.specs.Prelude.{◌≡◌, ◌+◌, List, ◌++◌, reverse, Result, Ok, Err, if◌then◌else◌}
use Rattle.energy_core.specs.Admission.{entered}
use Rattle.energy_core.specs.declared.entries.Last.{Last}
use Rattle.energy_core.specs.declared.entries.Step.{Step}
use Rattle.energy_core.specs.declared.entries.Entry.{Entry}
use Rattle.energy_core.specs.declared.admission.TermFault.{TermFault}
use Rattle.office_events.specs.declared.facts.BookedEntry.{BookedEntry}
use Rattle.office_events.specs.declared.facts.Fact.{Fact}
use Rattle.office_events.specs.declared.facts.Fact.TheVariants as fact
use Rattle.office_events.specs.declared.questions.Installation.{Installation}
use Rattle.office_books.specs.Facts.{same}
use Rattle.office_books.specs.Meters.{installation_of}
use Rattle.office_books.specs.Lawful.{AreLawful}
use Rattle.office_books.specs.Laws.{IsRecorded}
use Rattle.office_core.specs.Settling.Drafts.{AreReported}

-- The state of a meter after a meter entry, given the result of checking the entry. An accepted
-- entry advances the counter and the energy. After a refused entry the state is unchanged.
abbrev pub with_result : Installation → Result (Last × Step) TermFault → Installation
with_result row (Ok entry) = record row { last = entry.0; total = row.total + entry.1.mwh }
with_result row (Err fault) = row

-- The state of a meter after one more entry (such as a reading) of this meter. If the rules for
-- meter entries do not accept the entry, the state is unchanged.
abbrev pub with_entry : Installation → Entry → Installation
with_entry row e = with_result row (entered row.opening.range row.total row.last e)

-- The state of a meter after a meter entry (such as a reading) of any meter. If the entry is of
-- another meter, the state is unchanged.
abbrev pub with_booked : BookedEntry → Installation → Installation
with_booked booked row =
    if same booked.meter row.opening.meter then with_entry row booked.entry else row

-- The state of a meter after one more record in the store. If the record is not an entry of this
-- meter, the state is unchanged.
abbrev pub installation_with : Fact → Installation → Installation
installation_with (fact.Entry booked) row = with_booked booked row
installation_with _ row = row

-- True if `row` is the state of its meter that follows from the records `facts`.
pub record IsIn (facts : List Fact) (row : Installation) : Type 0 where
  pub recorded : IsRecorded facts row.opening
  pub stands : row ≡ installation_of facts row.opening

-- True if the second state is the state of the given installed meter after the pending outcomes and
-- readings `facts` are recorded.
abbrev pub IsAfterFacts : Installation → (facts : List Fact) → Installation → Type 0
IsAfterFacts row facts following =
    (known : List Fact) → AreReported facts → AreLawful (reverse facts ++ known) → IsIn known row
    → following ≡ installation_of (reverse facts ++ known) row.opening

-- Guarantees of lookups of a meter's state. All numbers of the returned state are in range, even if
-- the store is damaged.
use Rattle.std.specs.Prelude.{◌≡◌, ◌≤◌, ◌<◌, ◌+◌, false, List, Option, Result, Ok, Err, IfOk, IfSome}
use Rattle.energy_core.specs.declared.limits.TheConstants.{MAX_CEILING, MAX_RANGE, MIN_RANGE}
use Rattle.energy_core.specs.declared.admission.TermFault.{TermFault}
use Rattle.energy_core.specs.declared.entries.Entry.{Entry}
use Rattle.energy_core.specs.declared.entries.Last.{Last}
use Rattle.energy_core.specs.declared.entries.Step.{Step}
use Rattle.energy_core.specs.Account.{IsScale, after, step_to}
use Rattle.energy_core.specs.Admission.{entered}
use Rattle.meter_journal.specs.declared.lines.EntryRow.{EntryRow}
use Rattle.meter_journal.specs.Books.{HasAccount}
use Rattle.meter_journal.specs.Journal.{entries_in}
use Rattle.meter_journal.specs.Lists.{latest_first}
use Rattle.office_events.specs.declared.facts.Opening.{Opening}
use Rattle.office_events.specs.declared.questions.Installation.{Installation}
use Rattle.office_events.specs.declared.questions.EntryContext.{EntryContext}
use Rattle.office_books.specs.Meters.{opened, installed}
use Rattle.office_books.specs.Ranges.{IsSound}
use Rattle.office_books.specs.declared.faults.BooksFault.{BooksFault}
use Rattle.office_books.specs.Ledgers.{Ledger, OnlyReads}

-- The state of a meter directly after its installation, with an energy of 0 mWh.
abbrev pub as_begun : Opening → Installation
as_begun opening = record { opening = opening; last = opened opening; total = 0; ended = false }

-- True if the range, the maximum power, the counter value and the scale factor of an opening
-- (installation record) are in range.
pub record HasNumbers (opening : Opening) : Type 0 where
  pub range : (MIN_RANGE ≤ opening.range) × (opening.range ≤ MAX_RANGE)
  pub ceiling : (1 ≤ opening.ceiling) × (opening.ceiling ≤ MAX_CEILING)
  pub raw : opening.raw < opening.range
  pub scale : IsScale opening.sf

-- True if the energy of a meter's valid (not voided) entries can be added up without a fault. The
-- rows are given oldest first.
abbrev pub HaveAccount : Opening → List EntryRow → Type 0
HaveAccount opening rows = HasAccount (installed opening) (entries_in (latest_first rows))

-- The guarantees of a lookup of a meter's state: it changes nothing, and returns only a state with
-- all numbers in range, even from a damaged store.
pub record ReadsInstallation (old new : Ledger) (result : Result (Option Installation) BooksFault) :
    Type 0 where
  pub reads : OnlyReads old new result
  pub sound : IfOk result (λ row. IfSome row IsSound)

-- The guarantees of a lookup of an entry: it changes nothing, and all numbers of the meter's state
-- before the entry are in range.
pub record ReadsPlace (old new : Ledger) (result : Result (Option EntryContext) BooksFault) : Type 0
  where
    pub reads : OnlyReads old new result
    pub sound : IfOk result (λ place. IfSome place (λ p. IsSound p.before))

-- True if the rules for meter entries accept the entry as the next entry of the given installed
-- meter, without a fault.
abbrev pub MayEnter : Installation → Entry → Type 0
MayEnter row e =
    entered row.opening.range row.total row.last e
    ≡ Ok (after row.last e, step_to row.opening.range row.last e)

-- States that, if the rules for meter entries accept the entry as the meter's next entry, `moved`
-- is the meter's state after it, with the energy of the entry added. States nothing otherwise.
abbrev pub MovesBy : Entry → (row moved : Installation) → Type 0
MovesBy e row moved =
    (last : Last) (step : Step) → entered row.opening.range row.total row.last e ≡ Ok (last, step)
    → (moved.last ≡ last) × (moved.total ≡ row.total + step.mwh)

-- States that, if the rules for meter entries do not accept the entry as the meter's next entry, it
-- leaves the meter's state unchanged. States nothing otherwise.
abbrev pub StaysAt : Entry → (row moved : Installation) → Type 0
StaysAt e row moved =
    (fault : TermFault) → entered row.opening.range row.total row.last e ≡ Err fault → moved ≡ row

-- The manual entries that need a confirmation: their energy exceeds what the meter's ceiling (its
-- greatest power) allows in the time since its last entry.
--
-- A manual entry can't be cancelled later. So an entry that needs a confirmation is recorded only
-- if its input line ends with the mark ` !`.
use Rattle.std.specs.Prelude.{◌≡◌, ◌⊎◌, ℕ, ◌-◌, ◌*◌, nat_lt, nat_le, Bool, not, ◌&&◌, List, Option, Some, None, is_some, Result, Ok, if◌then◌else◌}
use Rattle.std.specs.Option.{option_and_then}
use Rattle.energy_core.specs.Account.{moment_of, reached}
use Rattle.energy_core.specs.Value.{unit_of, value_of}
use Rattle.energy_core.specs.Verdict.{can_count}
use Rattle.energy_core.specs.declared.entries.Entry.{Entry}
use Rattle.office_events.specs.declared.commands.Command.{Command}
use Rattle.office_events.specs.declared.events.Asked.{Asked}
use Rattle.office_events.specs.declared.events.Event.{Event}
use Rattle.office_events.specs.declared.events.Event.TheVariants as event
use Rattle.office_events.specs.declared.facts.Fact.{Fact}
use Rattle.office_events.specs.declared.questions.Installation.{Installation}
use Rattle.office_events.specs.declared.refusals.Refusal.{Refusal}
use Rattle.office_books.specs.History.{History, corrected_at, facts_of, made_by}
use Rattle.office_books.specs.Meters.{open_at}
use Rattle.office_books.specs.Ledgers.{Ledger}
use Rattle.office_books.specs.Repeats.{repeat_of}
use Rattle.office_books.specs.declared.books.Repeat.{Repeat}
use Rattle.office_books.specs.declared.failures.Failures.{Failures}
use Rattle.office_core.specs.Failing.{FailsOutside}
use Rattle.office_core.specs.Standing.{After, Stands}
use Rattle.office_core.specs.Taking.{failures_of}
use Rattle.office_core.specs.declared.office.Office.{Office}
use Rattle.office_program.specs.Entering.Marks.{is_marked}

-- The next definitions say whether a meter's manual entry needs a confirmation. `up_to` is the
-- value that a counter without rollovers would have at the time of the entry.

-- True if the manual entry is later than the meter's last entry, and does not decrease the counter.
abbrev pub goes_on : Installation → (moment up_to : ℕ) → Bool
goes_on row moment up_to = nat_lt row.last.at moment && nat_le row.last.raw up_to

-- True if a load at the meter's ceiling (its greatest power) can advance the counter to `up_to` in
-- the time since the meter's last entry. The same rule rejects a meter's reading as too fast.
abbrev pub is_within_ceiling : Installation → (moment up_to : ℕ) → Bool
is_within_ceiling row moment up_to =
    can_count row.opening.ceiling (unit_of row.last.sf) (moment - row.last.at)
    (up_to - row.last.raw)

-- The energy that a meter entry would record, in mWh, as the function `energy_of` of the crate
-- energy_core computes it.
abbrev pub energy_by : Installation → (up_to : ℕ) → ℕ
energy_by row up_to = up_to * unit_of row.last.sf - value_of row.last

-- The energy that a manual entry would record, in mWh, if the entry needs a confirmation.
--
-- `None` if the energy is within what the meter's ceiling (its greatest power) allows. Also `None`
-- if the office (the event engine) refuses the entry anyway, because it is not later than the last
-- entry or decreases the counter.
abbrev pub doubted_up_to : Installation → (moment up_to : ℕ) → Option ℕ
doubted_up_to row moment up_to =
    if goes_on row moment up_to && not (is_within_ceiling row moment up_to)
    then Some (energy_by row up_to)
    else None

-- The energy in mWh that the manual entry would record for the meter `row`, if the entry needs a
-- confirmation. Otherwise `None`.
abbrev pub doubted_by : Installation → Entry → Option ℕ
doubted_by row e = doubted_up_to row (moment_of e) (reached row.opening.range e)

-- The next definitions say whether the manual entry in a request needs a confirmation.

-- The energy in mWh that the command's manual entry would record at the meter, if the entry needs a
-- confirmation. `None` if the entry needs no confirmation, or the command makes no entry.
abbrev pub doubted_at : (at : ℕ) → Command → Installation → Option ℕ
doubted_at at c row = option_and_then (λ made. doubted_by row made.entry) (made_by at row.last c)

-- The energy in mWh that the command's manual entry would record for the accounting register's open
-- meter (the meter that is not closed). `None` if the entry needs no confirmation.
abbrev pub doubted_in : List Fact → (at : ℕ) → Command → (register : Option (List ℕ)) → Option ℕ
doubted_in facts at c register =
    option_and_then (doubted_at at c) (option_and_then (open_at facts) register)

-- The comparison of a request with the stored request of the same key (caller and number), to
-- detect a retry. `None` if no request with this key is stored.
abbrev pub repeat_in : List Fact → Asked → Option Repeat
repeat_in facts asked =
    option_and_then (λ caller. repeat_of facts caller asked.number asked.request) asked.caller

-- The energy in mWh that a request would record, if its manual entry needs a confirmation.
--
-- `None` if the request's key is stored, its line has the mark ` !` (a confirmation), or its manual
-- entry is within the meter's ceiling (its greatest power). The stored bytes of the request include
-- the mark.
abbrev pub doubt_of : List Fact → (at : ℕ) → Asked → Option ℕ
doubt_of facts at asked =
    if is_some (repeat_in facts asked) then None
    else if is_marked asked.request then None
    else doubted_in facts at asked.command (corrected_at asked.command)

-- The energy in mWh that an event would record, if the event is a request whose manual entry needs
-- a confirmation. Otherwise `None`.
abbrev pub doubt_in : List Fact → (at : ℕ) → Event → Option ℕ
doubt_in facts at (event.Asked asked) = doubt_of facts at asked
doubt_in facts at _ = None

-- The next definitions give the event engine's answer to the query whether a manual entry needs a
-- confirmation.

-- True if the event engine answered whether a manual entry needs a confirmation, or refused the
-- query because of a failure. The engine's accepted events are still `past`, since a query records
-- nothing.
pub record IsDoubtReported {B : Type 0} (ledger : B → Ledger) (past : History) (before after : Failures)
    (office : Office B) (doubt : Option ℕ) (result : Result (Option ℕ) Refusal) : Type 0 where
  pub stands : Stands ledger past office
  pub reported : ((result ≡ Ok doubt) × (after ≡ before)) ⊎ FailsOutside ⊥ before after result

-- True if the event engine answered whether a manual entry needs a confirmation, from the records
-- of all accepted events.
abbrev pub ReportsDoubt : {B : Type 0} → (B → Ledger) → (old new : Office B)
    → Result (Option ℕ) Refusal → (List Fact → Option ℕ) → Type 0
ReportsDoubt ledger old new result doubt = After ledger old new (λ past.
    IsDoubtReported ledger past (failures_of ledger old) (failures_of ledger new) new
    (doubt (facts_of past)) result)

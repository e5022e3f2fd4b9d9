-- The reasons to refuse a meter entry (such as a reset or a closing) that a command adds to a
-- meter.
use Rattle.std.specs.Prelude.{◌≡◌, Bool, false, ◌||◌, Option, Some, None}
use Rattle.std.specs.List.{find}
use Rattle.energy_core.specs.declared.limits.TheConstants.{MAX_RANGE}
use Rattle.energy_core.specs.declared.entries.Entry.{Entry}
use Rattle.energy_core.specs.declared.admission.TermFault.{TermFault}
use Rattle.energy_core.specs.declared.admission.TermFault.TheVariants as fault
use Rattle.energy_core.specs.Account.{CanBeShown}
use Rattle.energy_core.specs.Admission as entering
use Rattle.office_events.specs.declared.questions.Installation.{Installation}
use Rattle.office_events.specs.declared.refusals.Refusal.{Refusal}
use Rattle.office_events.specs.declared.refusals.Refusal.TheVariants as refusal
use Rattle.office_books.specs.Meters.{if_open}
use Rattle.office_books.specs.Refusals.{reasons}
use Rattle.office_core.specs.declared.refusing.arrivals.Arrival.{Arrival}
use Rattle.office_core.specs.Refusing.Asking.{IsOfEvent}

-- True if the meter entry has the given fault when it follows the last entry of the installed
-- meter.
abbrev pub entry_has_fault : Installation → Entry → TermFault → Bool
entry_has_fault row e why = entering.refuses row.opening.range row.total row.last e why

-- True if the meter entry has the given fault at the installed meter. False if no meter is
-- installed.
abbrev pub is_faulty : Option Installation → Entry → TermFault → Bool
is_faulty None e why = false
is_faulty (Some row) e why = entry_has_fault row e why

-- True if the given reason to refuse applies to the meter entry that a command adds to the latest
-- meter of an accounting register (a named energy counter).
abbrev pub speaks_of_entry : Arrival → (off_scale off_limits : Bool) → Installation → Entry
    → Refusal → Bool
speaks_of_entry arrival off_scale off_limits row e refusal.ClockBack = arrival.is_back
speaks_of_entry arrival off_scale off_limits row e refusal.BadScale = off_scale
speaks_of_entry arrival off_scale off_limits row e refusal.NegativeStep =
    is_faulty (if_open row) e fault.NegativeStep
speaks_of_entry arrival off_scale off_limits row e refusal.NotLater =
    is_faulty (if_open row) e fault.NotLater
speaks_of_entry arrival off_scale off_limits row e refusal.SpanTooLong =
    is_faulty (if_open row) e fault.SpanTooLong
speaks_of_entry arrival off_scale off_limits row e refusal.TotalFull =
    is_faulty (if_open row) e fault.TotalFull
speaks_of_entry arrival off_scale off_limits row e refusal.Ended = row.ended
speaks_of_entry arrival off_scale off_limits row e refusal.Limit =
    arrival.is_beyond || off_limits || is_faulty (if_open row) e fault.NotBelowRange
speaks_of_entry arrival off_scale off_limits row e _ = false

-- The first reason to refuse the meter entry of a command, or `None` if no reason applies.
abbrev pub entry_refusal : Arrival → (off_scale off_limits : Bool) → Installation → Entry
    → Option Refusal
entry_refusal arrival off_scale off_limits row e =
    find (speaks_of_entry arrival off_scale off_limits row e) reasons

-- True if the timestamp and the numbers of the command are in the ranges permitted for them, and
-- the counter values of its meter entry fit a 32-bit counter.
pub record IsEntryInRange (arrival : Arrival) (off_scale off_limits : Bool)
    (e : Entry) : Type 0 where
  pub not_back : arrival.is_back ≡ false
  pub within : arrival.is_beyond ≡ false
  pub scale : off_scale ≡ false
  pub field : off_limits ≡ false
  pub shown : CanBeShown MAX_RANGE e

-- True if the result of checking a meter entry is possible for this entry. If the entry is
-- accepted, its command's timestamp and numbers are in the ranges permitted for them, and its
-- counter values fit 32 bits (`IsEntryInRange`). If it is refused, the reason is of a kind that can
-- apply to an entry or to its command.
abbrev pub BefitsEntry : Arrival → (off_scale off_limits : Bool) → Entry → Option Refusal → Type 0
BefitsEntry arrival off_scale off_limits e None = IsEntryInRange arrival off_scale off_limits e
BefitsEntry arrival off_scale off_limits e (Some why) = IsOfEvent why

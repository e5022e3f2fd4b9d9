-- The rules by which a manual entry of a meter is recorded or refused.
use Rattle.std.specs.Prelude.{◌≡◌, ◌≤◌, ℕ, ◌+◌, nat_lt, nat_le, int_lt, Bool, ◌||◌, false, List, [], ◌∷◌, Option, Some, None, Result, Ok, Err, IfOk}
use Rattle.std.specs.List.{find}
use Rattle.energy_core.specs.declared.limits.TheConstants.{MAX_INTERVALS, MAX_SCALE, MAX_TOTAL, MIN_SCALE}
use Rattle.energy_core.specs.declared.entries.Last.{Last}
use Rattle.energy_core.specs.declared.entries.Step.{Step}
use Rattle.energy_core.specs.declared.entries.Entry.{Entry}
use Rattle.energy_core.specs.declared.entries.Entry.TheVariants as entry
use Rattle.energy_core.specs.declared.admission.TermFault.{TermFault}
use Rattle.energy_core.specs.declared.admission.TermFault.TheVariants as fault
use Rattle.energy_core.specs.Account.{intervals_touched, moment_of, after, reached, energy_of, step_to, Follows, IsAccount}

-- The numeric code of each fault of a manual entry, from 1 to 6.
abbrev pub fault_number : TermFault → ℕ
fault_number fault.NegativeStep = 1
fault_number fault.NotLater = 2
fault_number fault.SpanTooLong = 3
fault_number fault.TotalFull = 4
fault_number fault.BadScale = 5
fault_number fault.NotBelowRange = 6

-- True if the entry sets a scale factor that is not from -3 to 3.
abbrev pub has_bad_scale : Entry → Bool
has_bad_scale (entry.Step at raw rolls) = false
has_bad_scale (entry.Change at before new sf) = int_lt sf MIN_SCALE || int_lt MAX_SCALE sf

-- True if a count in the entry is not below the counter's range.
abbrev pub is_beyond : (range : ℕ) → Entry → Bool
is_beyond range (entry.Step at raw rolls) = nat_le range raw
is_beyond range (entry.Change at before new sf) = nat_le range before || nat_le range new

-- True if the given fault applies to a meter's new entry, after the counter's state `last` and with
-- the total energy `total` so far.
abbrev pub refuses : (range total : ℕ) → Last → Entry → TermFault → Bool
-- Fault of a new meter entry: its count is less than the count at the meter's last entry.
refuses range total last e fault.NegativeStep = nat_lt (reached range e) last.raw
-- Fault of a new meter entry: its time is not later than that of the meter's last entry.
refuses range total last e fault.NotLater = nat_le (moment_of e) last.at
-- Fault of a new meter entry: the time from the meter's last entry to it would touch more than
-- 3,000 quarter hours.
refuses range total last e fault.SpanTooLong =
    nat_lt MAX_INTERVALS (intervals_touched last.at (moment_of e))
-- Fault of a new meter entry: with it, the total energy of the installed meter would exceed its
-- limit.
refuses range total last e fault.TotalFull = nat_lt MAX_TOTAL (total + energy_of range last e)
refuses range total last e fault.BadScale = has_bad_scale e
refuses range total last e fault.NotBelowRange = is_beyond range e

-- The faults of a manual entry, in the order in which they are checked.
abbrev pub faults : List TermFault
faults = fault.NegativeStep ∷ fault.NotLater ∷ fault.SpanTooLong ∷ fault.TotalFull ∷ fault.BadScale
    ∷ fault.NotBelowRange ∷ []

-- The result of checking an entry. A fault is returned as an error. Without a fault, the result is
-- the counter's state after the entry, and the step (energy and times) from the last entry.
abbrev pub answered : (range : ℕ) → Last → Entry → Option TermFault → Result (Last × Step) TermFault
answered range last e (Some fault) = Err fault
answered range last e None = Ok (after last e, step_to range last e)

-- The result of a manual entry: the first fault that applies, as an error. Without a fault, it is
-- the counter's state after the entry, and the step (energy and times) from the last entry. The
-- ceiling on power is not checked.
abbrev pub entered : (range total : ℕ) → Last → Entry → Result (Last × Step) TermFault
entered range total last e = answered range last e (find (refuses range total last e) faults)

-- States that a meter's entries obey the rules (`IsAccount`: each is later than the last one, has
-- no lower count and is within the limits). The pair has the counter's state after all entries, and
-- the step (energy and times) to the latest entry. The total energy is `total` plus the energy of
-- this step.
abbrev pub ContinuesAccount : (range : ℕ) → Last → List Entry → (total : ℕ) → Last × Step → Type 0
ContinuesAccount range opening es total r = IsAccount range opening es r.0 (total + r.1.mwh)

-- States that, if the earlier entries obey the rules (`IsAccount`: rising times, no falling counts,
-- limits) and the result records the new entry, then all entries obey them. `total` is the total
-- energy before the new entry.
abbrev pub AccountsGoOnBy : (range total : ℕ) → Last → Entry → Result (Last × Step) TermFault
    → Type 0
AccountsGoOnBy range total last e answer = (opening : Last) (es : List Entry)
    → IsAccount range opening es last total
    → IfOk answer (ContinuesAccount range opening (e ∷ es) total)

-- States that an entry may follow the last entry (`Follows`: later, no lower count, within the
-- limits), and was recorded correctly. `next` is the counter's state after the entry, and `step`
-- the energy and times since the last entry. The total energy stays within its limit.
pub record IsBooked (range total : ℕ) (last : Last) (e : Entry) (next : Last) (step : Step) : Type 0
  where
    pub next_is : next ≡ after last e
    pub step_is : step ≡ step_to range last e
    pub follows : Follows range last e
    pub within : total + step.mwh ≤ MAX_TOTAL

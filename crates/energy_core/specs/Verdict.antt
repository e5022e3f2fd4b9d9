-- The rules by which a reading of a meter's counter is accepted or rejected.
use Rattle.std.specs.Prelude.{◌≡◌, ◌≢◌, ◌<◌, ◌≤◌, ℕ, ◌+◌, ◌-◌, ◌*◌, ◌%◌, ◌==◌, nat_lt, nat_le, Bool, not, List, [], ◌∷◌, Option, Some, None, if◌then◌else◌}
use Rattle.std.specs.List.{find}
use Rattle.std.specs.Ordering.{int_eq}
use Rattle.energy_core.specs.declared.limits.TheConstants.{MAX_INTERVALS, MAX_TOTAL}
use Rattle.energy_core.specs.declared.entries.Last.{Last}
use Rattle.energy_core.specs.declared.verdicts.Terms.{Terms}
use Rattle.energy_core.specs.declared.verdicts.Reading.{Reading}
use Rattle.energy_core.specs.declared.verdicts.Cause.{Cause}
use Rattle.energy_core.specs.declared.verdicts.Cause.TheVariants as cause
use Rattle.energy_core.specs.declared.verdicts.Verdict.{Verdict}
use Rattle.energy_core.specs.declared.verdicts.Verdict.TheVariants.{Accepted, Held}
use Rattle.energy_core.specs.Value.{unit_of}
use Rattle.energy_core.specs.Account.{intervals_touched}

-- The numeric code under which each cause of a rejection is printed and stored.
abbrev pub cause_number : Cause → ℕ
cause_number cause.NotAccumulated = 1
cause_number cause.ScaleChanged = 2
cause_number cause.NotLater = 3
cause_number cause.SpanTooLong = 4
cause_number cause.GapTooLong = 5
cause_number cause.TooFast = 6
cause_number cause.TotalFull = 7
cause_number cause.NotBelowRange = 8

-- True if a power of at most `ceiling` W can advance a meter by `count` counts in `seconds`
-- seconds. The factors convert units: 5 mWh are 18 Ws. The first count may have been almost
-- complete at the last reading, so it needs no energy.
abbrev pub can_count : (ceiling unit seconds count : ℕ) → Bool
can_count ceiling unit seconds count = nat_le ((count - 1) * unit * 18) (ceiling * seconds * 5)

-- The number of counts that a counter advanced from one shown number to another, if it made less
-- than a full turn.
abbrev pub distance : (range from to : ℕ) → ℕ
distance range from to = (to + range - from) % range

-- True if a cause to reject a reading applies, where `last` is the counter's state at the last
-- entry.
abbrev pub applies : (range : ℕ) → Terms → Last → Reading → Cause → Bool
-- Cause of rejection: the counter shows 0, which SunSpec defines as the value of an accumulator
-- that does not count.
applies range terms last reading cause.NotAccumulated = reading.raw == 0
-- Cause of rejection: the scale factor of the reading differs from the scale factor of the meter's
-- last entry.
applies range terms last reading cause.ScaleChanged = not (int_eq reading.sf last.sf)
-- Cause of rejection: the reading has a count that a counter of this range cannot show.
applies range terms last reading cause.NotBelowRange = nat_le range reading.raw
-- Cause of rejection: the reading is not later than the meter's last entry.
applies range terms last reading cause.NotLater = nat_le reading.at last.at
-- Cause of rejection: the time from the meter's last entry to the reading would touch more than
-- 3,000 quarter hours.
applies range terms last reading cause.SpanTooLong =
    nat_lt MAX_INTERVALS (intervals_touched last.at reading.at)
-- Cause of rejection: the counter could have made a full turn since the meter's last entry, so its
-- advance is unknown.
applies range terms last reading cause.GapTooLong =
    can_count terms.ceiling (unit_of last.sf) (reading.at - last.at) range
-- Cause of rejection: the counter advanced further than the ceiling (the meter's greatest power)
-- allows.
applies range terms last reading cause.TooFast =
    not (can_count terms.ceiling (unit_of last.sf) (reading.at - last.at)
    (distance range last.raw reading.raw))
-- Cause of rejection: with the reading, the total energy of the installed meter would exceed its
-- limit.
applies range terms last reading cause.TotalFull =
    nat_lt MAX_TOTAL (terms.total + distance range last.raw reading.raw * unit_of last.sf)

-- The causes to reject a reading, in the order in which they are checked.
abbrev pub causes : List Cause
causes = cause.NotAccumulated ∷ cause.ScaleChanged ∷ cause.NotBelowRange ∷ cause.NotLater
    ∷ cause.SpanTooLong
    ∷ cause.GapTooLong ∷ cause.TooFast ∷ cause.TotalFull ∷ []

-- The verdict on a reading. A cause rejects the reading. Without a cause, the reading is accepted,
-- with the number of the counter's rollovers and the energy in mWh since the last entry.
abbrev pub judged : (range : ℕ) → Last → Reading → Option Cause → Verdict
judged range last reading (Some cause) = Held cause
judged range last reading None =
    Accepted (if nat_lt reading.raw last.raw then 1 else 0)
    (distance range last.raw reading.raw * unit_of last.sf)

-- The verdict on a reading. The first cause that applies rejects the reading, and without a cause
-- the reading is accepted. The counter rolled over once if it shows less than at the last entry,
-- otherwise not at all.
abbrev pub verdict_of : (range : ℕ) → Terms → Last → Reading → Verdict
verdict_of range terms last reading =
    judged range last reading (find (applies range terms last reading) causes)

-- True if the reading is plausible after the counter's state `last`: no cause to reject the reading
-- applies.
pub record IsPlausible (range : ℕ) (terms : Terms) (last : Last) (reading : Reading) : Type 0 where
  pub accumulated : reading.raw ≢ 0
  pub scale : reading.sf ≡ last.sf
  pub below : reading.raw < range
  pub later : last.at < reading.at
  pub span : intervals_touched last.at reading.at ≤ MAX_INTERVALS
  pub gap : terms.ceiling * (reading.at - last.at) * 5 < (range - 1) * unit_of last.sf * 18
  pub speed : (distance range last.raw reading.raw - 1) * unit_of last.sf * 18
      ≤ terms.ceiling * (reading.at - last.at) * 5
  pub within : terms.total + distance range last.raw reading.raw * unit_of last.sf ≤ MAX_TOTAL

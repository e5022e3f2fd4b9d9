-- The entries of an installation (an installed meter), and the steps between consecutive entries
-- with their energies. A list of entries begins with the latest, and does not contain the opening
-- (the first entry).
--
-- `range` is the number of counts in a full turn of the counter.
use Rattle.std.specs.Prelude.{◌≡◌, ℕ, ℤ, ◌+◌, ◌-◌, ◌*◌, ◌/◌, ◌≤◌, ◌<◌, ◌≤ℤ◌, List, [], ◌∷◌}
use Rattle.energy_core.specs.declared.limits.TheConstants.{INTERVAL_SECONDS, MAX_INTERVALS, MAX_SCALE, MAX_TOTAL, MIN_SCALE}
use Rattle.energy_core.specs.declared.entries.Last.{Last}
use Rattle.energy_core.specs.declared.entries.Step.{Step}
use Rattle.energy_core.specs.declared.entries.Entry.{Entry}
use Rattle.energy_core.specs.declared.entries.Entry.TheVariants as entry
use Rattle.energy_core.specs.Value.{unit_of, value_of}

-- The number of quarter-hour intervals that the time from `from` to the later time `till` touches.
abbrev pub intervals_touched : (from till : ℕ) → ℕ
intervals_touched from till = (till - 1) / INTERVAL_SECONDS - from / INTERVAL_SECONDS + 1

-- The time of an entry, in seconds since 1970-01-01 UTC.
abbrev pub moment_of : Entry → ℕ
moment_of (entry.Step at raw rolls) = at
moment_of (entry.Change at before new sf) = at

-- The counter's state after an entry, where `last` is the counter's state before the entry.
abbrev pub after : Last → Entry → Last
after last (entry.Step at raw rolls) = record { at = at; raw = raw; sf = last.sf }
after last (entry.Change at before new sf) = record { at = at; raw = new; sf = sf }

-- The counter's state after the opening (the first entry of an installed meter) and all entries of
-- a list.
abbrev pub last_of : Last → List Entry → Last
last_of opening [] = opening
last_of opening (e ∷ es) = after (last_of opening es) e

-- The count that the counter reached at an entry. For a reading (`Step`), the count includes the
-- full turns since the last entry. For a reset or rescale (`Change`), it is the count before the
-- counter was set.
abbrev pub reached : (range : ℕ) → Entry → ℕ
reached range (entry.Step at raw rolls) = raw + rolls * range
reached range (entry.Change at before new sf) = before

-- The energy in mWh that a meter counted from the counter's state `last` to an entry.
abbrev pub energy_of : (range : ℕ) → Last → Entry → ℕ
energy_of range last e = reached range e * unit_of last.sf - value_of last

-- The step from the counter's state `last` to an entry: the times of `last` and of the entry, and
-- the energy in mWh between them.
abbrev pub step_to : (range : ℕ) → Last → Entry → Step
step_to range last e = record { from = last.at; till = moment_of e; mwh = energy_of range last e }

-- The steps of an installed meter: the energy and the times between each two consecutive entries.
-- The latest step comes first.
abbrev pub steps_of : (range : ℕ) → Last → List Entry → List Step
steps_of range opening [] = []
steps_of range opening (e ∷ es) = step_to range (last_of opening es) e ∷ steps_of range opening es

-- The energy in mWh of all full turns of the counter that the entries record. The energy of the
-- counts that the counter showed before resets and rescales is added.
abbrev pub recorded : (range : ℕ) → Last → List Entry → ℕ
recorded range opening [] = 0
recorded range opening (entry.Step at raw rolls ∷ es) =
    rolls * range * unit_of (last_of opening es).sf + recorded range opening es
recorded range opening (entry.Change at before new sf ∷ es) =
    before * unit_of (last_of opening es).sf + recorded range opening es

-- The energy in mWh of the counts to which resets and rescales set the counter.
abbrev pub set_anew : List Entry → ℕ
set_anew [] = 0
set_anew (entry.Step at raw rolls ∷ es) = set_anew es
set_anew (entry.Change at before new sf ∷ es) = new * unit_of sf + set_anew es

-- The total energy of an installed meter, in mWh. This is the counter's last value less its first
-- value, plus one full range for each recorded rollover. For each reset or rescale, the value
-- before it is added, and the value after it is subtracted.
abbrev pub whole_energy : (range : ℕ) → Last → List Entry → ℕ
whole_energy range opening es =
    (value_of (last_of opening es) + recorded range opening es) - (value_of opening + set_anew es)

-- True if no entry's count is less than the counter's count before that entry. Therefore
-- `whole_energy` (the total energy) never cuts off a subtraction at 0.
abbrev pub NeverFalls : (range : ℕ) → Last → List Entry → Type 0
NeverFalls range opening [] = Unit {0}
NeverFalls range opening (e ∷ es) =
    ((last_of opening es).raw ≤ reached range e) × NeverFalls range opening es

-- True if the scale factor is from -3 to 3, as an accounting register (a named counter) requires.
abbrev pub IsScale : ℤ → Type 0
IsScale sf = (MIN_SCALE ≤ℤ sf) × (sf ≤ℤ MAX_SCALE)

-- True for a `Step` (a reading), which sets no scale factor. True for a `Change` (a reset or
-- rescale) if its scale factor is from -3 to 3.
abbrev pub HasScale : Entry → Type 0
HasScale (entry.Step at raw rolls) = Unit {0}
HasScale (entry.Change at before new sf) = IsScale sf

-- True if every count in the entry is below the counter's range.
abbrev pub CanBeShown : (range : ℕ) → Entry → Type 0
CanBeShown range (entry.Step at raw rolls) = raw < range
CanBeShown range (entry.Change at before new sf) = (before < range) × (new < range)

-- True if an entry may follow the counter's state `last`: its count is not less than that of
-- `last`, and its time is later. The time between `last` and the entry, the entry's scale factor
-- and its counts are within their limits.
pub record Follows (range : ℕ) (last : Last) (e : Entry) : Type 0 where
  pub rises : last.raw ≤ reached range e
  pub later : last.at < moment_of e
  pub span : intervals_touched last.at (moment_of e) ≤ MAX_INTERVALS
  pub scale : HasScale e
  pub shown : CanBeShown range e

-- True if each entry may follow the counter's state after the entries before it (`Follows`: later,
-- no lower count, within the limits).
abbrev pub AllFollow : (range : ℕ) → Last → List Entry → Type 0
AllFollow range opening [] = Unit {0}
AllFollow range opening (e ∷ es) = Follows range (last_of opening es) e × AllFollow range opening es

-- States that each entry may follow the entries before it (`Follows`: later, no lower count, within
-- the limits). `last` is the counter's state after the opening (the first entry) and the entries
-- `es`. `total` is the meter's total energy in mWh, and is within its limit.
pub record IsAccount (range : ℕ) (opening : Last) (es : List Entry) (last : Last) (total : ℕ) : Type
    0 where
  pub last_is : last ≡ last_of opening es
  pub total_is : total ≡ whole_energy range opening es
  pub within : total ≤ MAX_TOTAL
  pub follow : AllFollow range opening es

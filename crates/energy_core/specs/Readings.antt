-- The readings of an installed meter, and the entries that the accepted readings become. Both lists
-- begin with the latest.
use Rattle.std.specs.Prelude.{ℕ, List, [], ◌∷◌}
use Rattle.energy_core.specs.declared.entries.Last.{Last}
use Rattle.energy_core.specs.declared.entries.Entry.{Entry}
use Rattle.energy_core.specs.declared.entries.Entry.TheVariants as entry
use Rattle.energy_core.specs.declared.verdicts.Reading.{Reading}
use Rattle.energy_core.specs.declared.verdicts.Verdict.{Verdict}
use Rattle.energy_core.specs.declared.verdicts.Verdict.TheVariants.{Accepted, Held}
use Rattle.energy_core.specs.Account.{last_of, whole_energy}
use Rattle.energy_core.specs.Verdict.{verdict_of}

-- The verdict (accepted or rejected) on a reading of a meter after its opening (the first entry)
-- and the entries `es`.
abbrev pub verdict_on : (range ceiling : ℕ) → Last → List Entry → Reading → Verdict
verdict_on range ceiling opening es reading =
    verdict_of range (record { ceiling = ceiling; total = whole_energy range opening es })
    (last_of opening es) reading

-- The entries of a meter after a verdict on a reading. An accepted reading is added to the entries,
-- and a rejected reading leaves the entries unchanged.
abbrev pub with_verdict : List Entry → Reading → Verdict → List Entry
with_verdict es reading (Accepted rolls step) = entry.Step reading.at reading.raw rolls ∷ es
with_verdict es reading (Held cause) = es

-- The entries of an installed meter after a list of readings. Some of the readings may be rejected.
-- Both lists begin with the latest.
abbrev pub entries_of_readings : (range ceiling : ℕ) → Last → List Reading → List Entry
entries_of_readings range ceiling opening [] = []
entries_of_readings range ceiling opening (r ∷ rs) =
    let es = entries_of_readings range ceiling opening rs in
    with_verdict es r (verdict_on range ceiling opening es r)

-- True if the verdict accepts the reading.
abbrev pub IsAccepted : Verdict → Type 0
IsAccepted (Accepted rolls step) = Unit {0}
IsAccepted (Held cause) = ⊥

-- True if each reading of a list is accepted when it is judged after the earlier readings.
abbrev pub AllAccepted : (range ceiling : ℕ) → Last → List Reading → Type 0
AllAccepted range ceiling opening [] = Unit {0}
AllAccepted range ceiling opening (r ∷ rs) =
    IsAccepted (verdict_on range ceiling opening (entries_of_readings range ceiling opening rs) r)
    × AllAccepted range ceiling opening rs

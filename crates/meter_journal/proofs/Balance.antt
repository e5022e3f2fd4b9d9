-- Lemmas: the energy of a meter's entries is the sum that follows from the counts, rollovers,
-- resets and rescales that the entries record.
use Rattle.std.proofs.Common.{◌≡◌, ℕ, ◌+◌, ◌-◌, ◌*◌, ◌≤◌, List, [], ◌∷◌, arith}
use Rattle.std.proofs.Math.Nat.{mul-le-mul_right}
use Rattle.energy_core.specs.declared.entries.Entry.{Entry}
use Rattle.energy_core.specs.declared.entries.Entry.TheVariants as entry
use Rattle.energy_core.specs.Value.{unit_of, value_of}
use Rattle.energy_core.specs.Account.{recorded, set_anew, AllFollow}
use Rattle.meter_journal.specs.declared.lines.Installed.{Installed}
use Rattle.meter_journal.specs.Books.{last_after, total_after}
use Rattle.meter_journal.specs.Journal.{entries_of}
use Rattle.meter_journal.specs.Laws.{JournalsBalance}
use Rattle.meter_journal.proofs.Voiding.{whole_with}
use Rattle.meter_journal.proofs.Keeping.{journals_are_kept}

one_step : (r l u : ℕ) → l ≤ r → r * u - l * u + l * u ≡ r * u
one_step r l u h = omega (arith, mul-le-mul_right u h)

balance : (meter : Installed) (es : List Entry) → AllFollow meter.range meter.opening es
    → total_after meter es + value_of meter.opening + set_anew es ≡ value_of (last_after meter es) + recorded meter.range meter.opening es
balance meter [] h = omega arith
balance meter (entry.Step at raw rolls ∷ es) h =
    omega (
      arith,
      whole_with meter (entry.Step at raw rolls) es h,
      balance meter es h.1,
      one_step (raw + rolls * meter.range) (last_after meter es).raw (unit_of (last_after meter es).sf) h.0.rises,
    )
balance meter (entry.Change at before new sf ∷ es) h =
    omega (
      arith,
      whole_with meter (entry.Change at before new sf) es h,
      balance meter es h.1,
      one_step before (last_after meter es).raw (unit_of (last_after meter es).sf) h.0.rises,
    )

pub journals_balance : JournalsBalance
journals_balance meter lines well h =
    let kept = journals_are_kept meter lines well h in
    balance meter (entries_of meter.opening lines) kept.account.follow

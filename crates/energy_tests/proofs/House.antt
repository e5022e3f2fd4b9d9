-- Proofs of the last entry and the total energy of a meter that was installed with 5000 counts and
-- read once with 5300 counts.
use Rattle.std.proofs.Common.{pos, List, [], ◌∷◌, refl, arith}
use Rattle.energy_core.specs.declared.entries.Last.{Last}
use Rattle.energy_core.specs.declared.entries.Entry.{Entry}
use Rattle.energy_core.specs.declared.entries.Entry.TheVariants as entry
use Rattle.energy_core.specs.Value.{unit_of}
use Rattle.energy_core.specs.Account.{last_of, whole_energy, IsAccount}

abbrev pub opening : Last
opening = record { at = 1000; raw = 5000; sf = pos 0 }

abbrev pub entries : List Entry
entries = entry.Step 2800 5300 0 ∷ []

pub house_account : IsAccount 4294967296 opening entries (last_of opening entries) (whole_energy 4294967296 opening entries)
unfolding unit_of
house_account = record {
  last_is = refl;
  total_is = refl;
  within = omega arith;
  follow = (record { rises = omega arith; later = omega arith; span = omega arith; scale = tt; shown = omega arith }, tt);
}

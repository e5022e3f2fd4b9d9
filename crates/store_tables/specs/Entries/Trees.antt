-- The numbers that identify the B-trees of the tables `entries` and `voids` in contracts and
-- proofs.
use Rattle.std.specs.Prelude.{ℕ}

abbrev pub entries : ℕ
entries = 9

abbrev pub voids : ℕ
voids = 20

-- The numbers that identify the B-trees of the tables `devices`, `points` and `registers` in
-- contracts and proofs.
use Rattle.std.specs.Prelude.{ℕ}

abbrev pub devices : ℕ
devices = 1

abbrev pub points : ℕ
points = 3

abbrev pub registers : ℕ
registers = 5

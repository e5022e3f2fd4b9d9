-- The numbers that identify the B-trees of the tables `installations` and `ranges` in contracts and
-- proofs.
use Rattle.std.specs.Prelude.{ℕ}

abbrev pub installations : ℕ
installations = 7

abbrev pub ranges : ℕ
ranges = 18

-- The number of the B-tree that stores the table `intervals`, the energy of each meter by quarter
-- hour.
use Rattle.std.specs.Prelude.{ℕ}

abbrev pub intervals : ℕ
intervals = 14

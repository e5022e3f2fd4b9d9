-- The numbers that identify the B-trees of the tables `polls`, `holds`, `outcomes` and `replies` in
-- contracts and proofs.
use Rattle.std.specs.Prelude.{ℕ}

abbrev pub polls : ℕ
polls = 11

abbrev pub holds : ℕ
holds = 12

abbrev pub outcomes : ℕ
outcomes = 13

abbrev pub replies : ℕ
replies = 16

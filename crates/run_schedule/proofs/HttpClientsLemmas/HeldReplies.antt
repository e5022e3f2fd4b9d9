-- Lemmas: the unread HTTP responses in memory take less than the limit of 4 MiB plus the size of
-- the longest response.
use Rattle.std.proofs.Common.{◌≡◌, ℕ, ◌-◌, ◌<◌, nat_lt, true, [], ◌∷◌, arith}
use Rattle.std.proofs.lemmas.Bool.Decides.{nat_tests}
use Rattle.run_schedule.specs.HttpClients.HeldReplies.{Dropped, HoldsLittle, Made, held_after}

is_little : (held : ℕ) → nat_lt held 4194304 ≡ true → held < 4194304
is_little held is = grind (arith, nat_tests, is)

pub holds_little : HoldsLittle
holds_little longest [] may = omega arith
holds_little longest (Made bytes ∷ earlier) may = omega (arith, is_little (held_after earlier) may.0, may.1)
holds_little longest (Dropped bytes ∷ earlier) may = omega (arith, holds_little longest earlier may)

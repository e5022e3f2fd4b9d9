use Rattle.std.proofs.Common.{◌≡◌, List, ℕ, ◌++◌, length}
use Rattle.std.specs.Str.{IsUtf8}
use Rattle.table_seals.specs.Lines.{ArePending}
use Rattle.table_seals.proofs.parsing.pending.Given as goal

abbrev pub invariant-loop-poll : goal.invariant-loop-poll
invariant-loop-poll l = record {
  reads : (polls rest : List ℕ) → ArePending polls rest l.text → (after : List ℕ) × (l.polls.items ++ after ≡ polls) × ArePending after rest l.rest;
  text : IsUtf8 l.rest;
}

abbrev pub decreases-loop-poll : goal.decreases-loop-poll
decreases-loop-poll l = length l.rest

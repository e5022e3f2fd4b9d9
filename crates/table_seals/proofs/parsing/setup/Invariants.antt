use Rattle.std.proofs.Common.{◌≡◌, List, ℕ, ◌++◌, map, length}
use Rattle.std.specs.Str.{IsUtf8}
use Rattle.table_seals.specs.Lines.{AreSetup}
use Rattle.table_seals.specs.Sealed.{line_bytes}
use Rattle.table_seals.proofs.parsing.setup.Given as goal

abbrev pub invariant-loop-line : goal.invariant-loop-line
invariant-loop-line l = record {
  reads : (lines : List (List ℕ)) (rest : List ℕ) → AreSetup lines rest l.text
      → (after : List (List ℕ)) × (map line_bytes l.lines.items ++ after ≡ lines) × AreSetup after rest l.rest;
  text : IsUtf8 l.rest;
}

abbrev pub decreases-loop-line : goal.decreases-loop-line
decreases-loop-line l = length l.rest

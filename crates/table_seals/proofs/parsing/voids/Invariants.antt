use Rattle.std.proofs.Common.{◌≡◌, ◌≤◌, List, ℕ, ◌++◌, length}
use Rattle.std.specs.Str.{IsUtf8}
use Rattle.table_audit.specs.declared.rows.VoidRow.{VoidRow}
use Rattle.table_seals.specs.Lines.{AreVoids}
use Rattle.table_seals.proofs.parsing.voids.Given as goal

abbrev pub invariant-loop-void : goal.invariant-loop-void
invariant-loop-void l = record {
  reads : (meter : List ℕ) (voids : List VoidRow) (rest : List ℕ) → AreVoids meter voids rest l.text
      → (after : List VoidRow) × (l.voids.items ++ after ≡ voids) × AreVoids meter after rest l.rest;
  text : IsUtf8 l.rest;
  short : length l.rest ≤ length l.text;
}

abbrev pub decreases-loop-void : goal.decreases-loop-void
decreases-loop-void l = length l.rest

use Rattle.std.proofs.Common.{◌≡◌, List, ℕ, ◌++◌, map, length}
use Rattle.std.specs.Str.{IsUtf8}
use Rattle.table_seals.specs.Lines.{AreMeters}
use Rattle.table_seals.specs.Sealed.{Sealed, sealed_of}
use Rattle.table_seals.proofs.parsing.meters.Given as goal

abbrev pub invariant-loop-line : goal.invariant-loop-line
invariant-loop-line l = record {
  reads : (seals : List Sealed) (rest : List ℕ) → AreMeters seals rest l.text
      → (after : List Sealed) × (map sealed_of l.seals.items ++ after ≡ seals) × AreMeters after rest l.rest;
  text : IsUtf8 l.rest;
}

abbrev pub decreases-loop-line : goal.decreases-loop-line
decreases-loop-line l = length l.rest

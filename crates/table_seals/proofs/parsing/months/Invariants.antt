use Rattle.std.proofs.Common.{◌≡◌, ◌≤◌, List, ℕ, ◌++◌, map, length}
use Rattle.std.specs.Str.{IsUtf8}
use Rattle.table_seals.specs.Lines.{AreMonthLines}
use Rattle.table_seals.specs.Sealed.{SealedMonth, sealed_month_of}
use Rattle.table_seals.proofs.parsing.months.Given as goal

abbrev pub invariant-loop-line : goal.invariant-loop-line
invariant-loop-line l = record {
  reads : (meter : List ℕ) (months : List SealedMonth) (rest : List ℕ) → AreMonthLines meter months rest l.text
      → (after : List SealedMonth) × (map sealed_month_of l.months.items ++ after ≡ months) × AreMonthLines meter after rest l.rest;
  text : IsUtf8 l.rest;
  short : length l.rest ≤ length l.text;
}

abbrev pub decreases-loop-line : goal.decreases-loop-line
decreases-loop-line l = length l.rest

use Rattle.std.proofs.Common.{◌≡◌, ◌≤◌, ◌+◌, ◌*◌, ◌++◌, length, take}
use Rattle.energy_report.specs.StatementTexts.{are_none, counts_text}
use Rattle.energy_report.proofs.HeldLemmas.{some_of}
use Rattle.energy_report.proofs.statement_text.push_counts.Given as goal

abbrev pub invariant-loop-one : goal.invariant-loop-one
invariant-loop-one l = record {
  bytes : l.page ≡ l.fn.page ++ counts_text l.format (some_of (take l.one-index l.one-items));
  none : l.are_none ≡ are_none (some_of (take l.one-index l.one-items));
  size : length l.page ≤ length l.fn.page + 27 * l.one-index;
}

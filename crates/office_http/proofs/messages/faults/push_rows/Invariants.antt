use Rattle.std.proofs.Common.{◌≡◌, ◌≤◌, ◌+◌, ◌*◌, ◌++◌, length, take}
use Rattle.office_http.specs.Messages.Faults.{more_rows}
use Rattle.office_http.proofs.messages.faults.push_rows.Given as goal

abbrev pub invariant-loop-faulty : goal.invariant-loop-faulty
invariant-loop-faulty l = record {
  bytes : l.text ≡ l.fn.text ++ more_rows (take l.faulty-index l.rows);
  size : length l.text ≤ length l.fn.text + 12 * l.faulty-index;
}

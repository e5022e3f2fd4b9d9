use Rattle.std.proofs.Common.{◌≡◌, ◌≤◌, false, length}
use Rattle.std.specs.Io.KnownBytes.{Consumes}
use Rattle.command_io.specs.Input.{most_bytes}
use Rattle.command_io.proofs.input.read_by.Given as goal

abbrev pub invariant-loop-call : goal.invariant-loop-call
invariant-loop-call g l = record {
  read : Consumes (g.R.Read.remaining l.fn.calls.input.now) (g.R.Read.remaining l.calls.input.now) l.whole.items;
  fits : length l.whole.items ≤ most_bytes;
  each : l._call ≤ length l.whole.items;
  made : l.calls.made ≡ l._call;
  works : l.calls.failed ≡ false;
}

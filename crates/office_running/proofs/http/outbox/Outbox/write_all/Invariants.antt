use Rattle.std.proofs.Common.{◌≡◌}
use Rattle.std.specs.Prelude.{◌≤◌}
use Rattle.office_running.proofs.http.outbox.Outbox.write_all.Given as goal

abbrev pub invariant-loop-write : goal.invariant-loop-write
invariant-loop-write l = (l.self.bytes ≡ l.fn.self.bytes) × (l.fn.self.written ≤ l.self.written)

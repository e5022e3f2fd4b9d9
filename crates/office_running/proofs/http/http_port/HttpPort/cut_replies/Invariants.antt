use Rattle.std.proofs.Common.{◌≡◌}
use Rattle.office_running.proofs.http.http_port.HttpPort.cut_replies.Given as goal

abbrev pub invariant-loop-slot : goal.invariant-loop-slot
invariant-loop-slot l = l.self.room ≡ l.fn.self.room

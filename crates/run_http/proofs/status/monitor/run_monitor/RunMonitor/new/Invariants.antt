use Rattle.std.proofs.Common.{◌≡◌, map, take, []}
use Rattle.run_http.specs.Status.Monitor.Watching.{unconnected}
use Rattle.run_http.proofs.status.monitor.run_monitor.RunMonitor.new.Given as goal

abbrev pub invariant-loop-name : goal.invariant-loop-name
invariant-loop-name l =
    record {
      states : l.states.items ≡ map unconnected (take l.name-index l.names);
      outgoing : map (λ queue. queue.items) l.outgoing.items ≡ map (λ name. []) (take l.name-index l.names);
    }

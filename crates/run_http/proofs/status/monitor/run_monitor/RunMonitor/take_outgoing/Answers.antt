use Rattle.std.proofs.Common.{ap, ◌∙◌}
use Rattle.run_http.proofs.StatusLemmas.MonitorLemmas.Queues.{bytes_of, left_there}
use Rattle.run_http.proofs.status.monitor.run_monitor.RunMonitor.take_outgoing.Goals as goal

pub returns-then-place-len-clause-left : goal.returns-then-place-len-clause-left
returns-then-place-len-clause-left c =
    left_there bytes_of c.args.self.now.outgoing.items c.args.place c.replace.new.dest
    (ap bytes_of c.replace.ensures.after ∙ c.new.ensures.items)

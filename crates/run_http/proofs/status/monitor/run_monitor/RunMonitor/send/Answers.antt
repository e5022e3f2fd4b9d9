use Rattle.std.proofs.Common.{◌<◌, length, subst, arith}
use Rattle.run_http.specs.Status.Monitor.Output.{IsPut}
use Rattle.run_http.proofs.StatusLemmas.MonitorLemmas.Queues.{bytes_of, sent_at}
use Rattle.run_http.proofs.status.monitor.run_monitor.RunMonitor.send.Goals as goal

pub returns-then-place-len-clause-outgoing : goal.returns-then-place-len-clause-outgoing
returns-then-place-len-clause-outgoing c =
    let inside : c.args.place < length c.args.self.now.outgoing.items = omega (arith, c.if-place-len.true, c.len.ensures)
    in sent_at bytes_of c.args.self.now.outgoing.items c.args.place c.write_frames.new.queue c.index_mut.result.now c.args.event.now
    c.args.frames.now inside
    (subst (λ queue. IsPut c.args.event.now c.args.frames.now (bytes_of queue) (bytes_of c.write_frames.new.queue)) c.index_mut.ensures.value
    c.write_frames.ensures)

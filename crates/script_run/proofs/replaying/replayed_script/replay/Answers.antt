use Rattle.std.proofs.Common.{sym, take}
use Rattle.command_io.specs.Holding.{contents_of}
use Rattle.script_run.specs.Replaying.TextRun.{InputRuns, Replays}
use Rattle.script_run.proofs.ReplayingLemmas.Held.{run_part, run_whole}
use Rattle.script_run.proofs.ReplayingLemmas.Scripts.{if_some}
use Rattle.script_run.proofs.replaying.replayed_script.replay.Goals as goal
use Rattle.script_run.proofs.replaying.replayed_script.replay.Goals.{in-Ok, in-Err}

pub returns : goal.returns
returns g c =
    let begun = c.new-buffered.result in
    let ended = c.run_input-ended.new.output in
    let flushed = c.flush.new.self in
    let status = c.run_input-ended.result in
    if_some (g.R.Read.remaining c.args.input.now)
    (λ all. InputRuns c.args.zone all status (contents_of g.W.Write.contents begun) (contents_of g.W.Write.contents ended))
    (λ all. Replays c.args.zone all c.match-flush.status (g.W.Write.contents c.args.output) (g.W.Write.contents c.into_output.result))
    c.run_input-ended.ensures (λ all runs.
    elim c.match-flush.branch [
      | in-Ok w ↦
          rw w.status-is (rw c.into_output.ensures (rw (sym c.new-buffered.ensures.output)
          (run_whole c.args.zone all status (g.W.Write.contents begun.output) (g.W.Write.contents ended.output) (g.W.Write.contents flushed.output)
          (take begun.filled begun.buffered) (take ended.filled ended.buffered) (take flushed.filled flushed.buffered) c.new-buffered.ensures.empty runs
          c.flush.ensures.bytes w.in-Ok.ensures.given)))
      | in-Err w ↦
          rw w.status-is (rw c.into_output.ensures (rw (sym c.new-buffered.ensures.output)
          (run_part c.args.zone all status (g.W.Write.contents begun.output) (g.W.Write.contents ended.output) (g.W.Write.contents flushed.output)
          (take begun.filled begun.buffered) (take ended.filled ended.buffered) (take flushed.filled flushed.buffered) c.new-buffered.ensures.empty runs
          c.flush.ensures.bytes)))
    ])

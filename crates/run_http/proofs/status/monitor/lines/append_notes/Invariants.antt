use Rattle.std.proofs.Common.{◌≡◌, drop}
use Rattle.run_http.specs.Status.Monitor.Lines as lines
use Rattle.run_http.proofs.status.monitor.lines.append_notes.Given as goal

abbrev pub invariant-loop-note : goal.invariant-loop-note
invariant-loop-note l =
    lines.with_notes l.at l.name (drop l.note-index l.notes) l.text.items ≡ lines.with_notes l.at l.name l.notes l.initial.text.items

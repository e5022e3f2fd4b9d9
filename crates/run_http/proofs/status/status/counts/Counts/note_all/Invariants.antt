use Rattle.std.proofs.Common.{◌≡◌, drop}
use Rattle.run_http.specs.Status.Status.Counts as counting
use Rattle.run_http.proofs.status.status.counts.Counts.note_all.Given as goal

abbrev pub invariant-loop-note : goal.invariant-loop-note
invariant-loop-note l = counting.noted_all (drop l.note-index l.notes) l.self ≡ counting.noted_all l.notes l.initial.self

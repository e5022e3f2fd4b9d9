use Rattle.std.proofs.Common.{◌≡◌, ◌≤◌, ◌+◌, drop, length}
use Rattle.std.specs.Prelude.{slice_range}
use Rattle.office_http.specs.Messages.Head.Lines.{ended_lines, has_head_end, lines_of_head}
use Rattle.office_http.proofs.MessagesLemmas.HeadLemmas.Counting.{lines_after}
use Rattle.office_http.proofs.MessagesLemmas.HeadLemmas.Scanning.{ends_after}
use Rattle.office_http.proofs.messages.head.lines.scan.Given as goal

abbrev pub invariant-loop-i : goal.invariant-loop-i
invariant-loop-i l = record {
  start : l.start ≤ l.i;
  few : l.lines ≤ l.i;
  counted : l.lines + length (lines_after l.text_seen (ended_lines (slice_range l.bytes l.start l.i) (drop l.i l.bytes))) ≡ length (lines_of_head l.bytes);
  left : ends_after l.text_seen (ended_lines (slice_range l.bytes l.start l.i) (drop l.i l.bytes)) ≡ has_head_end l.bytes;
}

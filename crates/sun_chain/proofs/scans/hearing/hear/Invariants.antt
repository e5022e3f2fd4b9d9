use Rattle.std.proofs.Common.{◌≡◌, ◌+◌, ◌≤◌}
use Rattle.std.specs.Io.KnownBytes.{Keeps}
use Rattle.sun_chain.specs.Scanning.Answers.{ask_of}
use Rattle.sun_chain.proofs.ScanLemmas.Risen.{Grows}
use Rattle.sun_chain.proofs.ScanLemmas.Settles.{Waits}
use Rattle.sun_chain.proofs.scans.hearing.hear.Given as goal

abbrev pub invariant-loop-turn : goal.invariant-loop-turn
invariant-loop-turn g l = record {
  waits : Waits (ask_of l.attempt) (g.L.Link.remaining l.fn.link) (g.L.Link.remaining l.link) l.fn.reader.rest l.reader.rest;
  given : Keeps (g.L.Link.given l.fn.link) (g.L.Link.given l.link);
  failures : g.L.Link.failed l.link ≡ g.L.Link.failed l.fn.link;
  ends : g.L.Link.ended l.link ≡ g.L.Link.ended l.fn.link;
  takes : g.L.Link.taken l.link ≤ g.L.Link.taken l.fn.link + l._turn;
  grows : Grows (g.L.Link.taken l.fn.link) (g.L.Link.taken l.link) l._turn;
}

use Rattle.std.proofs.Common.{◌≡◌}
use Rattle.sun_chain.specs.Scanning.Scans.{stage_of, words_of}
use Rattle.sun_chain.proofs.ScanLemmas.Potentials.{potential}
use Rattle.sun_chain.proofs.ScanLemmas.Talking.{Going}
use Rattle.sun_chain.proofs.scans.scanning.scan_over.Given as goal

abbrev pub invariant-loop-span : goal.invariant-loop-span
invariant-loop-span g l = record {
  going : Going l.fn.unit (g.L.Link.remaining l.fn.link) (g.L.Link.given l.fn.link) (g.L.Link.remaining l.link) (g.L.Link.given l.link)
      l.client.unit l.client.reader.rest l.client.next (words_of l.scan) (stage_of l.scan) (g.L.Link.taken l.fn.link) (g.L.Link.taken l.link);
  failures : g.L.Link.failed l.link ≡ g.L.Link.failed l.fn.link;
  ends : g.L.Link.ended l.link ≡ g.L.Link.ended l.fn.link;
}

abbrev pub decreases-loop-span : goal.decreases-loop-span
decreases-loop-span g l = potential (stage_of l.scan)

use Rattle.std.proofs.Common.{◌≡◌, ◌-◌, ℕ}
use Rattle.std.specs.Io.KnownBytes.{Keeps}
use Rattle.office_http.specs.Messages.Reading.Taking.{Came, IsCounted, bytes_in, room_of}
use Rattle.office_http.specs.Messages.Head.Heads.{IsOpenHead}
use Rattle.office_http.specs.Messages.Reading.HeadAndBody.{StopsAtOnce}
use Rattle.office_http.proofs.messages.reading.head_and_body.read_head.Given as goal

abbrev pub invariant-takes : goal.invariant-takes
invariant-takes g l = record {
  came : Came (bytes_in l.fn.inbox) (bytes_in l.inbox) (g.L.Link.remaining l.fn.link) (g.L.Link.remaining l.link);
  given : Keeps (g.L.Link.given l.fn.link) (g.L.Link.given l.link);
  room : room_of l.inbox ≡ room_of l.fn.inbox;
  failures : g.L.Link.failed l.link ≡ g.L.Link.failed l.fn.link;
  stops : StopsAtOnce IsOpenHead l.fn.inbox l.inbox (g.L.Link.last l.fn.link) (g.L.Link.last l.link);
  counts : (base : ℕ) → IsCounted base (g.L.Link.taken l.fn.link) l.fn.inbox → IsCounted base (g.L.Link.taken l.link) l.inbox;
}

abbrev pub decreases-takes : goal.decreases-takes
decreases-takes g l = 100001 - l.inbox.takes

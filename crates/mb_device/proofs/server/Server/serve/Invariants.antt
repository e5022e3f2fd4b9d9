use Rattle.std.proofs.Common.{◌≡◌, ℕ, ◌+◌, ◌*◌, ◌^◌, ◌<◌, ◌≤◌, List, true, false}
use Rattle.mb_device.specs.Tricks.{Course}
use Rattle.mb_device.specs.Server.{Holds, Served, ReportsTake, around, is_serving}
use Rattle.mb_device.proofs.server.Server.serve.Given as goal

abbrev pub invariant-loop-turn : goal.invariant-loop-turn
invariant-loop-turn g l = record {
  served : (buffered : List ℕ) (course : Course) → l.fn.self ≡ Holds buffered course → Served buffered course l.answered
      (around (g.L.Link.remaining l.fn.link) (g.L.Link.given l.fn.link) l.fn.bank)
      (around (g.L.Link.remaining l.link) (g.L.Link.given l.link) l.bank)
      l.self;
  serving : is_serving l.self ≡ true;
  from_serving : is_serving l.fn.self ≡ true;
  going : 1 ≤ l._turn → ReportsTake false false (g.L.Link.last l.link);
  few : l.answered ≤ 260 * l._turn;
  failures : g.L.Link.failed l.link ≡ g.L.Link.failed l.fn.link;
  ends : g.L.Link.ended l.link ≡ g.L.Link.ended l.fn.link;
  takes : g.L.Link.taken l.link ≤ g.L.Link.taken l.fn.link + l._turn;
  all_takes : g.L.Link.taken l.fn.link + l._turn < 2 ^ 64 → g.L.Link.taken l.link ≡ g.L.Link.taken l.fn.link + l._turn;
}

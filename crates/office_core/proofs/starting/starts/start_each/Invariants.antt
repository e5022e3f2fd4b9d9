use Rattle.std.proofs.Common.{◌≡◌, ◌≤◌, ◌*◌, ◌++◌, None, List, map, length}
use Rattle.std.specs.List.{flat_map}
use Rattle.poll_core.specs.Settling as session
use Rattle.poll_core.specs.Standing.{last_moment}
use Rattle.office_books.specs.Sessions.{start_by}
use Rattle.office_books.specs.Notes.{frame_of}
use Rattle.office_core.specs.Sessions.Keeping.{KeepsSession}
use Rattle.office_core.proofs.StartingLemmas.Sending.{SoFar}
use Rattle.office_core.proofs.starting.starts.start_each.Given as goal

abbrev pub invariant-loop-i : goal.invariant-loop-i
invariant-loop-i l = record {
  sends : (events : List session.Event) → KeepsSession l.fn.device l.fn.kept events → last_moment events ≤ l.moment
      → (so : SoFar l.number l.moment l.device events l.spans l.i)
      × KeepsSession l.device l.kept (events ++ map (start_by l.moment l.device) so.made)
      × (last_moment (events ++ map (start_by l.moment l.device) so.made) ≤ l.moment)
      × (l.outgoing ≡ flat_map (frame_of l.device) so.made);
  room : length l.outgoing ≤ l.i * 12;
  rests : l.kept.settling ≡ None;
}

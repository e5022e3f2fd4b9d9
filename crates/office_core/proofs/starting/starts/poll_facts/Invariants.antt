use Rattle.std.proofs.Common.{◌≡◌, ◌++◌, List, map}
use Rattle.poll_core.specs.Settling as session
use Rattle.office_books.specs.Sessions.{start_by}
use Rattle.office_books.specs.History.{poll_by}
use Rattle.office_core.specs.Sessions.Keeping.{KeepsSession}
use Rattle.office_core.proofs.StartingLemmas.Sending.{SoFar}
use Rattle.office_core.proofs.starting.starts.poll_facts.Given as goal

abbrev pub invariant-loop-i : goal.invariant-loop-i
invariant-loop-i l = (events : List session.Event) → KeepsSession l.device l.kept events
    → (so : SoFar l.number l.moment l.device events l.spans l.i)
    × (l.id ≡ session.next_id (events ++ map (start_by l.moment l.device) so.made))
    × (l.facts.items ≡ map (poll_by l.moment l.device) so.made)

use Rattle.office_store.proofs.StopsLemmas.Stopped.{left_before, left_after}
use Rattle.office_store.proofs.stops.connection_end.close_connection.Goals as goal

pub returns-clause-before : goal.returns-clause-before
returns-clause-before g c =
    left_before g.D.Disk c.stops_leave_facts.ensures c.args.connection c.into_store.result c.into_store.ensures.undone c.into_store.ensures.quiet
    c.into_store.ensures.numbered

pub returns-clause-after : goal.returns-clause-after
returns-clause-after g c =
    left_after g.D.Disk c.stops_leave_facts.ensures c.args.connection c.into_store.result c.into_store.ensures.undone c.into_store.ensures.quiet
    c.into_store.ensures.numbered

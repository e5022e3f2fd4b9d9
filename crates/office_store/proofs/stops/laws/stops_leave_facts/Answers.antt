use Rattle.office_store.proofs.StopsLemmas.Stopped.{stops_leave_facts as lemma}
use Rattle.office_store.proofs.stops.laws.stops_leave_facts.Goals as goal

pub returns : goal.returns
returns g c = lemma g.D.Disk c.left_facts_are_found.ensures

use Rattle.office_store.proofs.StopsLemmas.Stopped.{opened_files_are_found as lemma}
use Rattle.office_store.proofs.stops.laws.opened_files_are_found.Goals as goal

pub returns : goal.returns
returns g c = lemma g.D.Disk

use Rattle.poll_core.proofs.Streams.{OneReading}
use Rattle.poll_core.proofs.Settles.{Stands-new}
use Rattle.poll_core.proofs.session.Session.new.Goals as goal

pub returns-clause-stands : goal.returns-clause-stands
returns-clause-stands c =
    let one : OneReading = record { exists = c.one_reading.ensures.exists; only = c.one_reading.ensures.only } in
    rw c.new-2.ensures (Stands-new one _ _ _ c.new.ensures.reads)

use Rattle.std.proofs.Common.{[]}
use Rattle.stored_office.proofs.runs.runs.run_created.Goals as goal

pub returns-in-Ok-run_stored : goal.returns-in-Ok-run_stored
returns-in-Ok-run_stored g c =
    c.in-Ok-run_stored.ensures.headline c.args.zone.now [] (record { accepted = tt; planned = tt }) c.in-Ok.ensures.none

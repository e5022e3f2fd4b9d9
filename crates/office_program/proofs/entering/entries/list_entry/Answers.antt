use Rattle.office_program.proofs.EnteringLemmas.Entries.{list_faulty, list_read}
use Rattle.office_program.proofs.entering.entries.list_entry.Goals as goal

pub returns-in-Ok-new : goal.returns-in-Ok-new
returns-in-Ok-new c =
    list_read c.args.caller c.args.number c.args.device c.args.text.now c.args.request _ c.in-Ok-new.list c.in-Ok.ensures.list c.in-Ok-new.ensures.points
    c.in-Ok-new.ensures.planned

pub returns-in-Faults : goal.returns-in-Faults
returns-in-Faults c =
    list_faulty c.args.caller c.args.number c.args.device c.args.text.now c.args.request c.in-Err.fault c.in-Faults.faults c.in-Faults.is c.in-Err.ensures.faults

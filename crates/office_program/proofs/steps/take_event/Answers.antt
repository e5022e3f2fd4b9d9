use Rattle.office_program.proofs.Wires.{kept_none}
use Rattle.office_program.proofs.steps.take_event.Goals as goal

pub returns-in-Ok-Idle-clause-taken : goal.returns-in-Ok-Idle-clause-taken
returns-in-Ok-Idle-clause-taken g c = kept_none _ _ (rw c.in-Ok-Idle.field-0-is at c.in-Ok-Idle.ensures.bytes)

pub returns-in-Ok-End-clause-taken : goal.returns-in-Ok-End-clause-taken
returns-in-Ok-End-clause-taken g c = let bytes = rw c.in-Ok-End.field-0-is at c.in-Ok-End.ensures.bytes in kept_none _ _ bytes.0

pub returns-in-Err-clause-taken : goal.returns-in-Err-clause-taken
returns-in-Err-clause-taken g c = kept_none _ _ c.in-Err.ensures.bytes

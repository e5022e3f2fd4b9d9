-- The stages of a device's polling round, from its connection to its end.
use Rattle.std.specs.Prelude.{Bool, true, false}
use Rattle.poll_core.specs.declared.outcome.Closing.{Closing}
use Rattle.office_program.specs.declared.device_rounds.stage.Stage.{Stage}
use Rattle.office_program.specs.declared.device_rounds.stage.Stage.TheVariants.{Off, Joining, Starting, Waiting, Leaving}

-- True if a polling round generates an event for the office (the event engine) at this stage of the
-- round. It does at the stages `Joining`, `Starting` and `Leaving`.
abbrev pub has_request : Stage → Bool
has_request Off = false
has_request Joining = true
has_request Starting = true
has_request Waiting = false
has_request (Leaving closing) = true

-- The stage of a polling round after the connection to its device ended.
--
-- If the event engine has processed the event `Connected`, the polling round generates the event
-- `Gone` with the cause `closing`. If the round was already ending, its earlier cause is kept.
abbrev pub left : Closing → Stage → Stage
left closing Off = Off
left closing Joining = Off
left closing Starting = Leaving closing
left closing Waiting = Leaving closing
left closing (Leaving before) = Leaving before

-- Defines the exit statuses of the commands of `sunreg`.
use Rattle.std.specs.Prelude.{ℕ, ◌<◌}
use Rattle.command_io.specs.declared.status.ExitStatus.{ExitStatus}
use Rattle.command_io.specs.declared.status.ExitStatus.TheVariants as status
use Rattle.stored_files.specs.declared.ends.ending.Ending.{Ending}
use Rattle.stored_files.specs.declared.ends.ending.Ending.TheVariants.{Fine, Refused, Wrong, NoText, NoZone, NoDay, Backward, NoSeal, Twice, Failed}
use Rattle.stored_files.specs.declared.ends.failure.Failure.{Failure}
use Rattle.stored_files.specs.declared.ends.failure.Failure.TheVariants.{Streams}

-- The exit status of a command. It is 0 for success, 1 for a refusal, 2 for wrong arguments, and 3
-- for a failure of files, streams, sockets or memory.
abbrev pub ending_number : Ending → ℕ
ending_number Fine = 0
ending_number Refused = 1
ending_number (Wrong text) = 2
ending_number NoText = 2
ending_number (NoZone zone) = 2
ending_number (NoDay option word) = 2
ending_number Backward = 2
ending_number (NoSeal file) = 2
ending_number (Twice file) = 2
ending_number (Failed failure) = 3

-- True if a message on standard error reports how the command ended. Only endings with an exit
-- status greater than 1 have such a message, not success (0) or a refusal (1).
abbrev pub IsReported : Ending → Type 0
IsReported ending = 1 < ending_number ending

-- How a command with the given exit status ended. Here, the status `Failed` means that standard
-- input or standard output failed, or that memory ran out.
abbrev pub ending_of : ExitStatus → Ending
ending_of status.Fine = Fine
ending_of status.Refused = Refused
ending_of status.Failed = Failed Streams

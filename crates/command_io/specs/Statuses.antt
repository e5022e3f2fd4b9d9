-- The exit status of the process as a number.
use Rattle.std.specs.Prelude.{ℕ}
use Rattle.command_io.specs.declared.status.ExitStatus.{ExitStatus}
use Rattle.command_io.specs.declared.status.ExitStatus.TheVariants.{Fine, Refused, Failed}

-- The number with which the process exits.
abbrev pub status_number : ExitStatus → ℕ
status_number Fine = 0
status_number Refused = 1
status_number Failed = 3

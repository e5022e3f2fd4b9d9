-- The numeric codes under which the program prints the outcomes of polls and their causes.
use Rattle.std.specs.Prelude.{ℕ}
use Rattle.mb_wire.specs.declared.replies.ReplyFault.{ReplyFault}
use Rattle.mb_wire.specs.declared.replies.ReplyFault.TheVariants as fault
use Rattle.poll_core.specs.declared.outcome.Outcome.{Outcome}
use Rattle.poll_core.specs.declared.outcome.Outcome.TheVariants.{Answered, Exception, Silent, Malformed, Lost}
use Rattle.poll_core.specs.declared.outcome.Malformation.{Malformation}
use Rattle.poll_core.specs.declared.outcome.Malformation.TheVariants as malformation
use Rattle.poll_core.specs.declared.outcome.LostCause.{LostCause}
use Rattle.poll_core.specs.declared.outcome.LostCause.TheVariants as cause
use Rattle.poll_core.specs.declared.outcome.Closing.{Closing}
use Rattle.poll_core.specs.declared.outcome.Closing.TheVariants as closing

-- The numeric code of each kind of malformed response.
abbrev pub malformation_number : Malformation → ℕ
malformation_number malformation.WrongFunction = 1
malformation_number malformation.WrongLength = 2
malformation_number malformation.WrongByteCount = 3
malformation_number malformation.WrongEcho = 4
malformation_number malformation.WrongUnit = 5

-- The numeric code of each cause of a lost poll.
abbrev pub cause_number : LostCause → ℕ
cause_number cause.Gone = 1
cause_number cause.Garbled = 2
cause_number cause.Failed = 3
cause_number cause.Restart = 4

-- The numeric code of each kind of a poll's outcome.
abbrev pub outcome_number : Outcome → ℕ
outcome_number Answered = 1
outcome_number (Exception code) = 2
outcome_number Silent = 3
outcome_number (Malformed wrong) = 4
outcome_number (Lost why) = 5

-- The second numeric code that is printed for a poll's outcome: the exception code, or the code of
-- the malformation or of the cause of the loss. Other outcomes have 0.
abbrev pub outcome_code : Outcome → ℕ
outcome_code Answered = 0
outcome_code (Exception code) = code
outcome_code Silent = 0
outcome_code (Malformed wrong) = malformation_number wrong
outcome_code (Lost why) = cause_number why

-- The malformation (the kind of an invalid response) that the poll's outcome reports for a response
-- with this fault.
abbrev pub malformation_by : ReplyFault → Malformation
malformation_by fault.WrongFunction = malformation.WrongFunction
malformation_by fault.WrongLength = malformation.WrongLength
malformation_by fault.WrongByteCount = malformation.WrongByteCount
malformation_by fault.WrongEcho = malformation.WrongEcho

-- The cause that is reported for polls lost when the connection closes.
abbrev pub cause_of : Closing → LostCause
cause_of closing.Gone = cause.Gone
cause_of closing.Failed = cause.Failed

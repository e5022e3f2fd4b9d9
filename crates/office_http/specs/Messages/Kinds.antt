-- The kind of an executed command, as the response reports it.
use Rattle.std.specs.Prelude.{List, ℕ, ◌++◌, codes, Option, Some, None}
use Rattle.office_events.specs.declared.answers.Answer.{Answer}
use Rattle.office_events.specs.declared.answers.Answer.TheVariants.{Noted, Done, Again, Started}
use Rattle.office_events.specs.declared.answers.CommandKind.{CommandKind}
use Rattle.office_events.specs.declared.answers.CommandKind.TheVariants as kind

-- The name of a command's kind in a response.
abbrev pub kind_name : CommandKind → List ℕ
kind_name kind.Device = codes "device"
kind_name kind.List = codes "list"
kind_name kind.Register = codes "register"
kind_name kind.Install = codes "install"
kind_name kind.Exchange = codes "exchange"
kind_name kind.Reset = codes "reset"
kind_name kind.Rescale = codes "rescale"
kind_name kind.Manual = codes "manual"
kind_name kind.Close = codes "close"
kind_name kind.Void = codes "void"
kind_name kind.Start = codes "start"

-- The JSON body of the response to an executed command, with the command's kind.
abbrev pub done_text : CommandKind → List ℕ
done_text k = codes "{\"done\":\"" ++ kind_name k ++ codes "\"}"

-- The kind of the executed command. For a duplicate request (same idempotency key), this is the
-- kind of the earlier command. None if the event was no command.
abbrev pub kind_answered : Answer → Option CommandKind
kind_answered Noted = None
kind_answered (Done k) = Some k
kind_answered (Again k) = Some k
kind_answered (Started first count of) = Some kind.Start

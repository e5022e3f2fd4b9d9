-- Defines which results of a command's task, such as a round of polls, lead to further messages on
-- standard error.
use Rattle.std.specs.Prelude.{Bool, true, false, Result, Ok, Err}
use Rattle.command_io.specs.declared.status.ExitStatus.{ExitStatus}
use Rattle.command_io.specs.declared.status.ExitStatus.TheVariants as status
use Rattle.office_program.specs.declared.port_round.PollEnd.{PollEnd}
use Rattle.office_program.specs.declared.port_round.PollEnd.TheVariants.{Polled, Unopened, Unconnected}
use Rattle.office_program.specs.declared.http_port.ServeEnd.{ServeEnd}
use Rattle.office_program.specs.declared.http_port.ServeEnd.TheVariants as serving
use Rattle.office_program.specs.declared.fault.RoundFault.{RoundFault}
use Rattle.office_program.specs.declared.fault.RoundFault.TheVariants.{Refused}
use Rattle.stored_office.specs.declared.tasks.tasks.Done.{Done}
use Rattle.stored_office.specs.declared.tasks.tasks.Done.TheVariants as task

-- True if a round of polls was completed, or ended because the office, which checks all events
-- against its rules, refused an event.
abbrev pub is_finished : Result (Unit {0}) RoundFault → Bool
is_finished (Ok x) = true
is_finished (Err (Refused why)) = true
is_finished (Err _) = false

-- True if the exit status means that the office refused an event, such as a poll's start.
abbrev pub is_refusal : ExitStatus → Bool
is_refusal status.Refused = true
is_refusal _ = false

-- True if explanatory messages on standard error follow a round of polls. They follow if the round
-- was completed, or if the office (the part that checks and records events) refused to start or
-- refused a poll. Any other failure has its own message.
abbrev pub has_messages : PollEnd → Bool
has_messages (Polled done) = is_finished done
has_messages (Unopened why) = is_refusal why
has_messages Unconnected = false

-- True if a task that serves HTTP ended because the office (the part that checks and records
-- events) refused to start.
abbrev pub is_refused_serving : ServeEnd → Bool
is_refused_serving serving.Served = false
is_refused_serving (serving.Unopened why) = is_refusal why
is_refused_serving serving.NoPort = false
is_refused_serving serving.Broken = false

abbrev pub is_refused_polling : PollEnd → Bool
is_refused_polling (Polled done) = false
is_refused_polling (Unopened why) = is_refusal why
is_refused_polling Unconnected = false

-- True if a task may have failed because the latest record in the database is later than the clock.
-- The task itself prints only the numeric code of the refusal, and not this cause.
abbrev pub may_be_ahead : Done → Bool
may_be_ahead (task.Reported status) = false
may_be_ahead (task.Served end) = is_refused_serving end
may_be_ahead (task.Entered status) = is_refusal status
may_be_ahead (task.Polled end) = is_refused_polling end
may_be_ahead (task.Ran end) = false

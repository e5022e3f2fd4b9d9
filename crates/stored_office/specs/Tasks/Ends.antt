-- Defines the exit statuses of the tasks that the program executes on a database.
use Rattle.std.specs.Prelude.{ℕ, Result, Ok, Err}
use Rattle.command_io.specs.Statuses.{status_number}
use Rattle.office_program.specs.Texts.Rounds.{round_status}
use Rattle.office_program.specs.declared.port_round.PollEnd.{PollEnd}
use Rattle.office_program.specs.declared.port_round.PollEnd.TheVariants as polling
use Rattle.office_program.specs.declared.http_port.ServeEnd.{ServeEnd}
use Rattle.office_program.specs.declared.http_port.ServeEnd.TheVariants as serving
use Rattle.office_running.specs.declared.fault.RunFault.{RunFault}
use Rattle.office_running.specs.declared.fault.RunFault.TheVariants as run
use Rattle.stored_files.specs.declared.ends.failure.Failure.{Failure}
use Rattle.stored_office.specs.declared.tasks.tasks.Done.{Done}
use Rattle.stored_office.specs.declared.tasks.tasks.Done.TheVariants.{Reported, Served, Entered, Polled, Ran}

-- The exit status of the command `serve`, which serves HTTP.
abbrev pub serving_number : ServeEnd → ℕ
serving_number serving.Served = 0
serving_number (serving.Unopened why) = status_number why
serving_number serving.NoPort = 3
serving_number serving.Broken = 3

-- The exit status of the command that polls a device once.
abbrev pub polling_number : PollEnd → ℕ
polling_number (polling.Polled done) = status_number (round_status done)
polling_number (polling.Unopened why) = status_number why
polling_number polling.Unconnected = 3

-- The exit status of the command `run`, which polls devices on a schedule and serves HTTP.
abbrev pub run_number : Result (Unit {0}) RunFault → ℕ
run_number (Ok _) = 0
run_number (Err (run.Unopened why)) = status_number why
run_number (Err run.Port) = 3
run_number (Err run.Sockets) = 3
run_number (Err run.Output) = 3
run_number (Err run.Stopped) = 3
run_number (Err run.Memory) = 3

-- The exit status of a command, from the result of its task.
abbrev pub done_number : Result Done Failure → ℕ
done_number (Ok (Reported status)) = status_number status
done_number (Ok (Served end)) = serving_number end
done_number (Ok (Entered status)) = status_number status
done_number (Ok (Polled end)) = polling_number end
done_number (Ok (Ran end)) = run_number end
done_number (Err failure) = 3

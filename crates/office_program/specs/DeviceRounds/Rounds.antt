-- How a connection, and the event engine's answers and notifications, change the state of a polling
-- round.
use Rattle.std.specs.Prelude.{ℕ, ◌+◌, ◌-◌, ◌^◌, ◌==◌, nat_lt, nat_le, min, Bool, true, false, List, [], ◌++◌, length, Option, Some, None, Result, Ok, Err, if◌then◌else◌}
use Rattle.std.specs.List.{filter}
use Rattle.poll_core.specs.declared.outcome.Closing.{Closing}
use Rattle.poll_core.specs.declared.outcome.Closing.TheVariants as closing
use Rattle.office_events.specs.declared.answers.Answer.{Answer}
use Rattle.office_events.specs.declared.answers.Answer.TheVariants as answer
use Rattle.office_events.specs.declared.answers.Note.{Note}
use Rattle.office_events.specs.declared.commands.Command.TheVariants as command
use Rattle.office_events.specs.declared.events.Event.{Event}
use Rattle.office_events.specs.declared.events.Event.TheVariants as event
use Rattle.office_events.specs.declared.refusals.Refusal.{Refusal}
use Rattle.office_program.specs.DeviceRounds.Polls.{numbers, waits}
use Rattle.office_program.specs.DeviceRounds.Stages as stages
use Rattle.office_program.specs.DeviceRounds.Sums as sums
use Rattle.office_program.specs.declared.device_rounds.round.Round.{Round}
use Rattle.office_program.specs.declared.device_rounds.stage.Stage.{Stage}
use Rattle.office_program.specs.declared.device_rounds.stage.Stage.TheVariants.{Off, Joining, Starting, Waiting, Leaving}

-- The polling round of a device that is not connected. The round generates no event until the
-- device connects.
abbrev pub unconnected : (device : Option (List ℕ)) → Round
unconnected device = record {
  device = device;
  stage = Off;
  polls = record { items = [] };
  started = 0;
  planned = 0;
  sum = sums.none;
}

-- True if the polling round generates an event for the office (the event engine).
abbrev pub has_request : Round → Bool
has_request round = stages.has_request round.stage

-- The event that a polling round generates at a stage: `Connected`, a start of the remaining Modbus
-- reads, or `Gone`. `None` if the round waits for responses, or its device is not connected.
abbrev pub wish_at : Stage → (device : Option (List ℕ)) → (started : ℕ) → Option Event
wish_at Off device started = None
wish_at Joining device started = Some (event.Connected device)
wish_at Starting device started =
    Some (event.Command (command.StartRound (record { device = device; from = started })))
wish_at Waiting device started = None
wish_at (Leaving closing) device started = Some (event.Gone device closing)

-- The event that the polling round generates for the event engine, or `None` if the round generates
-- no event.
abbrev pub wish_of : Round → Option Event
wish_of round = wish_at round.stage round.device round.started

-- The polling round after its device connected, by the round's stage before the connection: a new
-- round if no round was running (`Off`), otherwise the unchanged round.
abbrev pub joined_at : Stage → Round → Round
joined_at Off round = record {
  device = round.device;
  stage = Joining;
  polls = record { items = [] };
  started = 0;
  planned = 0;
  sum = sums.none;
}
joined_at Joining round = round
joined_at Starting round = round
joined_at Waiting round = round
joined_at (Leaving closing) round = round

-- The state of a polling round after its device connected.
--
-- If no polling round was running (stage `Off`), then a new round begins. Otherwise the round is
-- unchanged.
abbrev pub joined : Round → Round
joined round = joined_at round.stage round

-- The polling round after the connection to its device ended.
abbrev pub leaving : Closing → Round → Round
leaving closing round = record round { stage = stages.left closing round.stage }

-- The polling round after a fault. Its last event will be `Gone` (the device is disconnected), with
-- the cause `Failed`.
abbrev pub broken_off : Round → Round
broken_off round = record round { stage = Leaving closing.Failed }

-- The stage of a polling round after Modbus reads were started. If a poll is pending, the round
-- waits for responses. Otherwise the round ends.
abbrev pub stage_after : List ℕ → Stage
stage_after polls = if length polls == 0 then Leaving closing.Gone else Waiting

-- The polling round after `count` of its polls were started. The poll numbers begin with `first`.
abbrev pub begun : (first count planned : ℕ) → Round → Round
begun first count planned round = record {
  device = round.device;
  stage = stage_after (round.polls.items ++ numbers first count);
  polls = record { items = round.polls.items ++ numbers first count };
  started = min (round.started + count) (2 ^ 64 - 1);
  planned = planned;
  sum = round.sum;
}

-- The polling round after the event engine's answer to its start of Modbus reads.
--
-- If the event engine's answer is not `Started`, or more than 16 polls would be pending (without an
-- outcome), the polling round ends early.
abbrev pub started_by : Answer → Round → Round
started_by answer.Noted round = broken_off round
started_by (answer.Done kind) round = broken_off round
started_by (answer.Again kind) round = broken_off round
started_by (answer.Started first count of) round =
    if nat_le (length round.polls.items + count) 16 then begun first count of round
    else broken_off round

-- The polling round after the event engine's answer to the round's event, by the round's stage
-- before the answer.
--
-- After `Connected` the polling round starts its Modbus reads. If the event engine refused
-- `Connected`, or answered `Gone`, then the round is over. Any other refusal ends the round early.
abbrev pub answered_at : Stage → Result Answer Refusal → Round → Round
answered_at Off result round = round
answered_at Joining (Ok given) round = record round { stage = Starting }
answered_at Joining (Err why) round = record round { stage = Off }
answered_at Starting (Ok given) round = started_by given round
answered_at Starting (Err why) round = broken_off round
answered_at Waiting (Ok given) round = round
answered_at Waiting (Err why) round = broken_off round
answered_at (Leaving closing) result round = record round { stage = Off }

-- The polling round after the event engine answered the event that the round generated.
abbrev pub answered : Result Answer Refusal → Round → Round
answered result round = answered_at round.stage result round

-- The polling round after one of its polls ended. The round starts the remaining Modbus reads. If
-- no read remains and no poll is pending, the round disconnects.
abbrev pub gone_on : Round → Round
gone_on round =
    if nat_lt round.started round.planned then record round { stage = Starting }
    else if length round.polls.items == 0 then record round { stage = Leaving closing.Gone }
    else round

-- The polling round after the event engine's notifications of an event, by the round's stage before
-- them. `ended` is true if the notifications end one of the round's polls.
abbrev pub going_on : Stage → (ended : Bool) → Round → Round
going_on Off ended round = round
going_on Joining ended round = round
going_on Starting ended round = round
going_on Waiting true round = gone_on round
going_on Waiting false round = round
going_on (Leaving closing) ended round = round

-- The polls of the polling round that are still pending (without an outcome) after the event
-- engine's notifications `notes`. A notification can report a poll's outcome.
abbrev pub polls_left : List Note → Round → List ℕ
polls_left notes round = filter (waits notes) round.polls.items

-- The state of a polling round after the event engine reported an event's outcomes and readings:
-- the ended polls are no longer pending, and the sums are updated.
abbrev pub heard : List Note → Round → Round
heard notes round =
    going_on round.stage (nat_lt (length (polls_left notes round)) (length round.polls.items))
    (record round {
      polls = record { items = polls_left notes round };
      sum = sums.noted_all round.polls.items notes round.sum;
    })

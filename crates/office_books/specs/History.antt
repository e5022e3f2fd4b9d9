-- The starts of the program and the events that the program accepted, and the records that follow
-- from them.
use Rattle.std.specs.Prelude.{ℕ, ◌+◌, ◌==◌, List, [], ◌∷◌, ◌++◌, map, drop, reverse, Option, Some, None, length, if◌then◌else◌}
use Rattle.std.specs.Option.{option_map, option_and_then, option_to_list}
use Rattle.poll_core.specs.Settling as session
use Rattle.poll_core.specs.declared.outcome.Outcome.{Outcome}
use Rattle.poll_core.specs.declared.outcome.Outcome.TheVariants as outcome
use Rattle.poll_core.specs.declared.outcome.LostCause.TheVariants.{Restart}
use Rattle.mb_wire.specs.declared.span.ReadFunction.{ReadFunction}
use Rattle.mb_wire.specs.declared.span.ReadFunction.TheVariants.{HoldingRegisters, InputRegisters}
use Rattle.office_events.specs.declared.facts.Device.{Device}
use Rattle.office_events.specs.declared.facts.Poll.{Poll}
use Rattle.office_events.specs.declared.facts.ScaleSource.{ScaleSource}
use Rattle.office_events.specs.declared.facts.ScaleSource.TheVariants as source
use Rattle.office_events.specs.declared.facts.Fact.{Fact}
use Rattle.office_events.specs.declared.facts.Fact.TheVariants as fact
use Rattle.office_events.specs.declared.commands.GivenScale.{GivenScale}
use Rattle.office_events.specs.declared.commands.GivenScale.TheVariants as given
use Rattle.office_events.specs.declared.commands.AddRegister.{AddRegister}
use Rattle.office_events.specs.declared.commands.Install.{Install}
use Rattle.office_events.specs.declared.commands.Exchange.{Exchange}
use Rattle.office_events.specs.declared.answers.CommandKind.{CommandKind}
use Rattle.office_events.specs.declared.answers.CommandKind.TheVariants as done
use Rattle.office_events.specs.declared.events.Asked.{Asked}
use Rattle.office_events.specs.declared.questions.Installation.{Installation}
use Rattle.read_plan.specs.PlannedLists.{Planned}
use Rattle.energy_core.specs.declared.entries.Last.{Last}
use Rattle.energy_core.specs.declared.entries.Entry.{Entry}
use Rattle.energy_core.specs.declared.entries.Entry.TheVariants as entry
use Rattle.meter_journal.specs.declared.lines.EntryKind.{EntryKind}
use Rattle.meter_journal.specs.declared.lines.EntryKind.TheVariants as kind
use Rattle.mb_wire.specs.declared.span.ReadSpan.{ReadSpan}
use Rattle.office_books.specs.Meters.{open_at}
use Rattle.office_events.specs.declared.commands.Command.{Command}
use Rattle.office_events.specs.declared.commands.Command.TheVariants as command
use Rattle.office_events.specs.declared.events.Event.{Event}
use Rattle.office_events.specs.declared.events.Event.TheVariants as event
use Rattle.office_books.specs.Facts.{polls_in, poll_of, pending_in, list_of}
use Rattle.office_books.specs.Readings.{with_reply}
use Rattle.office_books.specs.Sessions.{Slot, Send, slot_of, command_in, started_on, sends_at, reaches, device_by, slots_after, slot_restarted}

-- An accepted start of the program, or an accepted event.
pub data Accepted : Type 0 where
  Opened : (at : ℕ) → Accepted
  Fed : (at : ℕ) → (event : Event) → Accepted

-- All accepted starts of the program and all accepted events. The latest comes first.
abbrev pub History : Type 0
History = List Accepted

-- The timestamp of the latest accepted start of the program or event, or 0 if nothing was accepted.
abbrev pub latest_of : History → ℕ
latest_of [] = 0
latest_of (Opened at ∷ past) = at
latest_of (Fed at e ∷ past) = at

-- The number of the next poll, which is one more than the number of recorded polls.
abbrev pub next_poll : List Fact → ℕ
next_poll facts = length (polls_in facts) + 1

-- The recorded outcome of a poll: the kind of its result, without the register values of a
-- response.
abbrev pub outcome_of : session.Settlement → Outcome
outcome_of (session.Answered words) = outcome.Answered
outcome_of (session.Exception code) = outcome.Exception code
outcome_of session.Silent = outcome.Silent
outcome_of (session.Malformed malformation) = outcome.Malformed malformation
outcome_of (session.Lost cause) = outcome.Lost cause

-- The records after the readings in the response to a poll are added. If the poll was not answered,
-- nothing is added.
abbrev pub with_words : ℕ → (number : ℕ) → session.Settlement → List Fact → List Fact
with_words at number (session.Answered words) facts =
    with_reply at (poll_of facts number) words facts
with_words at number _ facts = facts

-- The records after the outcome of a poll is added, followed by the readings in its response.
abbrev pub with_outcome : ℕ → (ℕ × session.Settlement) → List Fact → List Fact
with_outcome at settled facts =
    with_words at settled.0 settled.1
    (fact.Outcome (record { poll = settled.0; at = at; outcome = outcome_of settled.1 }) ∷ facts)

-- The records after the outcomes of several polls are added in order, each followed by its
-- readings.
abbrev pub with_outcomes : ℕ → List (ℕ × session.Settlement) → List Fact → List Fact
with_outcomes at [] facts = facts
with_outcomes at (settled ∷ later) facts = with_outcomes at later (with_outcome at settled facts)

-- The polls that a list of session events ends, in order, each with its result. A session is a
-- connection of a device. The first list has the earlier events of the session.
abbrev pub settled_in : Device → List session.Event → List session.Event
    → List (ℕ × session.Settlement)
settled_in device before [] = []
settled_in device before (happening ∷ later) =
    session.outcomes_at device.timeout before happening
    ++ settled_in device (before ++ happening ∷ []) later

-- The polls that an event of the program ends on the session (connection) of a device, each with
-- its result. Without a session, no poll ends.
abbrev pub settled_on : (number at : ℕ) → Event → Device → Option (List session.Event)
    → List (ℕ × session.Settlement)
settled_on number at e device None = []
settled_on number at e device (Some before) =
    settled_in device before (reaches number at [] e device before)

-- The polls that an event of the program ends for the device of a slot (a device with its Modbus
-- sessions), each with its result.
abbrev pub settled_by : (number at : ℕ) → Event → Slot → List (ℕ × session.Settlement)
settled_by number at e slot = settled_on number at e slot.device slot.present

-- The records after the outcomes of all polls that an event ends are added. The devices are
-- processed in the order in which they were added.
abbrev pub with_settled : (number at : ℕ) → Event → List Slot → List Fact → List Fact
with_settled number at e [] facts = facts
with_settled number at e (slot ∷ slots) facts =
    with_settled number at e slots (with_outcomes at (settled_by number at e slot) facts)

-- The read function for the Modbus function code in a command. An accepted command has the code 3
-- or 4.
abbrev pub function_by : ℕ → ReadFunction
function_by function = if function == 3 then HoldingRegisters else InputRegisters

-- The source of an accounting register's scale factor, as the command
-- states it. The source is a fixed scale factor or a Modbus address.
abbrev pub scale_by : GivenScale → ScaleSource
scale_by (given.Fixed sf) = source.Fixed sf
scale_by (given.Register address) = source.Register address

-- The record of a new accounting register (an energy counter), with its name and the name of its
-- device.
abbrev pub register_by : AddRegister → (name device : List ℕ) → Fact
register_by c name device =
    fact.Register
    (record {
      name = name;
      device = device;
      function = function_by c.function;
      address = c.address;
      scale = scale_by c.scale;
    })

-- The opening (installation record) of a new meter at an accounting register (an energy counter),
-- with the given timestamp.
abbrev pub opening_by : ℕ → Install → (register meter : List ℕ) → Fact
opening_by at c register meter =
    fact.Opening (record {
      meter = meter;
      register = register;
      ceiling = c.ceiling;
      range = c.range;
      at = at;
      raw = c.raw;
      sf = c.sf;
    })

-- The installation command for the new meter in an exchange of meters. The new meter is installed
-- after the old meter is closed.
abbrev pub installed_by : Exchange → Install
installed_by c =
    record {
      register = c.register;
      meter = c.meter;
      raw = c.raw;
      sf = c.sf;
      ceiling = c.ceiling;
      range = c.range;
    }

-- The timestamp of a manual reading: the time that the command states, or the time of the command
-- itself if the command states no time.
abbrev pub read_at : (at : ℕ) → Option ℕ → ℕ
read_at at None = at
read_at at (Some earlier) = earlier

-- The parameters of the entry that a command makes: its accounting register (an energy counter),
-- its kind, and the entry itself (times and counter values).
pub record Made : Type 0 where
  pub register : Option (List ℕ)
  pub kind : EntryKind
  pub entry : Entry

-- The entry that a command records for a meter with the counter's state `last`, or `None` if the
-- command records no entry.
abbrev pub made_by : (at : ℕ) → Last → Command → Option Made
made_by at last (command.Exchange c) =
    Some (record {
      register = c.register;
      kind = kind.Closing;
      entry = entry.Step at c.last c.rolls;
    })
made_by at last (command.Reset c) =
    Some (record {
      register = c.register;
      kind = kind.Reset;
      entry = entry.Change at c.before c.after last.sf;
    })
made_by at last (command.Rescale c) =
    Some (record {
      register = c.register;
      kind = kind.Rescale;
      entry = entry.Change at c.before c.after c.sf;
    })
made_by at last (command.Manual c) =
    Some (record {
      register = c.register;
      kind = kind.Manual;
      entry = entry.Step (read_at at c.at) c.raw c.rolls;
    })
made_by at last (command.Close c) =
    Some (record {
      register = c.register;
      kind = kind.Closing;
      entry = entry.Step at c.raw c.rolls;
    })
made_by at last _ = None

-- The accounting register (an energy counter) for whose meter a command records an entry. `None` if
-- the command records no entry or the name is invalid.
abbrev pub corrected_at : Command → Option (List ℕ)
corrected_at (command.Exchange c) = c.register
corrected_at (command.Reset c) = c.register
corrected_at (command.Rescale c) = c.register
corrected_at (command.Manual c) = c.register
corrected_at (command.Close c) = c.register
corrected_at _ = None

-- The record of the entry that a command makes for an installed meter, or `None` if the command
-- makes no entry.
abbrev pub made_on : (at : ℕ) → Command → Installation → Option Fact
made_on at c row = option_map
    (λ made. fact.Entry
    (record { meter = row.opening.meter; kind = made.kind; entry = made.entry }))
    (made_by at row.last c)

-- The record of the entry that a command makes for the open meter of the command's accounting
-- register (a named energy counter). The list is empty if the command makes no entry or no meter is
-- open.
abbrev pub entries_by : (at : ℕ) → List Fact → Command → List Fact
entries_by at facts c =
    option_to_list
    (option_and_then (made_on at c) (option_and_then (open_at facts) (corrected_at c)))

-- The opening (installation record) of the meter that a command installs. The list is empty if one
-- of the names is invalid.
abbrev pub openings_by : (at : ℕ) → Install → List Fact
openings_by at c =
    option_to_list
    (option_and_then (λ register. option_map (λ meter. opening_by at c register meter) c.meter)
    c.register)

-- The Modbus reads that cover the points of a point list, in order.
abbrev pub reads_of : Planned → List ReadSpan
reads_of list = map (λ read. read.span) list.reads

-- The reads of a polling round: those of the device's plan (the Modbus reads that cover its point
-- list) from the index `from` to the end. Without a point list, there are no reads.
abbrev pub round_spans : (from : ℕ) → Option Planned → List ReadSpan
round_spans from None = []
round_spans from (Some list) = drop from (reads_of list)

-- The reads that a command requests. A command that starts no polls requests none.
abbrev pub spans_by : List Fact → Command → List ReadSpan
spans_by facts (command.StartPoll c) = c.span ∷ []
spans_by facts (command.StartRound c) =
    round_spans c.from (option_and_then (list_of facts) c.device)
spans_by facts _ = []

-- The reads that the command in an event of the program requests. An event without a command
-- requests none.
abbrev pub spans_in : List Fact → Option Command → List ReadSpan
spans_in facts None = []
spans_in facts (Some c) = spans_by facts c

-- The reads that a device's Modbus session can start, from the first of the given reads on. No read
-- starts if the device does not exist.
abbrev pub sends_from : (number at : ℕ) → List ReadSpan → Option Slot → List Send
sends_from number at spans None = []
sends_from number at spans (Some slot) = sends_at number at slot.device slot.present spans

-- The reads that a command starts on the Modbus session of its device.
abbrev pub sends_by : (number at : ℕ) → List Slot → List Fact → Command → List Send
sends_by number at slots facts c =
    sends_from number at (spans_by facts c) (slot_of slots (started_on c))

-- The record of a poll, whose read starts on a device at the timestamp `at`.
abbrev pub poll_by : (at : ℕ) → Device → Send → Fact
poll_by at device send =
    fact.Poll (record {
      number = send.number;
      device = device.name;
      unit = device.unit;
      at = at;
      id = send.id;
      span = send.span;
    })

-- The records of the polls that a device's Modbus session can start for the given reads. The list
-- is empty if the device does not exist.
abbrev pub polls_from : (number at : ℕ) → List ReadSpan → Option Slot → List Fact
polls_from number at spans None = []
polls_from number at spans (Some slot) =
    map (poll_by at slot.device) (sends_at number at slot.device slot.present spans)

-- The records that a command adds, in order. The list is empty for an invalid name, which no
-- accepted command has.
abbrev pub added_by : (number at : ℕ) → List Slot → List Fact → Command → List Fact
added_by number at slots facts (command.AddDevice c) =
    option_to_list (option_map fact.Device (device_by c))
added_by number at slots facts (command.PutList c) =
    option_to_list
    (option_map (λ device. fact.List (record { device = device; list = c.list })) c.device)
added_by number at slots facts (command.AddRegister c) =
    option_to_list
    (option_and_then (λ name. option_map (λ device. register_by c name device) c.device) c.name)
added_by number at slots facts (command.Install c) = openings_by at c
added_by number at slots facts (command.Exchange c) =
    entries_by at facts (command.Exchange c) ++ openings_by at (installed_by c)
added_by number at slots facts (command.Reset c) = entries_by at facts (command.Reset c)
added_by number at slots facts (command.Rescale c) = entries_by at facts (command.Rescale c)
added_by number at slots facts (command.Manual c) = entries_by at facts (command.Manual c)
added_by number at slots facts (command.Close c) = entries_by at facts (command.Close c)
added_by number at slots facts (command.Void c) =
    option_to_list
    (option_map (λ meter. fact.Void (record { meter = meter; place = c.place; at = at })) c.meter)
added_by number at slots facts (command.StartPoll c) =
    polls_from number at (c.span ∷ []) (slot_of slots c.device)
added_by number at slots facts (command.StartRound c) =
    polls_from number at (round_spans c.from (option_and_then (list_of facts) c.device))
    (slot_of slots c.device)

-- The kind of a command, which is stored with the response to the command's request.
abbrev pub kind_of : Command → CommandKind
kind_of (command.AddDevice c) = done.Device
kind_of (command.PutList c) = done.List
kind_of (command.AddRegister c) = done.Register
kind_of (command.Install c) = done.Install
kind_of (command.Exchange c) = done.Exchange
kind_of (command.Reset c) = done.Reset
kind_of (command.Rescale c) = done.Rescale
kind_of (command.Manual c) = done.Manual
kind_of (command.Close c) = done.Close
kind_of (command.Void c) = done.Void
kind_of (command.StartPoll c) = done.Start
kind_of (command.StartRound c) = done.Start

-- The record of the response to a request. The list is empty if the caller's name is invalid.
abbrev pub reply_by : (at : ℕ) → Asked → List Fact
reply_by at asked = option_to_list (option_map
    (λ caller. fact.Reply
    (record {
      caller = caller;
      number = asked.number;
      request = asked.request;
      kind = kind_of asked.command;
      at = at;
    }))
    asked.caller)

-- The records after an event. `slots` contains the devices with their sessions (connections) before
-- the event, and `number` is the number of the next poll.
abbrev pub facts_after : (number at : ℕ) → Event → List Slot → List Fact → List Fact
facts_after number at (event.Connected given) slots facts = facts
facts_after number at (event.Bytes given piece) slots facts =
    with_settled number at (event.Bytes given piece) slots facts
facts_after number at event.Tick slots facts = with_settled number at event.Tick slots facts
facts_after number at (event.Gone given closing) slots facts =
    with_settled number at (event.Gone given closing) slots facts
facts_after number at (event.Command c) slots facts =
    reverse (added_by number at slots facts c) ++ facts
facts_after number at (event.Asked asked) slots facts =
    reverse (added_by number at slots facts asked.command ++ reply_by at asked) ++ facts

-- The outcome record of a poll that was pending when the program restarted. The poll is lost.
abbrev pub lost : ℕ → Poll → Fact
lost at poll = fact.Outcome (record { poll = poll.number; at = at; outcome = outcome.Lost Restart })

-- The records after a start of the program. Each pending poll gets the outcome "lost".
abbrev pub with_lost : ℕ → List Fact → List Fact
with_lost at facts = reverse (map (lost at) (pending_in facts)) ++ facts

abbrev mutual
  -- The records that follow from a list of accepted starts of the program and accepted events. The
  -- latest record comes first.
  pub facts_of : History → List Fact
  facts_of [] = []
  facts_of (Opened at ∷ past) = with_lost at (facts_of past)
  facts_of (Fed at e ∷ past) =
      facts_after (next_poll (facts_of past)) at e (slots_of past) (facts_of past)

  -- The slots of all devices after a list of accepted starts of the program and accepted events. A
  -- slot contains a device and the events of its sessions (connections).
  pub slots_of : History → List Slot
  slots_of [] = []
  slots_of (Opened at ∷ past) = map slot_restarted (slots_of past)
  slots_of (Fed at e ∷ past) =
      slots_after (next_poll (facts_of past)) at (spans_in (facts_of past) (command_in e)) e
      (slots_of past)

-- The names, events and histories that the worked examples of the rules for polls and meter entries
-- use.
use Rattle.std.proofs.Common.{ℕ, ℤ, ◌++◌, pos, List, [], ◌∷◌, Option, Some, lit≤}
use Rattle.std.specs.Option.{option_map}
use Rattle.mb_wire.specs.declared.span.ReadFunction.TheVariants.{HoldingRegisters}
use Rattle.mb_wire.specs.declared.span.ReadSpan.{ReadSpan}
use Rattle.poll_core.specs.declared.outcome.Closing.TheVariants as closing
use Rattle.office_events.specs.declared.commands.GivenScale.{GivenScale}
use Rattle.office_events.specs.declared.commands.GivenScale.TheVariants as given
use Rattle.office_events.specs.declared.commands.Command.{Command}
use Rattle.office_events.specs.declared.commands.Command.TheVariants as command
use Rattle.office_events.specs.declared.events.Event.{Event}
use Rattle.office_events.specs.declared.events.Event.TheVariants as event
use Rattle.office_events.specs.declared.answers.Note.{Note}
use Rattle.office_events.specs.declared.questions.Installation.{Installation}
use Rattle.office_books.specs.Meters.{meter_of}
use Rattle.office_books.specs.History.{History, Opened, Fed, facts_of}
use Rattle.office_books.specs.Refusals.{decision_of}
use Rattle.office_books.specs.Notes.{notes_after, outgoing_after}

-- Example names of a device, an accounting register (a named energy counter), a meter and a caller.

abbrev pub inv : List ℕ
inv = 105 ∷ 110 ∷ 118 ∷ []

abbrev pub main : List ℕ
main = 109 ∷ 97 ∷ 105 ∷ 110 ∷ []

abbrev pub m1 : List ℕ
m1 = 109 ∷ 49 ∷ []

abbrev pub m2 : List ℕ
m2 = 109 ∷ 50 ∷ []

abbrev pub desk : List ℕ
desk = 100 ∷ 101 ∷ 115 ∷ 107 ∷ []

-- Example events that add a device, an accounting register (a named energy counter) and a meter,
-- and that connect and poll the device.

abbrev pub device : (name : List ℕ) → (window : ℕ) → Event
device name window = event.Command (command.AddDevice (record { name = Some name; unit = 1; timeout = 5; window = window }))

abbrev pub register : GivenScale → Event
register scale =
    event.Command (command.AddRegister (record { name = Some main; device = Some inv; function = 3; address = 40094; scale = scale }))

abbrev pub full_range : ℕ
full_range = 4294967296

abbrev pub install : (raw : ℕ) → (sf : ℤ) → (ceiling range : ℕ) → Event
install raw sf ceiling range = event.Command (command.Install (record {
  register = Some main;
  meter = Some m1;
  raw = raw;
  sf = sf;
  ceiling = ceiling;
  range = range;
}))

abbrev pub connect : Event
connect = event.Connected (Some inv)

abbrev pub gone : Event
gone = event.Gone (Some inv) closing.Gone

abbrev pub bytes : List ℕ → Event
bytes piece = event.Bytes (Some inv) piece

-- Two example reads: a read of a counter and its scale factor, and a read of the counter only.
abbrev pub three_words : ReadSpan
three_words = record { function = HoldingRegisters; address = 40094; count = 3; some = lit≤ tt; few = lit≤ tt; inside = lit≤ tt }

abbrev pub two_words : ReadSpan
two_words = record { function = HoldingRegisters; address = 40094; count = 2; some = lit≤ tt; few = lit≤ tt; inside = lit≤ tt }

abbrev pub start : ReadSpan → Event
start span = event.Command (command.StartPoll (record { device = Some inv; span = span }))

abbrev pub round : (from : ℕ) → Event
round from = event.Command (command.StartRound (record { device = Some inv; from = from }))

abbrev pub reset : (before after : ℕ) → Event
reset before after = event.Command (command.Reset (record { register = Some main; before = before; after = after }))

abbrev pub rescale : (before after : ℕ) → ℤ → Event
rescale before after sf =
    event.Command (command.Rescale (record { register = Some main; before = before; after = after; sf = sf }))

abbrev pub manual : (raw rolls : ℕ) → (at : Option ℕ) → Event
manual raw rolls at = event.Command (command.Manual (record { register = Some main; raw = raw; rolls = rolls; at = at }))

abbrev pub close : (raw rolls : ℕ) → Event
close raw rolls = event.Command (command.Close (record { register = Some main; raw = raw; rolls = rolls }))

abbrev pub void : (place : ℕ) → Event
void place = event.Command (command.Void (record { meter = Some m1; place = place }))

abbrev pub exchange_of : (last : ℕ) → Command
exchange_of last = command.Exchange (record {
  register = Some main;
  last = last;
  rolls = 0;
  meter = Some m2;
  raw = 0;
  sf = pos 0;
  ceiling = 100000;
  range = full_range;
})

abbrev pub exchange : (last : ℕ) → Event
exchange last = event.Command (exchange_of last)

abbrev pub asked : (request : List ℕ) → (last : ℕ) → Event
asked request last = event.Asked (record { caller = Some desk; number = 7; request = request; command = exchange_of last })

-- Example histories of accepted events.

-- Example events that add a device, an accounting register (a named energy counter) and a meter,
-- and that start a poll.
abbrev pub started : History
started = Fed 1898 (start three_words) ∷ Fed 1898 connect ∷ Fed 1000 (install 5000 (pos 0) 100000 full_range)
    ∷ Fed 1000 (register (given.Register 40096)) ∷ Fed 1000 (device inv 1) ∷ Opened 0 ∷ []

-- The response to a poll with a given transaction identifier. It contains the meter's counter value
-- and scale factor.
abbrev pub reply : (id high low sf : ℕ) → Event
reply id high low sf = bytes (0 ∷ id ∷ 0 ∷ 0 ∷ 0 ∷ 9 ∷ 1 ∷ 3 ∷ 6 ∷ 0 ∷ 0 ∷ high ∷ low ∷ 0 ∷ sf ∷ [])

-- An example history of accepted events: a read was started, and the device's response with the
-- counter value 5200 arrived at time 1900.
abbrev pub answered : History
answered = Fed 1900 (reply 0 20 80 0) ∷ started

-- Example events that install a meter with a fixed scale factor at a given time.
abbrev pub house : (at raw : ℕ) → (sf : ℤ) → (ceiling range : ℕ) → History
house at raw sf ceiling range = Fed at connect ∷ Fed at (install raw sf ceiling range) ∷ Fed 0 (register (given.Fixed sf))
    ∷ Fed 0 (device inv 1) ∷ Opened 0 ∷ []

abbrev pub shows : (id : ℕ) → (counter : List ℕ) → Event
shows id counter = bytes ((0 ∷ id ∷ 0 ∷ 0 ∷ 0 ∷ 7 ∷ 1 ∷ 3 ∷ 4 ∷ []) ++ counter)

-- The given earlier events, followed by the events of a reading of the meter at a given time, with
-- a given counter value.
abbrev pub read : (at id : ℕ) → (counter : List ℕ) → History → History
read at id counter past = Fed at (shows id counter) ∷ Fed at (start two_words) ∷ past

-- The notifications and sent bytes after an event, and the state of a meter after a list of
-- accepted events.

abbrev pub reported : History → (at : ℕ) → Event → List Note
reported past at e = notes_after past at e (decision_of past at e)

abbrev pub sent : History → (at : ℕ) → Event → List ℕ
sent past at e = outgoing_after past at e (decision_of past at e)

abbrev pub meter : History → List ℕ → Option Installation
meter past name = meter_of (facts_of past) name

abbrev pub total : History → List ℕ → Option ℕ
total past name = option_map (λ row. row.total) (meter past name)

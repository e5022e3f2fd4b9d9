-- Defines the fields of each script line (a command, an event or a query). The words of the line
-- spell these fields in order.
use Rattle.std.specs.Prelude.{ℕ, List, [], ◌∷◌, Option, Some, None, codes, option_map}
use Rattle.office_events.specs.declared.commands.Command.{Command}
use Rattle.office_events.specs.declared.commands.Command.TheVariants as command
use Rattle.office_events.specs.declared.events.Event.{Event}
use Rattle.office_events.specs.declared.events.Event.TheVariants as event
use Rattle.poll_core.specs.declared.outcome.Closing.{Closing}
use Rattle.poll_core.specs.declared.outcome.Closing.TheVariants as closing
use Rattle.script_text.specs.LineWords.Fields.{Field, Word, Of, AnyName, Number, Signed, Scale, Hex, Range, Moment, Spell}
use Rattle.script_text.specs.declared.script.ScriptLine.{ScriptLine}
use Rattle.script_text.specs.declared.script.ScriptLine.TheVariants as line

-- The verb of an event that ends a device's connection. The verb is `gone` if the device closed the
-- connection, and `failed` if a read or a write failed.
abbrev pub closing_word : Closing → List ℕ
closing_word closing.Gone = codes "gone"
closing_word closing.Failed = codes "failed"

-- The fields of a command's script line after the timestamp. `None` for the commands that store a
-- point list or start a Modbus read, whose lines have other definitions.
abbrev pub command_form : Command → Option (List Field)
command_form (command.AddDevice c) =
    Some (Word (codes "device") ∷ Of AnyName c.name ∷ Of Number c.unit ∷ Of Number c.timeout
    ∷ Of Number c.window ∷ [])
command_form (command.AddRegister c) =
    Some (Word (codes "register") ∷ Of AnyName c.name ∷ Of AnyName c.device ∷ Of Number c.function
    ∷ Of Number c.address ∷ Of Scale c.scale ∷ [])
command_form (command.Install c) =
    Some (Word (codes "install") ∷ Of AnyName c.register ∷ Of AnyName c.meter ∷ Of Number c.raw
    ∷ Of Signed c.sf ∷ Of Number c.ceiling ∷ Of Range c.range ∷ [])
command_form (command.Exchange c) =
    Some (Word (codes "exchange") ∷ Of AnyName c.register ∷ Of Number c.last ∷ Of Number c.rolls
    ∷ Of AnyName c.meter ∷ Of Number c.raw ∷ Of Signed c.sf ∷ Of Number c.ceiling ∷ Of Range c.range
    ∷ [])
command_form (command.Reset c) =
    Some (Word (codes "reset") ∷ Of AnyName c.register ∷ Of Number c.before ∷ Of Number c.after
    ∷ [])
command_form (command.Rescale c) =
    Some (Word (codes "rescale") ∷ Of AnyName c.register ∷ Of Number c.before ∷ Of Number c.after
    ∷ Of Signed c.sf ∷ [])
command_form (command.Manual c) =
    Some (Word (codes "manual") ∷ Of AnyName c.register ∷ Of Number c.raw ∷ Of Number c.rolls
    ∷ Of Moment c.at ∷ [])
command_form (command.Close c) =
    Some (Word (codes "close") ∷ Of AnyName c.register ∷ Of Number c.raw ∷ Of Number c.rolls ∷ [])
command_form (command.Void c) =
    Some (Word (codes "void") ∷ Of AnyName c.meter ∷ Of Number c.place ∷ [])
command_form (command.StartRound c) =
    Some (Word (codes "round") ∷ Of AnyName c.device ∷ Of Number c.from ∷ [])
command_form (command.PutList c) = None
command_form (command.StartPoll c) = None

-- The fields of an event's script line after the timestamp. `None` for an event with an idempotency
-- key, because no script line can express such an event.
abbrev pub event_form : Event → Option (List Field)
event_form (event.Connected device) = Some (Word (codes "connect") ∷ Of AnyName device ∷ [])
event_form (event.Bytes device piece) =
    Some (Word (codes "bytes") ∷ Of AnyName device ∷ Of Hex piece ∷ [])
event_form event.Tick = Some (Word (codes "tick") ∷ [])
event_form (event.Gone device closing) = Some (Word (closing_word closing) ∷ Of AnyName device ∷ [])
event_form (event.Command c) = command_form c
event_form (event.Asked asked) = None

-- The fields of a script line (a command, an event or a query). `None` for an event or command that
-- no script line can express.
abbrev pub form_of : ScriptLine → Option (List Field)
form_of (line.Event at event) = option_map (λ form. Of Number at ∷ form) (event_form event)
form_of (line.List at list) =
    Some (Of Number at ∷ Word (codes "list") ∷ Of AnyName list.device ∷ Of Hex list.text ∷ [])
form_of (line.Start at start) =
    Some (Of Number at ∷ Word (codes "start") ∷ Of AnyName start.device ∷ Of Number start.function
    ∷ Of Number start.address ∷ Of Number start.count ∷ [])
form_of (line.Meter name) = Some (Word (codes "meter") ∷ Of AnyName name ∷ [])
form_of (line.Intervals name) = Some (Word (codes "intervals") ∷ Of AnyName name ∷ [])
form_of (line.Days name) = Some (Word (codes "days") ∷ Of AnyName name ∷ [])
form_of (line.Poll number) = Some (Word (codes "poll") ∷ Of Number number ∷ [])

-- States that a line's words spell the given fields. False for `None`, which marks an event that no
-- script line can express.
abbrev pub HasForm : List (List ℕ) → Option (List Field) → Type 0
HasForm words None = ⊥
HasForm words (Some form) = Spell words form

-- States that the given words spell the given script line (a command, an event or a query).
abbrev pub IsLine : List (List ℕ) → ScriptLine → Type 0
IsLine words line = HasForm words (form_of line)

-- Defines the output of each line of a loop (a script with simulated devices), and the loop's state
-- after the line.
use Rattle.std.specs.Prelude.{◌≡◌, ◌⊎◌, ◌++◌, ℕ, Bool, true, false, List, Option, Some, None, Result, Ok, Err, codes}
use Rattle.script_text.specs.Bank.Forms.{IsBankLine}
use Rattle.script_text.specs.declared.bank.bank.BankLine.{BankLine}
use Rattle.script_text.specs.declared.bank.bank.BankLine.TheVariants as bank
use Rattle.script_run.specs.Bank.Settings.{takes, with_area, with_cell}
use Rattle.mb_device.specs.Maps.{Maps}
use Rattle.mb_wire.specs.Spans.{IsSpan}
use Rattle.mb_wire.specs.declared.span.ReadSpan.{ReadSpan}
use Rattle.office_events.specs.declared.answers.Answer.{Answer}
use Rattle.office_events.specs.declared.commands.Command.{Command}
use Rattle.office_events.specs.declared.commands.Command.TheVariants as command
use Rattle.office_events.specs.declared.events.Event.{Event}
use Rattle.office_events.specs.declared.events.Event.TheVariants as event
use Rattle.office_events.specs.declared.refusals.Refusal.{Refusal}
use Rattle.office_events.specs.declared.refusals.Refusal.TheVariants as refusal
use Rattle.script_text.specs.Forms.{IsLine}
use Rattle.script_text.specs.declared.script.GivenStart.{GivenStart}
use Rattle.script_text.specs.declared.script.ScriptLine.{ScriptLine}
use Rattle.script_text.specs.declared.script.ScriptLine.TheVariants as line
use Rattle.script_run.specs.Replaying.Events.{EventPrints, IsRefused, IsReply, IsSpanOf, reply_text, start_event}
use Rattle.script_run.specs.Replaying.Lines.{LinePrints}
use Rattle.script_run.specs.Replaying.Stages.{after_reply}
use Rattle.script_text.specs.AnswerText.{refused_line}
use Rattle.script_run.specs.Looping.Answers.{AnswersPrint}
use Rattle.mb_device.specs.StandIn.Exchanges.{Exchanged}
use Rattle.script_run.specs.Looping.Standings.{LoopStage}

-- States that a loop (a script with simulated devices) allows a setup line at this position. Lines
-- that add addresses (`area`) or inject faults (`trick`) must precede the first line that connects
-- a device.
abbrev pub MayStand : (connected : Bool) → BankLine → Type 0
MayStand connected (bank.Area area) = connected ≡ false
MayStand connected (bank.Set cell) = Unit {0}
MayStand connected (bank.Trick frame trick) = connected ≡ false

-- States that a loop (a script with simulated devices) forbids a setup line at this position,
-- because an earlier line has connected a device.
abbrev pub MayNotStand : (connected : Bool) → BankLine → Type 0
MayNotStand connected (bank.Area area) = connected ≡ true
MayNotStand connected (bank.Set cell) = ⊥
MayNotStand connected (bank.Trick frame trick) = connected ≡ true

-- The output of a setup line in a loop (a script with simulated devices). It is `ok` if the
-- register map accepts the line, otherwise a refusal.
abbrev pub taken_text : Bool → List ℕ
taken_text true = codes "ok\n"
taken_text false = refused_line refusal.Limit

-- The register map of the simulated devices after a setup line. If the map refuses the line, the
-- map is unchanged.
abbrev pub maps_with : Maps → BankLine → Maps
maps_with maps (bank.Area area) = with_area maps area
maps_with maps (bank.Set cell) = with_cell maps cell
maps_with maps (bank.Trick frame trick) = maps

-- States that a setup line in a loop (a script with simulated devices) prints `ok` or a refusal. If
-- the register map accepts the line, the map changes.
pub record BankPrints (said : BankLine) (now : LoopStage) (printed : List ℕ) (next : LoopStage)
    : Type 0 where
  pub stands : MayStand now.connected said
  pub text : printed ≡ taken_text (takes now.maps said)
  pub script : next.script ≡ now.script
  pub maps : next.maps ≡ maps_with now.maps said
  pub connected : next.connected ≡ now.connected

-- States that a line of a loop (a script with simulated devices) does not use the simulated
-- devices. Their register map and connections stay unchanged.
pub record StandsBy (now next : LoopStage) : Type 0 where
  pub maps : next.maps ≡ now.maps
  pub connected : next.connected ≡ now.connected

-- States the output of a script line that starts Modbus reads. If the program accepts the start,
-- the request frames go to a simulated device, and its responses go to the program.
abbrev pub Started : Result Answer Refusal → (at : ℕ) → (device : Option (List ℕ)) → Event
    → (now : LoopStage)
    → (printed : List ℕ) → (next : LoopStage) → Type 0
Started (Ok given) at device e now printed next =
    (rest : List ℕ) × (printed ≡ reply_text now.script.past at e (Ok given) ++ rest)
    × AnswersPrint device at (after_reply now.script at e (Ok given)) rest next.script
    × Exchanged now.maps next.maps
Started (Err why) at device e now printed next =
    (printed ≡ refused_line why) × (next.script ≡ after_reply now.script at e (Err why))
    × (next.maps ≡ now.maps)

-- States the output of a script line that starts Modbus reads: first the reply of the program, then
-- the output for the device's responses.
pub record StartsPrint (at : ℕ) (device : Option (List ℕ)) (e : Event) (now : LoopStage)
    (printed : List ℕ) (next : LoopStage) : Type 0 where
  pub reply : Result Answer Refusal
  pub is : IsReply now.script at e reply
  pub started : Started reply at device e now printed next
  pub connected : next.connected ≡ now.connected

-- States the output of a script line whose event uses no connection to a simulated device. The line
-- prints the reply of the program, and leaves the simulated devices unchanged.
pub record PlainPrints (at : ℕ) (e : Event) (now : LoopStage) (printed : List ℕ) (next : LoopStage)
    : Type 0 where
  pub prints : EventPrints now.script at e printed next.script
  pub by : StandsBy now next

-- States the output of a script line that connects a simulated device. The line prints the reply of
-- the program, and afterwards the state says that a device was connected.
pub record ConnectPrints (at : ℕ) (e : Event) (now : LoopStage) (printed : List ℕ)
    (next : LoopStage)
    : Type 0 where
  pub prints : EventPrints now.script at e printed next.script
  pub maps : next.maps ≡ now.maps
  pub connected : next.connected ≡ true

-- The name of the device whose round of reads (one for each read of the device's plan) the command
-- starts. `None` for any other command.
abbrev pub round_of : Command → Option (Option (List ℕ))
round_of (command.StartRound round) = Some round.device
round_of other = None

-- States the output of a script line with a command: the reply of the program. If the command
-- starts a round of reads (one for each read of the device's plan), the output for the device's
-- responses follows.
abbrev pub CommandPrints : (round : Option (Option (List ℕ))) → (at : ℕ) → Event → (now : LoopStage)
    → (printed : List ℕ) → (next : LoopStage) → Type 0
CommandPrints (Some device) at e now printed next = StartsPrint at device e now printed next
CommandPrints None at e now printed next = PlainPrints at e now printed next

-- States the output of a script line with an event, by the kind of event. A script cannot give the
-- bytes that a device sends, because the simulated devices send them.
abbrev pub HappensPrints : (at : ℕ) → Event → (now : LoopStage) → (printed : List ℕ)
    → (next : LoopStage) → Type 0
HappensPrints at (event.Connected device) now printed next =
    ConnectPrints at (event.Connected device) now printed next
HappensPrints at (event.Bytes device piece) now printed next = ⊥
HappensPrints at event.Tick now printed next = PlainPrints at event.Tick now printed next
HappensPrints at (event.Gone device closing) now printed next =
    PlainPrints at (event.Gone device closing) now printed next
HappensPrints at (event.Command asked) now printed next =
    CommandPrints (round_of asked) at (event.Command asked) now printed next
HappensPrints at (event.Asked asked) now printed next =
    PlainPrints at (event.Asked asked) now printed next

-- States that the event reports bytes that a device sent.
abbrev pub IsBytes : Event → Type 0
IsBytes (event.Bytes device piece) = Unit {0}
IsBytes other = ⊥

-- States the output of a script line that starts a Modbus read: the reply to the start, and the
-- output for the response. If one read request cannot cover the Modbus registers, the output is a
-- refusal.
abbrev pub ReadPrints : (at : ℕ) → GivenStart → (now : LoopStage) → (printed : List ℕ)
    → (next : LoopStage) → Type 0
ReadPrints at start now printed next =
    ((span : ReadSpan) × IsSpanOf start span
    × StartsPrint at start.device (start_event start span) now printed next)
    ⊎ ((IsSpan start.function start.address start.count → ⊥)
    × IsRefused now.script printed next.script × StandsBy now next)

-- States that a line prints the same output as in a script without simulated devices, and leaves
-- the simulated devices unchanged.
pub record AlikePrints (said : ScriptLine) (now : LoopStage) (printed : List ℕ) (next : LoopStage)
    : Type 0 where
  pub prints : LinePrints now.script said printed next.script
  pub by : StandsBy now next

-- States the output of a script line in a loop (a script with simulated devices), by the kind of
-- line.
abbrev pub SaidPrints : ScriptLine → (now : LoopStage) → (printed : List ℕ) → (next : LoopStage)
    → Type 0
SaidPrints (line.Event at e) now printed next = HappensPrints at e now printed next
SaidPrints (line.Start at start) now printed next = ReadPrints at start now printed next
SaidPrints said now printed next = AlikePrints said now printed next

-- States that the script line is an event that reports bytes which a device sent.
abbrev pub SaysBytes : ScriptLine → Type 0
SaysBytes (line.Event at e) = IsBytes e
SaysBytes other = ⊥

-- States that the given words form no setup line of a simulated device.
abbrev pub IsNoBankLine : List (List ℕ) → Type 0
IsNoBankLine words = (said : BankLine) → IsBankLine words said → ⊥

-- States that the given words form a setup line of a simulated device, or any other script line,
-- and that this line was executed.
abbrev pub WordsPrint : List (List ℕ) → (now : LoopStage) → (printed : List ℕ) → (next : LoopStage)
    → Type 0
WordsPrint words now printed next =
    ((said : BankLine) × IsBankLine words said × BankPrints said now printed next)
    ⊎ (IsNoBankLine words × (said : ScriptLine) × IsLine words said
    × SaidPrints said now printed next)

-- States that the given words form no line, or form a line that a loop (a script with simulated
-- devices) does not allow at this position.
abbrev pub AreWrong : (connected : Bool) → List (List ℕ) → Type 0
AreWrong connected words =
    ((said : BankLine) × IsBankLine words said × MayNotStand connected said)
    ⊎ (IsNoBankLine words × (((said : ScriptLine) → IsLine words said → ⊥)
    ⊎ ((said : ScriptLine) × IsLine words said × SaysBytes said)))

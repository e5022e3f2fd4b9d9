-- The session events that an event of the program causes. A session is a connection of a device.
-- The session's events are received bytes, timer events, the close of the connection, and the
-- starts of polls.
use Rattle.std.proofs.Common.{◌≡◌, ℕ, Bool, true, false, List, [], ◌∷◌, ◌++◌, map, refl, sym, ap, ◌∙◌, Some, if◌then◌else◌}
use Rattle.std.specs.List.{flat_map}
use Rattle.poll_core.specs.Settling as session
use Rattle.poll_core.specs.Settling.{Start, Piece, Tick, Close, outcomes_at}
use Rattle.mb_wire.specs.Spans.{span_view}
use Rattle.mb_wire.specs.declared.span.ReadSpan.{ReadSpan}
use Rattle.office_events.specs.declared.facts.Device.{Device}
use Rattle.office_events.specs.declared.commands.Command.{Command}
use Rattle.office_events.specs.declared.events.Event.{Event}
use Rattle.office_events.specs.declared.events.Event.TheVariants as event
use Rattle.office_books.specs.Facts.{is_named}
use Rattle.office_books.specs.Sessions.{Slot, Send, started_on, start_by, sends_on, starts_by, reaches, is_close, with_happenings}
use Rattle.office_books.specs.History.{settled_in}
use Rattle.office_books.proofs.SessionLaws.{number_by, outcomes_at-start}

-- True if no event of the list ends the Modbus session, except possibly the last event.
abbrev pub EndLast : List session.Event → Type 0
EndLast [] = Unit {0}
EndLast (h ∷ later) = (is_close h ≡ true → later ≡ []) × EndLast later

-- The numbers of the polls that a list of Modbus session events starts.
abbrev pub numbers_by : List session.Event → List ℕ
numbers_by happenings = flat_map number_by happenings

-- The poll number of each `Send` (a Modbus read request that was sent) in a list.
abbrev pub sent_numbers : List Send → List ℕ
sent_numbers sends = map (λ send. send.number) sends

starts_end_last : (at : ℕ) (device : Device) (sends : List Send) → EndLast (map (start_by at device) sends)
starts_end_last at device [] = tt
starts_end_last at device (send ∷ sends) = ((λ e. cc), starts_end_last at device sends)

pub starts_settle : (at : ℕ) (device : Device) (before : List session.Event) (sends : List Send)
    → settled_in device before (map (start_by at device) sends) ≡ []
starts_settle at device before [] = refl
starts_settle at device before (send ∷ sends) =
    ap (λ settled. settled ++ settled_in device (before ++ start_by at device send ∷ []) (map (start_by at device) sends))
    (outcomes_at-start device.timeout before at send.number device.unit (span_view send.span))
    ∙ starts_settle at device (before ++ start_by at device send ∷ []) sends

pub starts_number : (at : ℕ) (device : Device) (sends : List Send) → numbers_by (map (start_by at device) sends) ≡ sent_numbers sends
starts_number at device [] = refl
starts_number at device (send ∷ sends) = ap (λ ns. send.number ∷ ns) (starts_number at device sends)

-- If a list has at most one Modbus session event, then only its last event can end the session.
single_ends_last : (b : Bool) (h : session.Event) → EndLast (if b then h ∷ [] else [])
single_ends_last true h = ((λ e. refl), tt)
single_ends_last false h = tt

round_ends_last : (b : Bool) (at : ℕ) (device : Device) (sends : List Send) → EndLast (if b then map (start_by at device) sends else [])
round_ends_last true at device sends = starts_end_last at device sends
round_ends_last false at device sends = tt

command_ends_last : (number at : ℕ) (spans : List ReadSpan) (c : Command) (device : Device) (before : List session.Event)
    → EndLast (starts_by number at spans (Some c) device before)
command_ends_last number at spans c device before =
    round_ends_last (is_named (started_on c) device.name) at device (sends_on number at device before spans)

pub ends_last : (number at : ℕ) (spans : List ReadSpan) (e : Event) (device : Device) (before : List session.Event)
    → EndLast (reaches number at spans e device before)
ends_last number at spans (event.Connected given) device before = tt
ends_last number at spans (event.Bytes given piece) device before = single_ends_last (is_named given device.name) (Piece at piece)
ends_last number at spans event.Tick device before = ((λ e. refl), tt)
ends_last number at spans (event.Gone given closing) device before = single_ends_last (is_named given device.name) (Close at closing)
ends_last number at spans (event.Command c) device before = command_ends_last number at spans c device before
ends_last number at spans (event.Asked asked) device before = command_ends_last number at spans asked.command device before

-- The start of a poll ends no poll. Therefore the polls that an event ends do not depend on the
-- reads that the event requests.
round_settles : (b : Bool) (at : ℕ) (device : Device) (before : List session.Event) (sends : List Send)
    → settled_in device before (if b then map (start_by at device) sends else []) ≡ []
round_settles true at device before sends = starts_settle at device before sends
round_settles false at device before sends = refl

pub command_settles : (number at : ℕ) (spans : List ReadSpan) (c : Command) (device : Device) (before : List session.Event)
    → settled_in device before (starts_by number at spans (Some c) device before) ≡ []
command_settles number at spans c device before =
    round_settles (is_named (started_on c) device.name) at device before (sends_on number at device before spans)

pub same_settled : (number at : ℕ) (spans : List ReadSpan) (e : Event) (device : Device) (before : List session.Event)
    → settled_in device before (reaches number at spans e device before) ≡ settled_in device before (reaches number at [] e device before)
same_settled number at spans (event.Connected given) device before = refl
same_settled number at spans (event.Bytes given piece) device before = refl
same_settled number at spans event.Tick device before = refl
same_settled number at spans (event.Gone given closing) device before = refl
same_settled number at spans (event.Command c) device before =
    command_settles number at spans c device before ∙ sym (command_settles number at [] c device before)
same_settled number at spans (event.Asked asked) device before =
    command_settles number at spans asked.command device before ∙ sym (command_settles number at [] asked.command device before)

-- The Modbus session events of a polling round (the polls of one device, one for each read) start
-- exactly the polls of the reads that the round sends.
pub round_numbers : (b : Bool) (at : ℕ) (device : Device) (sends : List Send)
    → numbers_by (if b then map (start_by at device) sends else []) ≡ (if b then sent_numbers sends else [])
round_numbers true at device sends = starts_number at device sends
round_numbers false at device sends = refl

-- After session events, a slot (a device with its sessions) still has the same device.
pub device_happened : (slot : Slot) (before happenings : List session.Event) → (with_happenings slot before happenings).device ≡ slot.device
device_happened slot before [] = refl
device_happened slot before (Start m n u s ∷ later) = device_happened slot (before ++ Start m n u s ∷ []) later
device_happened slot before (Piece m b ∷ later) = device_happened slot (before ++ Piece m b ∷ []) later
device_happened slot before (Tick m ∷ later) = device_happened slot (before ++ Tick m ∷ []) later
device_happened slot before (Close m c ∷ later) = refl

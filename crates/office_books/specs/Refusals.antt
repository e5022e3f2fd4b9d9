-- The refusals of events: the conditions for each reason, and the order in which the reasons are
-- checked.
use Rattle.std.specs.Prelude.{◌≡◌, ℕ, ℤ, pos, negsuc, ◌+◌, ◌-◌, ◌==◌, nat_lt, nat_le, int_lt, Bool, true, false, not, ◌||◌, ◌&&◌, min, max, List, [], ◌∷◌, ◌++◌, map, Option, Some, None, is_none, is_some, length, Result, Ok, Err, if◌then◌else◌}
use Rattle.std.specs.Option.{option_map, option_and_then}
use Rattle.std.specs.List.{find}
use Rattle.std.specs.Str.{bytes_eq}
use Rattle.mb_wire.specs.declared.limits.TheConstants.{MAX_READ_REGISTERS}
use Rattle.poll_core.specs.declared.limits.TheConstants.{MAX_TIMEOUT, MAX_WINDOW}
use Rattle.energy_core.specs.declared.limits.TheConstants.{MAX_CEILING, MAX_RANGE, MIN_RANGE}
use Rattle.energy_core.specs.declared.entries.Entry.{Entry}
use Rattle.energy_core.specs.declared.entries.Entry.TheVariants as entry
use Rattle.energy_core.specs.declared.admission.TermFault.{TermFault}
use Rattle.energy_core.specs.declared.admission.TermFault.TheVariants as fault
use Rattle.energy_core.specs.declared.verdicts.Cause.{Cause}
use Rattle.energy_core.specs.declared.verdicts.Cause.TheVariants as cause
use Rattle.energy_core.specs.declared.verdicts.Verdict.{Verdict}
use Rattle.energy_core.specs.declared.verdicts.Verdict.TheVariants as verdict
use Rattle.energy_core.specs.Admission as entering
use Rattle.energy_core.specs.Verdict.{cause_number}
use Rattle.meter_journal.specs.declared.lines.EntryRow.{EntryRow}
use Rattle.meter_journal.specs.Fitting.{reading_at, is_voidable}
use Rattle.office_events.specs.declared.limits.TheConstants.{LAST_ADDRESS, LAST_COUNTER, LAST_UNIT}
use Rattle.office_events.specs.declared.limits.TheConstants.{MAX_DEVICES, MAX_INSTALLATIONS, MAX_REGISTERS, MAX_ROLLS}
use Rattle.office_events.specs.declared.commands.GivenScale.{GivenScale}
use Rattle.office_events.specs.declared.commands.GivenScale.TheVariants as given
use Rattle.office_events.specs.declared.commands.Command.{Command}
use Rattle.office_events.specs.declared.commands.Command.TheVariants as command
use Rattle.office_events.specs.declared.events.Asked.{Asked}
use Rattle.office_events.specs.declared.events.Event.{Event}
use Rattle.office_events.specs.declared.events.Event.TheVariants as event
use Rattle.office_events.specs.declared.facts.Opening.{Opening}
use Rattle.office_events.specs.declared.facts.Reply.{Reply}
use Rattle.office_events.specs.declared.facts.Fact.{Fact}
use Rattle.office_events.specs.declared.questions.Installation.{Installation}
use Rattle.office_events.specs.declared.questions.EntryContext.{EntryContext}
use Rattle.office_events.specs.declared.refusals.Refusal.{Refusal}
use Rattle.office_events.specs.declared.refusals.Refusal.TheVariants as refusal
use Rattle.office_events.specs.declared.refusals.StoreCause.TheVariants as store
use Rattle.office_events.specs.declared.answers.Answer.{Answer}
use Rattle.office_events.specs.declared.answers.Answer.TheVariants as answer
use Rattle.office_events.specs.declared.answers.CommandKind.{CommandKind}
use Rattle.office_books.specs.Facts.{moment_limit, poll_limit, request_limit, latest_in, polls_in, registers_of, openings_in, register_of, opening_of, list_of, reply_of}
use Rattle.office_books.specs.Meters.{installation_at, open_at, rows_of, entry_at}
use Rattle.office_books.specs.Readings.{judgement}
use Rattle.office_books.specs.Sessions.{Slot, slot_of, present_of, is_startable}
use Rattle.office_books.specs.History.{History, Opened, Fed, facts_of, slots_of, latest_of, next_poll, Made, made_by, corrected_at, spans_by, round_spans, sends_by, kind_of}

-- The maximum number of devices in a store.
abbrev pub device_limit : ℕ
device_limit = MAX_DEVICES

-- The maximum number of accounting registers (energy counters) of a device.
abbrev pub register_limit : ℕ
register_limit = MAX_REGISTERS

-- The maximum number of meters, including closed ones.
abbrev pub installation_limit : ℕ
installation_limit = MAX_INSTALLATIONS

-- True if no meter was ever installed at the accounting register (a named energy counter) with the
-- given name, or if no accounting register has the name.
abbrev pub has_no_meter : List Fact → Option (List ℕ) → Bool
has_no_meter facts register = is_none (option_and_then (installation_at facts) register)

-- True if a meter has an entry with the sequence number `place`. The opening (the first entry) has
-- number 1. False without a meter.
abbrev pub has_place : List Fact → (place : ℕ) → Option Opening → Bool
has_place facts place None = false
has_place facts place (Some opening) =
    nat_le 1 place && nat_le place (length (rows_of facts opening) + 1)

-- Refusal `NotFound`: the command names a device, point list, accounting register (a named energy
-- counter), meter or entry that does not exist.
abbrev pub asks_unknown : List Slot → List Fact → Command → Bool
asks_unknown slots facts (command.AddDevice c) = false
asks_unknown slots facts (command.PutList c) = is_none (slot_of slots c.device)
asks_unknown slots facts (command.AddRegister c) = is_none (slot_of slots c.device)
asks_unknown slots facts (command.Install c) =
    is_none (option_and_then (register_of facts) c.register)
asks_unknown slots facts (command.Exchange c) = has_no_meter facts c.register
asks_unknown slots facts (command.Reset c) = has_no_meter facts c.register
asks_unknown slots facts (command.Rescale c) = has_no_meter facts c.register
asks_unknown slots facts (command.Manual c) = has_no_meter facts c.register
asks_unknown slots facts (command.Close c) = has_no_meter facts c.register
asks_unknown slots facts (command.Void c) =
    not (has_place facts c.place (option_and_then (opening_of facts) c.meter))
asks_unknown slots facts (command.StartPoll c) = is_none (slot_of slots c.device)
asks_unknown slots facts (command.StartRound c) =
    is_none (slot_of slots c.device) || is_none (option_and_then (list_of facts) c.device)

-- Refusal `Exists`: a device, accounting register (a named energy counter) or meter already has the
-- name that the command gives, or the accounting register already has an open meter.
abbrev pub asks_taken : List Slot → List Fact → Command → Bool
asks_taken slots facts (command.AddDevice c) = is_some (slot_of slots c.name)
asks_taken slots facts (command.AddRegister c) =
    is_some (option_and_then (register_of facts) c.name)
asks_taken slots facts (command.Install c) =
    is_some (option_and_then (opening_of facts) c.meter)
    || is_some (option_and_then (open_at facts) c.register)
asks_taken slots facts (command.Exchange c) = is_some (option_and_then (opening_of facts) c.meter)
asks_taken slots facts _ = false

-- Refusal `BadScale`: a scale factor is not from -3 to 3.
abbrev pub is_off_scale : ℤ → Bool
is_off_scale sf = int_lt sf (negsuc 2) || int_lt (pos 3) sf

-- Refusal `BadScale`: the fixed scale factor of a new accounting register (an energy counter) is
-- not from -3 to 3.
abbrev pub is_bad_scale : GivenScale → Bool
is_bad_scale (given.Fixed sf) = is_off_scale sf
is_bad_scale (given.Register address) = false

-- Refusal `BadScale`: the scale factor in the command is not from -3 to 3.
abbrev pub asks_bad_scale : Command → Bool
asks_bad_scale (command.AddRegister c) = is_bad_scale c.scale
asks_bad_scale (command.Install c) = is_off_scale c.sf
asks_bad_scale (command.Exchange c) = is_off_scale c.sf
asks_bad_scale (command.Rescale c) = is_off_scale c.sf
asks_bad_scale _ = false

-- Refusal `NegativeStep`, `NotLater`, `SpanTooLong` or `TotalFull`: the command's entry has the
-- given fault when it follows the meter's last entry. False if the command makes no entry.
abbrev pub has_fault : TermFault → Installation → Option Made → Bool
has_fault why row None = false
has_fault why row (Some made) = entering.refuses row.opening.range row.total row.last made.entry why

-- True if the entry that a command makes for an installed meter has the given fault. False without
-- a meter.
abbrev pub makes_fault : (at : ℕ) → TermFault → Command → Option Installation → Bool
makes_fault at why c None = false
makes_fault at why c (Some row) = has_fault why row (made_by at row.last c)

-- True if the entry that a command makes for the open meter of the command's accounting register
-- (an energy counter) has the given fault.
abbrev pub asks_faulty : List Fact → (at : ℕ) → TermFault → Command → Bool
asks_faulty facts at why c = makes_fault at why c (option_and_then (open_at facts) (corrected_at c))

-- Refusal `Ended`: the latest meter at an accounting register (an energy counter) was closed. False
-- if no meter was installed there.
abbrev pub is_closed : Option Installation → Bool
is_closed None = false
is_closed (Some row) = row.ended

-- Refusal `Ended`: the latest meter at the accounting register (an energy counter) in the command
-- was closed.
abbrev pub asks_ended : List Fact → Command → Bool
asks_ended facts c = is_closed (option_and_then (installation_at facts) (corrected_at c))

-- True if polls can start on a device: it is connected, and its Modbus session is ready. A session
-- is not ready if too many polls are pending (without an outcome), the next transaction identifier
-- is pending, or its stream is garbled.
abbrev pub is_ready : Option Slot → Bool
is_ready None = false
is_ready (Some slot) = is_startable slot.device slot.present

-- True if the device with a given name is connected and its Modbus session can start a poll.
abbrev pub can_start : List Slot → Option (List ℕ) → Bool
can_start slots device = is_ready (slot_of slots device)

-- Refusal `Busy`: the command starts polls, but its device is not connected or the device's Modbus
-- session cannot start a poll.
abbrev pub asks_busy : List Slot → Command → Bool
asks_busy slots (command.StartPoll c) = not (can_start slots c.device)
asks_busy slots (command.StartRound c) = not (can_start slots c.device)
asks_busy slots _ = false

-- Refusal `Limit`: the number `n` is below `low` or above `high`.
abbrev pub is_outside : (low high n : ℕ) → Bool
is_outside low high n = nat_lt n low || nat_lt high n

-- The number of Modbus registers in one read that covers a counter and its scale factor. With a
-- fixed scale factor, it is 2.
abbrev pub registers_spanned : (address : ℕ) → GivenScale → ℕ
registers_spanned address (given.Fixed sf) = 2
registers_spanned address (given.Register scale) = max (address + 2) (scale + 1) - min address scale

-- Refusal `Limit`: the Modbus address of a scale factor is past the last address.
abbrev pub is_bad_address : GivenScale → Bool
is_bad_address (given.Fixed sf) = false
is_bad_address (given.Register address) = nat_lt LAST_ADDRESS address

-- Refusal `Limit`: the name of a meter is invalid, its range or greatest power is out of range, or
-- its counter value is not below its range.
abbrev pub is_bad_meter : (meter : Option (List ℕ)) → (range raw ceiling : ℕ) → Bool
is_bad_meter meter range raw ceiling =
    is_none meter || is_outside MIN_RANGE MAX_RANGE range || nat_le range raw
    || is_outside 1 MAX_CEILING ceiling

-- Refusal `Limit`: the stated time of a manual reading is later than the command.
abbrev pub is_later : (at : ℕ) → Option ℕ → Bool
is_later at None = false
is_later at (Some given) = nat_lt at given

-- Refusal `Limit`: a name in the command is invalid, or a number in the command is out of range.
abbrev pub asks_bad_field : (at : ℕ) → Command → Bool
asks_bad_field at (command.AddDevice c) =
    is_none c.name || nat_lt LAST_UNIT c.unit || is_outside 1 MAX_TIMEOUT c.timeout
    || is_outside 1 MAX_WINDOW c.window
asks_bad_field at (command.AddRegister c) =
    is_none c.name || is_outside 3 4 c.function || nat_lt LAST_COUNTER c.address
    || is_bad_address c.scale || nat_lt MAX_READ_REGISTERS (registers_spanned c.address c.scale)
asks_bad_field at (command.Install c) = is_bad_meter c.meter c.range c.raw c.ceiling
asks_bad_field at (command.Exchange c) =
    nat_lt MAX_ROLLS c.rolls || is_bad_meter c.meter c.range c.raw c.ceiling
asks_bad_field at (command.Manual c) = nat_lt MAX_ROLLS c.rolls || is_later at c.at
asks_bad_field at (command.Close c) = nat_lt MAX_ROLLS c.rolls
asks_bad_field at _ = false

-- Refusal `Limit`: the device already has the maximum number of accounting registers (energy
-- counters).
abbrev pub is_full_of_registers : List Fact → Option (List ℕ) → Bool
is_full_of_registers facts None = false
is_full_of_registers facts (Some device) =
    nat_le register_limit (length (registers_of facts device))

-- Refusal `Limit`: the maximum number of devices, accounting registers (named energy counters) or
-- meters is reached. Also if a polling round starts at an index past the end of the plan (the reads
-- that cover a point list).
abbrev pub is_crowded : List Slot → List Fact → Command → Bool
is_crowded slots facts (command.AddDevice c) = nat_le device_limit (length slots)
is_crowded slots facts (command.AddRegister c) = is_full_of_registers facts c.device
is_crowded slots facts (command.Install c) = nat_le installation_limit (length (openings_in facts))
is_crowded slots facts (command.Exchange c) = nat_le installation_limit (length (openings_in facts))
is_crowded slots facts (command.StartRound c) = length (spans_by facts (command.StartRound c)) == 0
is_crowded slots facts _ = false

-- Refusal `Limit`: a field of the command is out of range, or a maximum is reached. The refusal
-- also applies if the command's counter value is not below the range of the open meter.
abbrev pub asks_beyond : List Slot → List Fact → (at : ℕ) → Command → Bool
asks_beyond slots facts at c =
    asks_bad_field at c || is_crowded slots facts c || asks_faulty facts at fault.NotBelowRange c

-- True if a command starts polls.
abbrev pub is_start : Command → Bool
is_start (command.StartPoll c) = true
is_start (command.StartRound c) = true
is_start _ = false

-- The number of polls that a command starts, which is 0 for a command of another kind.
abbrev pub sent_count : List Slot → List Fact → (at : ℕ) → Command → ℕ
sent_count slots facts at c = length (sends_by (next_poll facts) at slots facts c)

-- Refusal `Store`: the number of the last poll that the command starts would exceed the greatest
-- poll number.
abbrev pub asks_past_numbers : List Slot → List Fact → (at : ℕ) → Command → Bool
asks_past_numbers slots facts at c =
    is_start c && nat_lt poll_limit (length (polls_in facts) + sent_count slots facts at c)

-- Refusal `NotVoidable`: the entry to void (cancel) does not exist, is already voided, or is not a
-- reading from the device. The refusal also applies if the next valid entry is not a reading from
-- the device.
abbrev pub is_not_voidable : Option EntryContext → Bool
is_not_voidable None = true
is_not_voidable (Some place) = not (is_voidable place.row place.next)

-- The entry that a command voids (cancels). `None` if the command voids no entry or the entry does
-- not exist.
abbrev pub voided_place : List Fact → Command → Option EntryContext
voided_place facts (command.Void c) =
    option_and_then (λ meter. entry_at facts meter c.place) c.meter
voided_place facts _ = None

-- Refusal `NotVoidable`: the command names an entry that may not be voided (cancelled).
abbrev pub asks_unvoidable : List Fact → Command → Bool
asks_unvoidable facts (command.Void c) = is_not_voidable (voided_place facts (command.Void c))
asks_unvoidable facts _ = false

-- The verdict on a reading, judged as if it directly followed the given state of its meter. A
-- `Change` (a reset or rescale) has no verdict.
abbrev pub verdict_between : Installation → Entry → Option Verdict
verdict_between before (entry.Step at raw rolls) =
    Some (judgement before (reading_at before.last at raw))
verdict_between before (entry.Change at set_before after sf) = None

-- The verdict on the entry after a voided (cancelled) entry, judged without the voided entry.
-- `None` if no valid entry follows.
abbrev pub verdict_at : Option EntryContext → Option Verdict
verdict_at place =
    option_and_then
    (λ p. option_and_then (λ (next : EntryRow). verdict_between p.before next.entry) p.next) place

-- True if two causes of a rejection have the same numeric code, which means that they are equal.
abbrev pub same_cause : Cause → Cause → Bool
same_cause a b = cause_number a == cause_number b

-- True if a verdict rejects a reading for the given cause. False without a verdict.
abbrev pub is_held_for : Cause → Option Verdict → Bool
is_held_for why None = false
is_held_for why (Some (verdict.Accepted rolls step)) = false
is_held_for why (Some (verdict.Held held)) = same_cause why held

-- True if a reason to refuse applies to a command, given the devices and the records before the
-- command.
abbrev pub asks_wrongly : List Slot → List Fact → (at : ℕ) → Command → Refusal → Bool
asks_wrongly slots facts at c refusal.NotFound = asks_unknown slots facts c
asks_wrongly slots facts at c refusal.Exists = asks_taken slots facts c
asks_wrongly slots facts at c refusal.BadScale = asks_bad_scale c
asks_wrongly slots facts at c refusal.NegativeStep = asks_faulty facts at fault.NegativeStep c
asks_wrongly slots facts at c refusal.NotLater = asks_faulty facts at fault.NotLater c
asks_wrongly slots facts at c refusal.SpanTooLong = asks_faulty facts at fault.SpanTooLong c
asks_wrongly slots facts at c refusal.TotalFull = asks_faulty facts at fault.TotalFull c
asks_wrongly slots facts at c refusal.Ended = asks_ended facts c
asks_wrongly slots facts at c refusal.Busy = asks_busy slots c
asks_wrongly slots facts at c refusal.Limit = asks_beyond slots facts at c
asks_wrongly slots facts at c (refusal.Store store.Refused) = asks_past_numbers slots facts at c
asks_wrongly slots facts at c refusal.NotVoidable = asks_unvoidable facts c
asks_wrongly slots facts at c (refusal.NotPlausible why) =
    is_held_for why (verdict_at (voided_place facts c))
asks_wrongly slots facts at c _ = false

-- True if a reason to refuse applies to a device event. The reason is `NotFound` if the device is
-- unknown. The reason is `Busy` if a connected device connects, or if any other event comes from a
-- device that is not connected.
abbrev pub comes_wrongly : List Slot → Event → Refusal → Bool
comes_wrongly slots (event.Connected d) refusal.NotFound = is_none (slot_of slots d)
comes_wrongly slots (event.Connected d) refusal.Busy = is_some (present_of slots d)
comes_wrongly slots (event.Bytes d piece) refusal.NotFound = is_none (slot_of slots d)
comes_wrongly slots (event.Bytes d piece) refusal.Busy = is_none (present_of slots d)
comes_wrongly slots (event.Gone d closing) refusal.NotFound = is_none (slot_of slots d)
comes_wrongly slots (event.Gone d closing) refusal.Busy = is_none (present_of slots d)
comes_wrongly slots _ _ = false

-- Refusal `Limit`: the caller's name in a request is invalid, or the request's number exceeds its
-- limit.
abbrev pub is_bad_request : Asked → Refusal → Bool
is_bad_request asked refusal.Limit = is_none asked.caller || nat_lt request_limit asked.number
is_bad_request asked _ = false

-- True if a reason to refuse applies to an event because of its content, whatever its timestamp.
abbrev pub is_wrong : List Slot → List Fact → (at : ℕ) → Event → Refusal → Bool
is_wrong slots facts at (event.Command c) why = asks_wrongly slots facts at c why
is_wrong slots facts at (event.Asked asked) why =
    asks_wrongly slots facts at asked.command why || is_bad_request asked why
is_wrong slots facts at e why = comes_wrongly slots e why

-- Refusal `ClockBack`: the timestamp of an event is before the latest accepted event. Refusal
-- `Limit`: the timestamp exceeds the greatest timestamp.
abbrev pub is_mistimed : (latest at : ℕ) → Refusal → Bool
is_mistimed latest at refusal.ClockBack = nat_lt at latest
is_mistimed latest at refusal.Limit = nat_lt moment_limit at
is_mistimed latest at _ = false

-- True if a reason to refuse applies to an event after a list of accepted starts and events.
abbrev pub refuses : History → (at : ℕ) → Event → Refusal → Bool
refuses past at e why =
    is_mistimed (latest_of past) at why || is_wrong (slots_of past) (facts_of past) at e why

-- All causes for which a reading may be rejected, in the order of their numeric codes.
abbrev pub all_causes : List Cause
all_causes = cause.NotAccumulated ∷ cause.ScaleChanged ∷ cause.NotLater ∷ cause.SpanTooLong
    ∷ cause.GapTooLong ∷ cause.TooFast
    ∷ cause.TotalFull ∷ cause.NotBelowRange ∷ []

-- All reasons to refuse an event, in the order of their checks. The last reason is that no poll
-- numbers are left.
abbrev pub reasons : List Refusal
reasons = refusal.NotFound ∷ refusal.Exists ∷ refusal.ClockBack ∷ refusal.BadScale
    ∷ refusal.NegativeStep ∷ refusal.NotLater
    ∷ refusal.SpanTooLong ∷ refusal.TotalFull ∷ refusal.Ended ∷ refusal.Busy ∷ refusal.Limit
    ∷ refusal.NotVoidable
    ∷ map refusal.NotPlausible all_causes ++ refusal.Store store.Refused ∷ []

-- The answer to a request whose idempotency key is stored. If the request's bytes equal the stored
-- bytes, the answer is the kind of the stored command. Otherwise the answer is the refusal
-- `Reused`.
abbrev pub by_reply : Asked → Reply → Result CommandKind Refusal
by_reply asked reply =
    if bytes_eq reply.request asked.request then Ok reply.kind else Err refusal.Reused

-- The answer to a request whose idempotency key is already stored, or `None` for any other event.
abbrev pub kept_of : List Fact → Event → Option (Result CommandKind Refusal)
kept_of facts (event.Asked asked) =
    option_map (by_reply asked)
    (option_and_then (λ caller. reply_of facts caller asked.number) asked.caller)
kept_of facts _ = None

-- The first reason to refuse an event after a list of accepted events, or `None` if no reason
-- applies. Stored idempotency keys are not considered.
abbrev pub refusal_of : History → (at : ℕ) → Event → Option Refusal
refusal_of past at e = find (refuses past at e) reasons

-- The reason to refuse a start of the program with the records of a store, or `None`. A start is
-- refused if its timestamp is before the timestamp of a record, or exceeds the greatest timestamp.
abbrev pub opening_refusal_of : List Fact → (at : ℕ) → Option Refusal
opening_refusal_of facts at =
    if nat_lt at (latest_in facts) then Some refusal.ClockBack
    else if nat_lt moment_limit at then Some refusal.Limit
    else None

-- True if an event is accepted after a list of accepted events. Its idempotency key, if any, is not
-- stored yet, and no reason to refuse the event applies.
pub record IsAccepted (past : History) (at : ℕ) (e : Event) : Type 0 where
  pub new : kept_of (facts_of past) e ≡ None
  pub right : refusal_of past at e ≡ None

-- True if each start of the program and each event in a list was accepted after the earlier items.
abbrev pub AreAccepted : History → Type 0
AreAccepted [] = Unit {0}
AreAccepted (Opened at ∷ past) = (opening_refusal_of (facts_of past) at ≡ None) × AreAccepted past
AreAccepted (Fed at e ∷ past) = IsAccepted past at e × AreAccepted past

-- The total number of reads that a command requests: for a polling round, all reads of the device's
-- plan (those that cover its point list), otherwise 1.
abbrev pub reads_in_all : List Fact → Command → ℕ
reads_in_all facts (command.StartRound c) =
    length (round_spans 0 (option_and_then (list_of facts) c.device))
reads_in_all facts _ = 1

-- The answer to an accepted command, which is the command's kind. If the command starts polls, the
-- answer instead states its first poll, the number of started polls, and the number of requested
-- reads.
abbrev pub answer_to : List Slot → List Fact → (at : ℕ) → Command → Answer
answer_to slots facts at c =
    if is_start c
    then answer.Started (next_poll facts) (sent_count slots facts at c) (reads_in_all facts c)
    else answer.Done (kind_of c)

-- The answer to an accepted event: the answer to its command, or `Noted` for an event without a
-- command.
abbrev pub answer_of : List Slot → List Fact → (at : ℕ) → Event → Answer
answer_of slots facts at (event.Command c) = answer_to slots facts at c
answer_of slots facts at (event.Asked asked) = answer_to slots facts at asked.command
answer_of slots facts at _ = answer.Noted

-- The answer to a request whose idempotency key is stored: the kind of the stored command, marked
-- as a repeated answer, or a refusal.
abbrev pub by_kept : Result CommandKind Refusal → Result Answer Refusal
by_kept (Ok k) = Ok (answer.Again k)
by_kept (Err why) = Err why

-- The refusal if a reason to refuse applies, otherwise the given answer.
abbrev pub unless_refused : Answer → Option Refusal → Result Answer Refusal
unless_refused given None = Ok given
unless_refused given (Some why) = Err why

-- The answer to a request whose idempotency key is stored. If the key is not stored, the given
-- answer.
abbrev pub unless_kept : Result Answer Refusal → Option (Result CommandKind Refusal)
    → Result Answer Refusal
unless_kept given None = given
unless_kept given (Some kept) = by_kept kept

-- The answer to an event after a list of accepted events, if neither the store nor the memory
-- allocation fails.
abbrev pub decision_of : History → (at : ℕ) → Event → Result Answer Refusal
decision_of past at e =
    unless_kept (unless_refused (answer_of (slots_of past) (facts_of past) at e)
    (refusal_of past at e)) (kept_of (facts_of past) e)

-- The accepted starts and events after an event with a given answer. A refused event or a retry is
-- not added.
abbrev pub with_answer : History → (at : ℕ) → Event → Result Answer Refusal → History
with_answer past at e (Ok (answer.Again k)) = past
with_answer past at e (Ok given) = Fed at e ∷ past
with_answer past at e (Err why) = past

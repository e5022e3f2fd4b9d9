-- The effects of an accepted command: its records, started polls, request frames and answer.
use Rattle.std.specs.Prelude.{◌≡◌, ◌⊎◌, ℕ, ◌+◌, ◌≤◌, List, [], ◌∷◌, ◌++◌, map, length, Option, Some, None, OnOk, OnErr, Result, IfOk}
use Rattle.office_books.specs.Lawful.{AreLawful}
use Rattle.poll_core.specs.Settling as session
use Rattle.mb_wire.specs.declared.span.ReadSpan.{ReadSpan}
use Rattle.office_events.specs.declared.limits.TheConstants.{MAX_POLLS}
use Rattle.office_events.specs.declared.commands.Command.{Command}
use Rattle.office_events.specs.declared.events.Event.{Event}
use Rattle.office_events.specs.declared.events.Event.TheVariants as event
use Rattle.office_events.specs.declared.answers.Answer.{Answer}
use Rattle.office_events.specs.declared.answers.Answer.TheVariants as answer
use Rattle.office_events.specs.declared.facts.Fact.{Fact}
use Rattle.office_books.specs.Sessions as sessions
use Rattle.office_books.specs.Sessions.{command_in, starts_by, with_happenings, slots_added}
use Rattle.office_books.specs.History.{History, Fed, facts_of, slots_of, next_poll, added_by, reply_by, spans_by}
use Rattle.office_books.specs.Notes as notes
use Rattle.office_books.specs.Notes.{outgoing_of}
use Rattle.office_core.specs.Starting.Starts as starts
use Rattle.office_books.specs.Refusals.{IsAccepted, answer_to, answer_of, reads_in_all}
use Rattle.office_core.specs.declared.sessions.slots.Slot.{Slot}
use Rattle.office_core.specs.Sessions.Keeping.{KeepsSlot, KeepsSlots}
use Rattle.office_books.specs.Lawfulness.{IsPast}
use Rattle.office_books.specs.declared.faults.BooksFault.{BooksFault}
use Rattle.office_books.specs.Ledgers.{Ledger, LedgerAfterCalls, Moves, with_facts}
use Rattle.office_core.specs.declared.commands.effects.Done.{Done}

-- True if the event requests a command.
abbrev pub AsksCommand : Event → Type 0
AsksCommand (event.Command c) = Unit {0}
AsksCommand (event.Asked asked) = Unit {0}
AsksCommand _ = ⊥

-- The stored answer to the event's request, as a list of one record. Empty if the event has no
-- idempotency key.
abbrev pub replies_by : (at : ℕ) → Event → List Fact
replies_by at (event.Asked asked) = reply_by at asked
replies_by at _ = []

-- The guarantees of writing records to the store, if the resulting records are lawful (the rules
-- for adding records accept each one). On `Ok` the store has all of the records. On an error the
-- store has none of them, but after a crash it may have all of them.
pub record Tries (old new : Ledger) (facts : List Fact)
    (result : Result (Unit {0}) BooksFault) : Type 0 where
  pub booked : (known : List Fact) → old.holds known → AreLawful (with_facts facts known)
      → OnOk result (new.holds (with_facts facts known))
  pub settled : (known : List Fact) (left : List (List Fact)) → old.holds known
      → AreLawful (with_facts facts known)
      → old.may_leave left
      → OnOk result (new.may_leave (with_facts facts known ∷ [])
      ⊎ ((with_facts facts known ≡ known) × new.may_leave left))
  pub refused : (known : List Fact) → old.holds known → OnErr result (new.holds known)
  pub under_way : (known : List Fact) (left : List (List Fact)) → old.holds known
      → AreLawful (with_facts facts known)
      → old.may_leave left
      → OnErr result (new.may_leave left ⊎ new.may_leave (left ++ with_facts facts known ∷ []))
  pub goes : LedgerAfterCalls old new result

-- The device's slot (the device with its connection) after the command's reads are started on its
-- session. A slot without a session is unchanged.
abbrev pub started_on : (number at : ℕ) → List ReadSpan → Command → sessions.Slot
    → Option (List session.Event) → sessions.Slot
started_on number at spans c slot None = slot
started_on number at spans c slot (Some before) =
    with_happenings slot before (starts_by number at spans (Some c) slot.device before)

-- The device's slot (the device with its session) after a command started polls on its Modbus
-- session.
abbrev pub slot_obeyed : (number at : ℕ) → List ReadSpan → Command → sessions.Slot → sessions.Slot
slot_obeyed number at spans c slot = started_on number at spans c slot slot.present

-- All device slots (devices with their Modbus sessions) after a command. If the command adds a
-- device, the slot of this device is the last.
abbrev pub slots_obeyed : (number at : ℕ) → List ReadSpan → Command → List sessions.Slot
    → List sessions.Slot
slots_obeyed number at spans c slots =
    map (slot_obeyed number at spans c) slots ++ slots_added (Some c)

-- All records of the store after the command, with the stored answer to its request, if any.
abbrev pub facts_obeyed : (at : ℕ) → List sessions.Slot → List Fact → Command
    → (replies : List Fact) → List Fact
facts_obeyed at slots known c replies =
    with_facts (added_by (next_poll known) at slots known c ++ replies) known

-- States that, if the rules for adding records accept the records after a command, executing the
-- command changes the store from its earlier records to these records.
abbrev pub MovesOnBy : {T : Type 0} → (at : ℕ) → Command → (replies : List Fact)
    → (old new : Ledger) → Result T BooksFault → Type 0
MovesOnBy at c replies old new result =
    (slots : List sessions.Slot) (known : List Fact)
    → let later = facts_obeyed at slots known c replies in
    AreLawful later → Moves old new known later result

-- The guarantees of executing a command. The command's records are written, its reads are started,
-- its request frames are returned to be sent, and its answer is what the specification gives.
pub record Obeys (old new : Ledger) (after : List Slot) (slots : List sessions.Slot)
    (known : List Fact) (at : ℕ) (c : Command)
    (replies : List Fact) (result : Result Done BooksFault) : Type 0 where
  pub books : Moves old new known (facts_obeyed at slots known c replies) result
  pub stands : old.holds known → new.is_clean
      → OnOk result (KeepsSlots after
      (slots_obeyed (next_poll known) at (spans_by known c) c slots))
  pub answer : old.holds known → new.is_clean
      → IfOk result (λ done. done.answer ≡ answer_to slots known at c)
  pub sent : old.holds known → new.is_clean
      → IfOk result (λ done.
      done.outgoing ≡ notes.frames_by (next_poll known) at slots known (Some c))

-- The guarantees of executing an accepted event that requests a command. The records are written,
-- the reads are started, the request frames are returned to be sent, and the answer is what the
-- specification gives.
pub record Carries (old new : Ledger) (after : List Slot) (past : History) (at : ℕ) (e : Event)
    (result : Result Done BooksFault) : Type 0 where
  pub books : Moves old new (facts_of past) (facts_of (Fed at e ∷ past)) result
  pub stands : old.holds (facts_of past) → new.is_clean
      → OnOk result (KeepsSlots after (slots_of (Fed at e ∷ past)))
  pub answer : old.holds (facts_of past) → new.is_clean
      → IfOk result (λ done. done.answer ≡ answer_of (slots_of past) (facts_of past) at e)
  pub sent : old.holds (facts_of past) → new.is_clean
      → IfOk result (λ done.
      done.outgoing ≡ outgoing_of (next_poll (facts_of past)) at e (slots_of past) (facts_of past))

-- True if each accepted event that requests the command `c`, with the stored answer `replies`, has
-- the effect that `Carries` states. `before` are the devices with their connections before the
-- event.
abbrev pub CarriesOut : (old new : Ledger) → (before after : List Slot) → (at : ℕ) → Command
    → (replies : List Fact) → Result Done BooksFault → Type 0
CarriesOut old new before after at c replies result =
    (past : History) (e : Event) → IsPast past → KeepsSlots before (slots_of past)
    → IsAccepted past at e → command_in e ≡ Some c → replies_by at e ≡ replies
    → Carries old new after past at e result

-- True if the given event has its required effect (`Carries`) after every history that accepts the
-- event and leads to `before`, the devices with their connections.
abbrev pub CarriesEvent : (old new : Ledger) → (before after : List Slot) → (at : ℕ) → Event
    → Result Done BooksFault → Type 0
CarriesEvent old new before after at e result =
    (past : History) → IsPast past → KeepsSlots before (slots_of past) → IsAccepted past at e
    → Carries old new after past at e result

-- The Modbus reads that the command starts on the session of the device slot (a device with its
-- connection).
abbrev pub sends_by : (at : ℕ) → sessions.Slot → List Fact → Command → List sessions.Send
sends_by at slot known c = starts.sends_of (next_poll known) at (spans_by known c) slot

-- The poll records of the Modbus reads that the command starts on the session of the device slot (a
-- device with its connection).
abbrev pub polls_by : (at : ℕ) → sessions.Slot → List Fact → Command → List Fact
polls_by at slot known c = starts.polls_of (next_poll known) at (spans_by known c) slot

-- The bytes of the request frames for the Modbus reads that the command starts on the session of
-- the device slot (a device with its connection).
abbrev pub frames_by : (at : ℕ) → sessions.Slot → List Fact → Command → List ℕ
frames_by at slot known c = starts.frames_of (next_poll known) at (spans_by known c) slot

-- The device slot (a device with its session) after the command's reads are started on its Modbus
-- session.
abbrev pub slot_by : (at : ℕ) → sessions.Slot → List Fact → Command → sessions.Slot
slot_by at slot known c = starts.slot_sent (next_poll known) at (spans_by known c) slot

-- The records after a command starts polls: the records before the command, then the started polls,
-- then the stored answer to the request.
abbrev pub facts_started : (at : ℕ) → sessions.Slot → List Fact → Command → (replies : List Fact)
    → List Fact
facts_started at slot known c replies = with_facts (polls_by at slot known c ++ replies) known

-- States that a property holds for every device slot (a device with its Modbus sessions) whose
-- state the slot `kept` in memory has. It states nothing if the number of recorded polls exceeds
-- its limit.
abbrev pub WhereStarted : (kept : Slot) → (sessions.Slot → List Fact → Type 0) → Type 0
WhereStarted kept so = (slot : sessions.Slot) (known : List Fact) → KeepsSlot kept slot
    → next_poll known ≤ MAX_POLLS + 1 → so slot known

-- The answer to a command that starts polls: the sequence number of its first poll, how many polls
-- were started, and how many reads were requested.
abbrev pub start_answer : (at : ℕ) → sessions.Slot → List Fact → Command → Answer
start_answer at slot known c =
    answer.Started (next_poll known) (length (sends_by at slot known c)) (reads_in_all known c)

-- States that, if the rules for adding records accept the resulting records, a command that starts
-- polls writes its poll records and the stored answer to its request.
abbrev pub BooksStart : (at : ℕ) → Command → (replies : List Fact) → (old new : Ledger)
    → Result Done BooksFault → sessions.Slot → (known : List Fact) → Type 0
BooksStart at c replies old new result slot known =
    let later = facts_started at slot known c replies in
    AreLawful later → Moves old new known later result

-- States that, if the command succeeds, the Modbus session of the device slot (a device with its
-- connection) then has the polls that the command started.
abbrev pub StandsStarted : (at : ℕ) → Command → (old new : Ledger) → (after : Slot)
    → Result Done BooksFault → sessions.Slot → (known : List Fact) → Type 0
StandsStarted at c old new after result slot known =
    starts.IsBefore at slot → old.holds known → new.is_clean
    → OnOk result (KeepsSlot after (slot_by at slot known c))

-- States that, if a command to start polls succeeds, its answer states the number of its first
-- poll, how many polls were started, and how many reads were requested.
abbrev pub AnswersStart : (at : ℕ) → Command → (old new : Ledger)
    → Result Done BooksFault → sessions.Slot → (known : List Fact) → Type 0
AnswersStart at c old new result slot known =
    old.holds known → new.is_clean
    → IfOk result (λ done. done.answer ≡ start_answer at slot known c)

-- True if a command that succeeds in starting polls returns exactly the request frames of its
-- reads.
abbrev pub SendsStart : (at : ℕ) → Command → (old new : Ledger)
    → Result Done BooksFault → sessions.Slot → (known : List Fact) → Type 0
SendsStart at c old new result slot known =
    starts.IsBefore at slot → old.holds known → new.is_clean
    → IfOk result (λ done. done.outgoing ≡ frames_by at slot known c)

-- Lemmas that an event ends only polls that were pending (without an outcome) on the session
-- (connection) of a device, each poll once.
use Rattle.std.proofs.Common.{ℕ, ◌+◌, ◌≤◌, ◌≡◌, Bool, true, false, List, [], ◌∷◌, ◌++◌, map, ap, ◌∙◌, Option, Some, None, arith, if◌then◌else◌}
use Rattle.std.specs.List.{flat_map, cons_option}
use Rattle.std.specs.List.Sorted.{IsPermutation}
use Rattle.std.specs.Option.{option_map}
use Rattle.std.proofs.lemmas.List.{map-append, append-nil}
use Rattle.std.proofs.lemmas.List.Sorted.{IsPermutation-map}
use Rattle.poll_core.specs.Polls.{Poll}
use Rattle.poll_core.specs.Settling.{Event, Piece, Tick, Close, Settlement, settled_by as settlement_by, pending, outcomes_at}
use Rattle.poll_core.specs.Laws.{settled_among}
use Rattle.office_events.specs.declared.facts.Device.{Device}
use Rattle.office_events.specs.declared.events.Event.{Event as OfficeEvent}
use Rattle.office_events.specs.declared.events.Event.TheVariants as event
use Rattle.office_books.specs.Facts.{is_named}
use Rattle.office_books.specs.Sessions.{Slot, EndedSession}
use Rattle.office_books.specs.History.{settled_in, settled_on, settled_by}
use Rattle.office_books.specs.PollEndings.{pending_on}
use Rattle.office_books.proofs.Happenings.{command_settles}
use Rattle.office_books.proofs.Times.{times, times-nil, times-cons, times-append, times-permutation}

-- Theorem: an event ends only polls that are pending (without an outcome) on its Modbus session,
-- each poll independently of all other polls.
abbrev pub SettlesPending : Type 0
SettlesPending = (timeout : ℕ) (events : List Event) (event : Event)
    → IsPermutation (settled_among events event (pending timeout events)) (outcomes_at timeout events event)

-- The numbers of a list of polls.
abbrev numbers : List Poll → List ℕ
numbers polls = map (λ poll. poll.number) polls

abbrev pub settled_numbers : List (ℕ × Settlement) → List ℕ
settled_numbers settled = map (λ s. s.0) settled

among_step : (n : ℕ) (poll : Poll) (o : Option Settlement) (settled : List (ℕ × Settlement)) (polls : List Poll)
    → times n (settled_numbers settled) ≤ times n (numbers polls)
    → times n (settled_numbers (cons_option (option_map (λ outcome. (poll.number, outcome)) o) settled)) ≤ times n (numbers (poll ∷ polls))
among_step n poll None settled polls h = omega (arith, times-cons n poll.number (numbers polls))
among_step n poll (Some outcome) settled polls h =
    omega (arith, times-cons n poll.number (numbers polls), times-cons n poll.number (settled_numbers settled))

among_at_most : (n : ℕ) (before : List Event) (e : Event) (polls : List Poll)
    → times n (settled_numbers (settled_among before e polls)) ≤ times n (numbers polls)
among_at_most n before e [] = omega (arith, times-nil n)
among_at_most n before e (poll ∷ polls) =
    among_step n poll (settlement_by before e poll) (settled_among before e polls) polls (among_at_most n before e polls)

-- Among the polls that a Modbus session event ends, a number occurs at most as often as among the
-- pending polls (without an outcome).
outcomes_at_most : SettlesPending → (n timeout : ℕ) (before : List Event) (e : Event)
    → times n (settled_numbers (outcomes_at timeout before e)) ≤ times n (numbers (pending timeout before))
outcomes_at_most law n timeout before e =
    let among : List (ℕ × Settlement) = settled_among before e (pending timeout before) in
    omega (
      arith,
      times-permutation n (settled_numbers among) (settled_numbers (outcomes_at timeout before e))
          (IsPermutation-map (λ (s : ℕ × Settlement). s.0) among (outcomes_at timeout before e) (law timeout before e)),
      among_at_most n before e (pending timeout before),
    )

-- Among the polls that a Modbus session event ends on a device, a number occurs at most as often as
-- among the pending polls (without an outcome) of the session.
single_at_most : SettlesPending → (n : ℕ) (b : Bool) (device : Device) (before : List Event) (h : Event)
    → times n (settled_numbers (settled_in device before (if b then h ∷ [] else []))) ≤ times n (numbers (pending device.timeout before))
single_at_most law n false device before h = omega (arith, times-nil n)
single_at_most law n true device before h =
    let all : settled_in device before (h ∷ []) ≡ outcomes_at device.timeout before h = append-nil (outcomes_at device.timeout before h) in
    omega (arith, outcomes_at_most law n device.timeout before h, ap (λ s. times n (settled_numbers s)) all)

none_at_most : (n : ℕ) (settled : List (ℕ × Settlement)) (ns : List ℕ) → settled ≡ [] → times n (settled_numbers settled) ≤ times n ns
none_at_most n settled ns h = omega (arith, times-nil n, ap (λ s. times n (settled_numbers s)) h)

on_session : SettlesPending → (n number at : ℕ) (e : OfficeEvent) (device : Device) (before : List Event)
    → times n (settled_numbers (settled_on number at e device (Some before))) ≤ times n (numbers (pending device.timeout before))
on_session law n number at (event.Connected given) device before = omega (arith, times-nil n)
on_session law n number at (event.Bytes given piece) device before = single_at_most law n (is_named given device.name) device before (Piece at piece)
on_session law n number at event.Tick device before = single_at_most law n true device before (Tick at)
on_session law n number at (event.Gone given closing) device before = single_at_most law n (is_named given device.name) device before (Close at closing)
on_session law n number at (event.Command c) device before = none_at_most n _ _ (command_settles number at [] c device before)
on_session law n number at (event.Asked asked) device before = none_at_most n _ _ (command_settles number at [] asked.command device before)

on_slot : SettlesPending → (n number at : ℕ) (e : OfficeEvent) (device : Device) (ended : List EndedSession) (present : Option (List Event))
    → times n (settled_numbers (settled_on number at e device present)) ≤ times n (pending_on (record { device = device; ended = ended; present = present }))
on_slot law n number at e device ended None = omega (arith, times-nil n)
on_slot law n number at e device ended (Some before) = on_session law n number at e device before

-- Among the polls that an event of the program ends on all devices, a number occurs at most as
-- often as among all pending polls (without an outcome).
pub settled_at_most : SettlesPending → (n number at : ℕ) (e : OfficeEvent) (slots : List Slot)
    → times n (settled_numbers (flat_map (settled_by number at e) slots)) ≤ times n (flat_map pending_on slots)
settled_at_most law n number at e [] = omega (arith, times-nil n)
settled_at_most law n number at e (slot ∷ slots) =
    let here = settled_by number at e slot in
    let later = flat_map (settled_by number at e) slots in
    let split : times n (settled_numbers (here ++ later)) ≡ times n (settled_numbers here) + times n (settled_numbers later) =
    ap (times n) (map-append (λ (s : ℕ × Settlement). s.0) here later) ∙ times-append n (settled_numbers here) (settled_numbers later) in
    omega (
      arith,
      split,
      times-append n (pending_on slot) (flat_map pending_on slots),
      on_slot law n number at e slot.device slot.ended slot.present,
      settled_at_most law n number at e slots,
    )

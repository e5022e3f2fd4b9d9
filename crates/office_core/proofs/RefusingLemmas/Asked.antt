-- Lemmas about the decision whether a command is refused, and why. For example, a command that is
-- not refused has numbers in range.
use Rattle.std.proofs.Common.{◌≡◌, ℕ, Bool, true, false, ◌||◌, nat_lt, List, Option, Some, None, Result, Ok, Err, IfOk, is_some, refl, sym, ap, subst, ◌∙◌}
use Rattle.std.specs.Option.{is_none}
use Rattle.std.proofs.lemmas.Bool.{ltb-false, or_parts}
use Rattle.office_events.specs.declared.commands.Command.{Command}
use Rattle.office_events.specs.declared.events.Asked.{Asked}
use Rattle.office_events.specs.declared.events.Event.{Event}
use Rattle.office_events.specs.declared.events.Event.TheVariants as event
use Rattle.office_events.specs.declared.facts.Fact.{Fact}
use Rattle.office_events.specs.declared.refusals.Refusal.{Refusal}
use Rattle.office_events.specs.declared.refusals.Refusal.TheVariants as refusal
use Rattle.office_books.specs.Facts.{moment_limit, request_limit}
use Rattle.office_books.specs.History.{History, facts_of, slots_of, latest_of}
use Rattle.office_books.specs.Refusals.{asks_wrongly, reasons, refuses, refusal_of}
use Rattle.office_core.specs.declared.sessions.slots.Slot.{Slot}
use Rattle.office_core.specs.Sessions.Keeping.{KeepsSlots}
use Rattle.office_books.specs.declared.faults.BooksFault.{BooksFault}
use Rattle.office_core.specs.declared.refusing.arrivals.Arrival.{Arrival}
use Rattle.office_core.specs.Sessions.Ranges.{IsInRange}
use Rattle.office_core.specs.Refusing.Reasons.{arrival_of, request_arrival, speaks_against, refusal_under, IsWhy, IsWhyAmong, Befits}
use Rattle.office_core.proofs.RefusingLemmas.AtMeters.{same_find, or_false}

-- If the decision whether and why to refuse a command agrees with the specification for every list
-- of devices, then it agrees for the devices in memory.
pub among : (kept : List Slot) (arrival : Arrival) (c asked : Command) (facts : List Fact) (r : Result (Option Refusal) BooksFault) → asked ≡ c
    → IfOk r (IsWhy arrival c facts) → IfOk r (IsWhyAmong kept arrival asked facts)
among kept arrival c asked facts (Ok r) is h = λ slots keeps. h slots ∙ ap (refusal_under slots facts arrival) (sym is)
among kept arrival c asked facts (Err fault) is h = tt

pub under : (past : History) (kept : List Slot) (arrival : Arrival) (c : Command) (r : Result (Option Refusal) BooksFault) → KeepsSlots kept (slots_of past)
    → IfOk r (IsWhyAmong kept arrival c (facts_of past)) → IfOk r (λ why. why ≡ refusal_under (slots_of past) (facts_of past) arrival c)
under past kept arrival c (Ok r) keeps h = h (slots_of past) keeps
under past kept arrival c (Err fault) keeps h = tt

turned : (b x : Bool) → b || x ≡ x || b
turned true true = refl
turned true false = refl
turned false true = refl
turned false false = refl

beyond : (a b c x : Bool) → ((a || b) || c) || x ≡ a || (x || (b || c))
beyond true b c x = refl
beyond false b c x = turned (b || c) x

asked_for : (past : History) (at : ℕ) (asked : Asked) (why : Refusal)
    → speaks_against (slots_of past) (facts_of past) (request_arrival (latest_of past) at asked) asked.command why ≡ refuses past at (event.Asked asked) why
asked_for past at asked refusal.ClockBack = refl
asked_for past at asked refusal.Limit =
    beyond (nat_lt moment_limit at) (is_none asked.caller) (nat_lt request_limit asked.number) (asks_wrongly (slots_of past) (facts_of past) at asked.command refusal.Limit)
asked_for past at asked why = sym (or_false (asks_wrongly (slots_of past) (facts_of past) at asked.command why))

asked_as : (past : History) (at : ℕ) (asked : Asked)
    → refusal_under (slots_of past) (facts_of past) (request_arrival (latest_of past) at asked) asked.command ≡ refusal_of past at (event.Asked asked)
asked_as past at asked = same_find _ _ reasons (asked_for past at asked)

-- A request with an idempotency key is refused for the same reason as its command without the key.
pub request_refused : (past : History) (kept : List Slot) (latest at : ℕ) (asked : Asked) (arrival : Arrival) (e : Event) (r : Result (Option Refusal) BooksFault)
    → e ≡ event.Asked asked → latest ≡ latest_of past → arrival ≡ request_arrival latest at asked
    → IfOk r (λ why. why ≡ refusal_under (slots_of past) (facts_of past) arrival asked.command) → IfOk r (λ why. why ≡ refusal_of past at e)
request_refused past kept latest at asked arrival e (Ok why) is now so h =
    h
    ∙ ap (λ (a : Arrival). refusal_under (slots_of past) (facts_of past) a asked.command) (so ∙ ap (λ n. request_arrival n at asked) now)
    ∙ asked_as past at asked ∙ ap (refusal_of past at) (sym is)
request_refused past kept latest at asked arrival e (Err fault) is now so h = tt

command_fits : (latest at : ℕ) (c : Command) (e : Event) (why : Option Refusal) → e ≡ event.Command c → Befits (arrival_of latest at) c why → why ≡ None
    → IsInRange latest at e
command_fits latest at c e (Some why) is h none = absurd (cc)
command_fits latest at c e None is h none = subst (IsInRange latest at) (sym is) (record {
  not_back = ltb-false at latest h.not_back;
  moment = ltb-false moment_limit at h.within;
  command = h.command;
  request = tt;
})

-- If a command is not refused, then its numbers are in the ranges that commands allow.
pub command_in_range : (latest at : ℕ) (c : Command) (e : Event) (arrival : Arrival) (r : Result (Option Refusal) BooksFault) → e ≡ event.Command c
    → arrival ≡ arrival_of latest at → IfOk r (Befits arrival c) → IfOk r (λ why. why ≡ None → IsInRange latest at e)
command_in_range latest at c e arrival (Ok why) is so h =
    command_fits latest at c e why is (subst (λ (a : Arrival). Befits a c why) so h)
command_in_range latest at c e arrival (Err fault) is so h = tt

named : {X : Type 0} (o : Option X) → is_none o ≡ false → is_some o ≡ true
named None h = absurd (cc)
named (Some x) h = refl

request_fits : (latest at : ℕ) (asked : Asked) (e : Event) (why : Option Refusal) → e ≡ event.Asked asked → Befits (request_arrival latest at asked) asked.command why
    → why ≡ None → IsInRange latest at e
request_fits latest at asked e (Some why) is h none = absurd (cc)
request_fits latest at asked e None is h none =
    let parts = or_parts (nat_lt moment_limit at || is_none asked.caller) (nat_lt request_limit asked.number) h.within in
    let first = or_parts (nat_lt moment_limit at) (is_none asked.caller) parts.0 in
    subst (IsInRange latest at) (sym is) (record {
      not_back = ltb-false at latest h.not_back;
      moment = ltb-false moment_limit at first.0;
      command = h.command;
      request = (named asked.caller first.1, ltb-false request_limit asked.number parts.1);
    })

pub request_in_range : (latest at : ℕ) (asked : Asked) (e : Event) (arrival : Arrival) (r : Result (Option Refusal) BooksFault) → e ≡ event.Asked asked
    → arrival ≡ request_arrival latest at asked → IfOk r (Befits arrival asked.command) → IfOk r (λ why. why ≡ None → IsInRange latest at e)
request_in_range latest at asked e arrival (Ok why) is so h =
    request_fits latest at asked e why is (subst (λ (a : Arrival). Befits a asked.command why) so h)
request_in_range latest at asked e arrival (Err fault) is so h = tt

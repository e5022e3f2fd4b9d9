-- Lemmas on an accepted command. Its timestamp is not before the latest accepted event, and not
-- after the greatest supported timestamp. No reason to refuse the command applies.
use Rattle.std.proofs.Common.{◌≡◌, ℕ, ◌≤◌, nat_lt, Bool, true, false, ◌||◌, List, [], ◌∷◌, refl, None}
use Rattle.std.specs.List.{find}
use Rattle.std.proofs.lemmas.Bool.{or_parts, ltb-false}
use Rattle.energy_core.specs.declared.admission.TermFault.TheVariants as fault
use Rattle.office_events.specs.declared.commands.Command.{Command}
use Rattle.office_events.specs.declared.events.Asked.{Asked}
use Rattle.office_events.specs.declared.events.Event.{Event}
use Rattle.office_events.specs.declared.events.Event.TheVariants as event
use Rattle.office_events.specs.declared.refusals.Refusal.{Refusal}
use Rattle.office_events.specs.declared.refusals.Refusal.TheVariants as refusal
use Rattle.office_books.specs.Facts.{moment_limit}
use Rattle.office_books.specs.History.{History, facts_of, slots_of, latest_of}
use Rattle.office_books.specs.Refusals.{refuses, reasons, refusal_of, is_mistimed, asks_wrongly, asks_unknown, asks_taken, asks_bad_scale, asks_faulty, asks_bad_field, is_crowded, asks_beyond, asks_past_numbers, is_bad_request}
use Rattle.office_books.proofs.LawfulChanges.{not_refused}
use Rattle.office_books.proofs.Lookups.{none_parts}

-- True if the timestamp is not before the latest accepted event and does not exceed the greatest
-- timestamp. Every accepted event has such a timestamp.
pub record IsTimely (past : History) (at : ℕ) : Type 0 where
  pub on_time : latest_of past ≤ at
  pub within : at ≤ moment_limit

pub is_timely : (past : History) (at : ℕ) (e : Event) → refusal_of past at e ≡ None → IsTimely past at
is_timely past at e h =
    let all = not_refused past at e h in
    let back = or_parts (nat_lt at (latest_of past)) _ all.1.1.0 in
    let limit = or_parts (nat_lt moment_limit at) _ all.1.1.1.1.1.1.1.1.1.1.0 in
    record { on_time = ltb-false at (latest_of past) back.0; within = ltb-false moment_limit at limit.0 }

-- True if none of the reasons to refuse the command applies, as for every accepted command.
pub record IsTaken (past : History) (at : ℕ) (c : Command) : Type 0 where
  pub known : asks_unknown (slots_of past) (facts_of past) c ≡ false
  pub new : asks_taken (slots_of past) (facts_of past) c ≡ false
  pub scale : asks_bad_scale c ≡ false
  pub negative : asks_faulty (facts_of past) at fault.NegativeStep c ≡ false
  pub later : asks_faulty (facts_of past) at fault.NotLater c ≡ false
  pub long : asks_faulty (facts_of past) at fault.SpanTooLong c ≡ false
  pub full : asks_faulty (facts_of past) at fault.TotalFull c ≡ false
  pub fields : asks_bad_field at c ≡ false
  pub below : asks_faulty (facts_of past) at fault.NotBelowRange c ≡ false
  pub few : asks_past_numbers (slots_of past) (facts_of past) at c ≡ false

pub is_taken : (past : History) (at : ℕ) (c : Command) → refusal_of past at (event.Command c) ≡ None → IsTaken past at c
is_taken past at c h =
    let all = not_refused past at (event.Command c) h in
    let four = all.1.1.1.1 in
    let limit = four.1.1.1.1.1.1 in
    let wrong = or_parts (nat_lt moment_limit at) (asks_beyond (slots_of past) (facts_of past) at c) limit.0 in
    let beyond = or_parts (asks_bad_field at c || is_crowded (slots_of past) (facts_of past) c) (asks_faulty (facts_of past) at fault.NotBelowRange c) wrong.1 in
    let fields = or_parts (asks_bad_field at c) (is_crowded (slots_of past) (facts_of past) c) beyond.0 in
    record {
      known = all.0;
      new = all.1.0;
      scale = all.1.1.1.0;
      negative = four.0;
      later = four.1.0;
      long = four.1.1.0;
      full = four.1.1.1.0;
      fields = fields.0;
      below = beyond.1;
      few = limit.1.1.1.1.1.1.1.1.1.1.0;
    }

-- Suppose that every refusal reason that satisfies the predicate `q` also satisfies the predicate
-- `p`. If no reason in a list satisfies `p`, then no reason in the list satisfies `q`.
less_refused : (p q : Refusal → Bool) → ((why : Refusal) → p why ≡ false → q why ≡ false) → (xs : List Refusal) → find p xs ≡ None → find q xs ≡ None
less_refused p q less [] h = refl
less_refused p q less (why ∷ xs) h =
    let parts = none_parts (p why) why (find p xs) h in
    rw (less why parts.0) (less_refused p q less xs parts.1)

both_false : (a b c : Bool) → (a || (b || c)) ≡ false → (a || b) ≡ false
both_false true b c h = h
both_false false true c h = h
both_false false false c h = refl

pub command_of_asked : (past : History) (at : ℕ) (asked : Asked) → refusal_of past at (event.Asked asked) ≡ None
    → refusal_of past at (event.Command asked.command) ≡ None
command_of_asked past at asked h =
    less_refused (refuses past at (event.Asked asked)) (refuses past at (event.Command asked.command))
    (λ why refused. both_false (is_mistimed (latest_of past) at why) (asks_wrongly (slots_of past) (facts_of past) at asked.command why) (is_bad_request asked why) refused)
    reasons h

-- If a request is accepted, then its idempotency key has a valid caller's name and a number within
-- the limit.
pub good_request : (past : History) (at : ℕ) (asked : Asked) → refusal_of past at (event.Asked asked) ≡ None → is_bad_request asked refusal.Limit ≡ false
good_request past at asked h =
    let all = not_refused past at (event.Asked asked) h in
    let limit = or_parts (nat_lt moment_limit at) _ all.1.1.1.1.1.1.1.1.1.1.0 in
    (or_parts (asks_wrongly (slots_of past) (facts_of past) at asked.command refusal.Limit) (is_bad_request asked refusal.Limit) limit.1).1

-- Proof that the stored answer of a request remains in the store after all later events.
use Rattle.std.proofs.Common.{◌≡◌, inl, inr, ℕ, ◌==◌, nat_lt, Bool, true, false, ◌&&◌, List, [], ◌∷◌, ◌++◌, map, reverse, refl, sym, ap, subst, ◌∙◌, Option, Some, None, Result, Ok, Err, eq-eqb}
use Rattle.std.specs.Prelude.{if◌then◌else◌}
use Rattle.std.specs.Str.{bytes_eq}
use Rattle.std.specs.List.{find}
use Rattle.std.specs.Option.{is_none, option_map, option_and_then, option_to_list}
use Rattle.std.proofs.lemmas.Bool.{and_parts, cases_Bool, cond-false, cond-true, eqb-true, or_parts}
use Rattle.office_events.specs.declared.answers.CommandKind.{CommandKind}
use Rattle.office_events.specs.declared.commands.Command.{Command}
use Rattle.office_events.specs.declared.events.Asked.{Asked}
use Rattle.office_events.specs.declared.events.Event.{Event}
use Rattle.office_events.specs.declared.events.Event.TheVariants as event
use Rattle.office_events.specs.declared.facts.Fact.{Fact}
use Rattle.office_events.specs.declared.facts.Fact.TheVariants as fact
use Rattle.office_events.specs.declared.facts.Poll.{Poll}
use Rattle.office_events.specs.declared.facts.Reply.{Reply}
use Rattle.office_events.specs.declared.refusals.Refusal.{Refusal}
use Rattle.office_events.specs.declared.refusals.Refusal.TheVariants as refusal
use Rattle.office_books.specs.Facts.{as_reply, moment_limit, replies_in, reply_of, same}
use Rattle.office_books.specs.History.{Fed, History, Opened, added_by, facts_of, kind_of, lost, reply_by, slots_of, next_poll, with_lost, with_settled}
use Rattle.office_books.specs.Refusals.{AreAccepted, by_reply, kept_of, refusal_of}
use Rattle.office_books.specs.Sessions.{Slot}
use Rattle.office_books.proofs.EndedFacts.{unseen-with_settled}
use Rattle.office_books.proofs.LawfulChanges.{not_refused}
use Rattle.office_books.proofs.Lookups.{same_itself, same_text}
use Rattle.office_books.proofs.LostPolls.{left_in, with_lost_is}
use Rattle.office_books.proofs.QuietFacts.{HoldsOfBooks, added_each, later_part_first, unseen}

-- A record of a point list, accounting register (a named energy counter), meter installation, meter
-- entry or cancellation of an entry has no stored answer to a request.
no_reply : HoldsOfBooks (λ f. as_reply f ≡ None)
no_reply = record { list = λ l. refl; register = λ r. refl; opening = λ o. refl; entry = λ b. refl; void = λ v. refl }

none_added : (number at : ℕ) (slots : List Slot) (facts : List Fact) (c : Command)
    → replies_in (reverse (added_by number at slots facts c) ++ facts) ≡ replies_in facts
none_added number at slots facts c =
    unseen as_reply (added_by number at slots facts c) facts
    (added_each (λ f. as_reply f ≡ None) no_reply number at slots facts c (λ d is. refl) (λ is d s. refl))

none_settled : (number at : ℕ) (e : Event) (slots : List Slot) (facts : List Fact) → replies_in (with_settled number at e slots facts) ≡ replies_in facts
none_settled number at e slots facts =
    unseen-with_settled as_reply (record { entry = λ b. refl; hold = λ h. refl }) (λ ended. refl) number at e slots facts

lost_unseen : (at : ℕ) (polls : List Poll) (facts : List Fact) → replies_in (map (lost at) polls ++ facts) ≡ replies_in facts
lost_unseen at [] facts = refl
lost_unseen at (poll ∷ polls) facts = lost_unseen at polls facts

none_lost : (at : ℕ) (facts : List Fact) → replies_in (with_lost at facts) ≡ replies_in facts
none_lost at facts = ap replies_in (with_lost_is at facts) ∙ lost_unseen at (left_in facts) facts

-- The stored answer to an accepted request, with the request's caller, number and bytes.
abbrev kept_reply : (at : ℕ) → Asked → (caller : List ℕ) → Reply
kept_reply at asked caller =
    record { caller = caller; number = asked.number; request = asked.request; kind = kind_of asked.command; at = at }

some_same : {X : Type 0} (a b : X) → Some a ≡ Some b → a ≡ b
some_same a b h = cc h

reply_first : (at : ℕ) (asked : Asked) (known : List Fact) (o : Option (List ℕ)) (caller : List ℕ) → o ≡ Some caller
    → replies_in (reverse (option_to_list (option_map (λ c. fact.Reply (kept_reply at asked c)) o)) ++ known) ≡ kept_reply at asked caller ∷ replies_in known
reply_first at asked known None caller is = cc is
reply_first at asked known (Some c) caller is = ap (λ (name : List ℕ). kept_reply at asked name ∷ replies_in known) (some_same c caller is)

reply_none : (at : ℕ) (asked : Asked) (known : List Fact) (o : Option (List ℕ)) → (let none : Option (List ℕ) = None in o ≡ none)
    → replies_in (reverse (option_to_list (option_map (λ c. fact.Reply (kept_reply at asked c)) o)) ++ known) ≡ replies_in known
reply_none at asked known None is = refl
reply_none at asked known (Some c) is = cc is

-- After an accepted request with an idempotency key, the stored answers are the answers that were
-- stored before, and the answer to this request.
asked_first : (number at : ℕ) (slots : List Slot) (facts : List Fact) (asked : Asked) (caller : List ℕ) → asked.caller ≡ Some caller
    → replies_in (reverse (added_by number at slots facts asked.command ++ reply_by at asked) ++ facts) ≡ kept_reply at asked caller ∷ replies_in facts
asked_first number at slots facts asked caller is =
    let added = added_by number at slots facts asked.command in
    ap replies_in (later_part_first added (reply_by at asked) facts) ∙ reply_first at asked (reverse added ++ facts) asked.caller caller is
    ∙ ap (λ (rs : List Reply). kept_reply at asked caller ∷ rs) (none_added number at slots facts asked.command)

asked_none : (number at : ℕ) (slots : List Slot) (facts : List Fact) (asked : Asked) → asked.caller ≡ None
    → replies_in (reverse (added_by number at slots facts asked.command ++ reply_by at asked) ++ facts) ≡ replies_in facts
asked_none number at slots facts asked is =
    let added = added_by number at slots facts asked.command in
    ap replies_in (later_part_first added (reply_by at asked) facts) ∙ reply_none at asked (reverse added ++ facts) asked.caller is
    ∙ none_added number at slots facts asked.command

-- The stored answer to the request with the given caller and number.
abbrev answer_in : List Reply → (caller : List ℕ) → (number : ℕ) → Option Reply
answer_in replies caller number = find (λ reply. same reply.caller caller && (reply.number == number)) replies

-- If a new answer with an unused key (caller and number) is stored, then a lookup still finds each
-- earlier answer.
answer_stays : (new : Reply) (replies : List Reply) (caller : List ℕ) (number : ℕ) (reply : Reply) → answer_in replies new.caller new.number ≡ None
    → answer_in replies caller number ≡ Some reply → answer_in (new ∷ replies) caller number ≡ Some reply
answer_stays new replies caller number reply none found =
    let test = same new.caller caller && (new.number == number) in
    elim (cases_Bool test) [
      | inl both ↦
          let parts = and_parts (same new.caller caller) (new.number == number) both in
          let who : new.caller ≡ caller = same_text new.caller caller parts.0 in
          let which : new.number ≡ number = eqb-true new.number number parts.1 in
          let here : answer_in replies caller number ≡ None =
          subst (λ (c : List ℕ). answer_in replies c number ≡ None) who (subst (λ (n : ℕ). answer_in replies new.caller n ≡ None) which none) in
          let never : (let o : Option Reply = None in o) ≡ Some reply = sym here ∙ found in
          cc never
      | inr other ↦ cond-false test (Some new) (answer_in replies caller number) other ∙ found
    ]

-- If an answer is stored, then a lookup of the answer's key (caller and number) finds this answer.
answer_new : (new : Reply) (replies : List Reply) → answer_in (new ∷ replies) new.caller new.number ≡ Some new
answer_new new replies =
    let own : (same new.caller new.caller && (new.number == new.number)) ≡ true = rw (same_itself new.caller, eq-eqb new.number new.number refl) refl in
    cond-true (same new.caller new.caller && (new.number == new.number)) (Some new) (answer_in replies new.caller new.number) own

-- True if the store has an answer of the given kind to a request, with the request's bytes.
pub record Keeps (facts : List Fact) (asked : Asked) (kind : CommandKind) : Type 0 where
  pub caller : List ℕ
  pub named : asked.caller ≡ Some caller
  pub reply : Reply
  pub found : reply_of facts caller asked.number ≡ Some reply
  pub bytes : reply.request ≡ asked.request
  pub done : reply.kind ≡ kind

keeps_as : (facts later : List Fact) (asked : Asked) (kind : CommandKind) → replies_in later ≡ replies_in facts → Keeps facts asked kind → Keeps later asked kind
keeps_as facts later asked kind is kept = record {
  caller = kept.caller;
  named = kept.named;
  reply = kept.reply;
  found = ap (λ (rs : List Reply). answer_in rs kept.caller asked.number) is ∙ kept.found;
  bytes = kept.bytes;
  done = kept.done;
}

map_none : {X Y : Type 0} (f : X → Y) (o : Option X) → option_map f o ≡ None → o ≡ None
map_none f None h = refl
map_none f (Some x) h = absurd (cc)

keeps_beside : (number at : ℕ) (slots : List Slot) (facts : List Fact) (new asked : Asked) (kind : CommandKind) (caller : Option (List ℕ)) → new.caller ≡ caller
    → kept_of facts (event.Asked new) ≡ None → Keeps facts asked kind
    → Keeps (reverse (added_by number at slots facts new.command ++ reply_by at new) ++ facts) asked kind
keeps_beside number at slots facts new asked kind None who fresh kept = keeps_as facts _ asked kind (asked_none number at slots facts new who) kept
keeps_beside number at slots facts new asked kind (Some caller) who fresh kept =
    let none : answer_in (replies_in facts) caller new.number ≡ None =
    map_none (by_reply new) (answer_in (replies_in facts) caller new.number)
    (subst (λ (o : Option (List ℕ)). option_map (by_reply new) (option_and_then (λ (c : List ℕ). reply_of facts c new.number) o) ≡ None) who fresh) in
    record {
      caller = kept.caller;
      named = kept.named;
      reply = kept.reply;
      found = ap (λ (rs : List Reply). answer_in rs kept.caller asked.number) (asked_first number at slots facts new caller who)
          ∙ answer_stays (kept_reply at new caller) (replies_in facts) kept.caller asked.number kept.reply none kept.found;
      bytes = kept.bytes;
      done = kept.done;
    }

-- After the next accepted event, the stored answer of a request is still in the store.
keeps_next : (past : History) (at : ℕ) (e : Event) (asked : Asked) (kind : CommandKind) → AreAccepted (Fed at e ∷ past) → Keeps (facts_of past) asked kind
    → Keeps (facts_of (Fed at e ∷ past)) asked kind
keeps_next past at (event.Connected given) asked kind accepted kept = kept
keeps_next past at (event.Bytes given piece) asked kind accepted kept =
    keeps_as (facts_of past) _ asked kind (none_settled (next_poll (facts_of past)) at (event.Bytes given piece) (slots_of past) (facts_of past)) kept
keeps_next past at event.Tick asked kind accepted kept =
    keeps_as (facts_of past) _ asked kind (none_settled (next_poll (facts_of past)) at event.Tick (slots_of past) (facts_of past)) kept
keeps_next past at (event.Gone given closing) asked kind accepted kept =
    keeps_as (facts_of past) _ asked kind (none_settled (next_poll (facts_of past)) at (event.Gone given closing) (slots_of past) (facts_of past)) kept
keeps_next past at (event.Command c) asked kind accepted kept =
    keeps_as (facts_of past) _ asked kind (none_added (next_poll (facts_of past)) at (slots_of past) (facts_of past) c) kept
keeps_next past at (event.Asked new) asked kind accepted kept =
    keeps_beside (next_poll (facts_of past)) at (slots_of past) (facts_of past) new asked kind new.caller refl accepted.0.new kept

-- After any number of later accepted events, the stored answer of a request is still in the store.
pub keeps_on : (more past : History) (asked : Asked) (kind : CommandKind) → AreAccepted (more ++ past) → Keeps (facts_of past) asked kind
    → Keeps (facts_of (more ++ past)) asked kind
keeps_on [] past asked kind accepted kept = kept
keeps_on (Opened at ∷ more) past asked kind accepted kept =
    keeps_as (facts_of (more ++ past)) _ asked kind (none_lost at (facts_of (more ++ past))) (keeps_on more past asked kind accepted.1 kept)
keeps_on (Fed at e ∷ more) past asked kind accepted kept =
    keeps_next (more ++ past) at e asked kind accepted (keeps_on more past asked kind accepted.1 kept)

-- If all events of a history were accepted, then all events of each earlier part of the history
-- were accepted.
pub accepted_before : (more past : History) → AreAccepted (more ++ past) → AreAccepted past
accepted_before [] past accepted = accepted
accepted_before (Opened at ∷ more) past accepted = accepted_before more past accepted.1
accepted_before (Fed at e ∷ more) past accepted = accepted_before more past accepted.1

-- If a request was accepted, then its caller has a valid name.
some_caller : (o : Option (List ℕ)) → is_none o ≡ false → (caller : List ℕ) × (o ≡ Some caller)
some_caller None h = cc h
some_caller (Some caller) h = (caller, refl)

caller_of : (past : History) (at : ℕ) (asked : Asked) → refusal_of past at (event.Asked asked) ≡ None → (caller : List ℕ) × (asked.caller ≡ Some caller)
caller_of past at asked right =
    let all = not_refused past at (event.Asked asked) right in
    let limit = or_parts (nat_lt moment_limit at) _ all.1.1.1.1.1.1.1.1.1.1.0 in
    let bad = or_parts _ _ limit.1 in
    some_caller asked.caller (or_parts (is_none asked.caller) _ bad.1).0

-- If a request was accepted, then its answer is stored.
pub keeps_first : (past : History) (at : ℕ) (asked : Asked) → AreAccepted (Fed at (event.Asked asked) ∷ past)
    → Keeps (facts_of (Fed at (event.Asked asked) ∷ past)) asked (kind_of asked.command)
keeps_first past at asked accepted =
    let who = caller_of past at asked accepted.0.right in
    let first = asked_first (next_poll (facts_of past)) at (slots_of past) (facts_of past) asked who.0 who.1 in
    record {
      caller = who.0;
      named = who.1;
      reply = kept_reply at asked who.0;
      found = ap (λ (rs : List Reply). answer_in rs who.0 asked.number) first ∙ answer_new (kept_reply at asked who.0) (replies_in (facts_of past));
      bytes = refl;
      done = refl;
    }

-- If the store has the answer of a request, then a retry of the request gets this answer.
pub answers : (facts : List Fact) (asked again : Asked) (kind : CommandKind) → again.caller ≡ asked.caller → again.number ≡ asked.number → again.request ≡ asked.request
    → Keeps facts asked kind → kept_of facts (event.Asked again) ≡ Some (Ok kind)
answers facts asked again kind who which what kept =
    let bytes : bytes_eq kept.reply.request again.request ≡ true = rw (kept.bytes ∙ sym what) (same_itself again.request) in
    rw (who ∙ kept.named, which, kept.found, bytes) (ap (λ (k : CommandKind). let r : Result CommandKind Refusal = Ok k in Some r) kept.done)

-- If the stored answer with a request's key is the answer to this request, then the bytes stored
-- with the answer are the request's bytes.
by_bytes : (asked : Asked) (reply : Reply) (kind : CommandKind) (b : Bool) → bytes_eq reply.request asked.request ≡ b
    → (let r : Result CommandKind Refusal = Ok kind in (if b then Ok reply.kind else Err refusal.Reused) ≡ r) → (reply.request ≡ asked.request) × (reply.kind ≡ kind)
by_bytes asked reply kind true same_bytes h = (same_text reply.request asked.request same_bytes, cc h)
by_bytes asked reply kind false same_bytes h = cc h

by_answer : (facts : List Fact) (asked : Asked) (kind : CommandKind) (caller : List ℕ) (found : Option Reply) → asked.caller ≡ Some caller
    → reply_of facts caller asked.number ≡ found → option_map (by_reply asked) found ≡ Some (Ok kind) → Keeps facts asked kind
by_answer facts asked kind caller None who is h = cc h
by_answer facts asked kind caller (Some reply) who is h =
    let parts = by_bytes asked reply kind (bytes_eq reply.request asked.request) refl (some_same (by_reply asked reply) (Ok kind) h) in
    record { caller = caller; named = who; reply = reply; found = is; bytes = parts.0; done = parts.1 }

by_caller : (facts : List Fact) (asked : Asked) (kind : CommandKind) (caller : Option (List ℕ)) → asked.caller ≡ caller
    → option_map (by_reply asked) (option_and_then (λ (c : List ℕ). reply_of facts c asked.number) caller) ≡ Some (Ok kind) → Keeps facts asked kind
by_caller facts asked kind None who h = cc h
by_caller facts asked kind (Some caller) who h = by_answer facts asked kind caller (reply_of facts caller asked.number) who refl h

pub kept_again : (facts : List Fact) (asked : Asked) (kind : CommandKind) → kept_of facts (event.Asked asked) ≡ Some (Ok kind) → Keeps facts asked kind
kept_again facts asked kind h = by_caller facts asked kind asked.caller refl h

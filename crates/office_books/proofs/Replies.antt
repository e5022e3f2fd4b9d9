-- Lemmas: the rules for adding records accept the stored response to a request after the records of
-- the request's command.
use Rattle.std.proofs.Common.{◌≡◌, ℕ, ◌≤◌, ◌==◌, nat_lt, false, ◌||◌, ◌&&◌, List, ◌++◌, reverse, refl, sym, ap, subst, ◌∙◌, Option, Some, None}
use Rattle.std.specs.List.{find}
use Rattle.std.specs.Option.{is_none, option_map, option_and_then, option_to_list}
use Rattle.std.proofs.lemmas.Bool.{ltb-false}
use Rattle.office_events.specs.declared.facts.Reply.{Reply}
use Rattle.office_events.specs.declared.facts.Fact.{Fact}
use Rattle.office_events.specs.declared.facts.Fact.TheVariants as fact
use Rattle.office_events.specs.declared.commands.Command.{Command}
use Rattle.office_events.specs.declared.events.Asked.{Asked}
use Rattle.office_events.specs.declared.events.Event.TheVariants as event
use Rattle.office_events.specs.declared.refusals.Refusal.TheVariants as refusal
use Rattle.office_books.specs.Facts.{moment_limit, request_limit, as_reply, same, replies_in, reply_of}
use Rattle.office_books.specs.Sessions.{Slot}
use Rattle.office_books.specs.History.{added_by, reply_by, kind_of}
use Rattle.office_books.specs.Refusals.{by_reply, kept_of, is_bad_request}
use Rattle.office_books.specs.Lawful.{AreLawful}
use Rattle.office_books.proofs.Added.{Allows, command_each, any_time, unseen_added, replied_is}

no_reply : Allows (λ f. as_reply f ≡ None) (λ m. Unit {0})
no_reply = record {
  list = λ l. refl;
  register = λ r. refl;
  opening = λ o h. refl;
  entry = λ b h. refl;
  void = λ v h. refl;
  poll = λ p h. refl;
}

-- The records of a command contain no stored response.
no_reply_added : (number at : ℕ) (slots : List Slot) (facts : List Fact) (c : Command)
    → replies_in (reverse (added_by number at slots facts c) ++ facts) ≡ replies_in facts
no_reply_added number at slots facts c =
    unseen_added as_reply (added_by number at slots facts c) facts
    (command_each (λ f. as_reply f ≡ None) (λ m. Unit {0}) number at slots facts c no_reply tt (any_time at c) (λ d is. refl))

map_none : {X Y : Type 0} (f : X → Y) (o : Option X) → option_map f o ≡ None → o ≡ None
map_none f None h = refl
map_none f (Some x) h = absurd (cc)

by_caller : (facts known : List Fact) (at : ℕ) (asked : Asked) (caller : Option (List ℕ)) → AreLawful known → at ≤ moment_limit
    → replies_in known ≡ replies_in facts → option_and_then (λ (c : List ℕ). reply_of facts c asked.number) caller ≡ None
    → (is_none caller || nat_lt request_limit asked.number) ≡ false
    → AreLawful (reverse (option_to_list (option_map (λ c. fact.Reply (record { caller = c; number = asked.number; request = asked.request; kind = kind_of asked.command; at = at })) caller)) ++ known)
by_caller facts known at asked None h timely kept new good = h
by_caller facts known at asked (Some caller) h timely kept new good = (
  (
    record {
      new = ap (λ (rs : List Reply). find (λ (r : Reply). same r.caller caller && (r.number == asked.number)) rs) kept ∙ new;
      number = ltb-false request_limit asked.number good;
    },
    timely,
  ),
  h,
)

-- If the rules for adding records (`AreLawful`) accept the records of a command, then they also
-- accept the stored response to the command's request.
pub asked_fits : (number at : ℕ) (slots : List Slot) (facts : List Fact) (asked : Asked) → at ≤ moment_limit
    → kept_of facts (event.Asked asked) ≡ None → is_bad_request asked refusal.Limit ≡ false
    → AreLawful (reverse (added_by number at slots facts asked.command) ++ facts)
    → AreLawful (reverse (added_by number at slots facts asked.command ++ reply_by at asked) ++ facts)
asked_fits number at slots facts asked timely new good h =
    let added : List Fact = added_by number at slots facts asked.command in
    subst AreLawful (sym (replied_is added (reply_by at asked) facts))
    (by_caller facts (reverse added ++ facts) at asked asked.caller h timely (no_reply_added number at slots facts asked.command)
    (map_none (by_reply asked) (option_and_then (λ (c : List ℕ). reply_of facts c asked.number) asked.caller) new) good)

-- Lemmas: a property of each kind of record that a command adds holds for all records of the
-- command. Records that concern no poll leave the recorded polls unchanged.
use Rattle.std.proofs.Common.{◌≡◌, ℕ, true, List, [], ◌∷◌, ◌++◌, map, reverse, refl, ap, ◌∙◌, Option, Some, None, append_assoc}
use Rattle.std.specs.List.{filter_map, cons_option}
use Rattle.std.specs.Option.{option_map, option_and_then, option_to_list}
use Rattle.std.proofs.lemmas.List.{reverse-append}
use Rattle.mb_wire.specs.declared.span.ReadSpan.{ReadSpan}
use Rattle.office_events.specs.declared.facts.Device.{Device}
use Rattle.office_events.specs.declared.facts.DeviceList.{DeviceList}
use Rattle.office_events.specs.declared.facts.Register.{Register}
use Rattle.office_events.specs.declared.facts.Opening.{Opening}
use Rattle.office_events.specs.declared.facts.BookedEntry.{BookedEntry}
use Rattle.office_events.specs.declared.facts.VoidedEntry.{VoidedEntry}
use Rattle.office_events.specs.declared.facts.Reply.{Reply}
use Rattle.office_events.specs.declared.facts.Fact.{Fact}
use Rattle.office_events.specs.declared.facts.Fact.TheVariants as fact
use Rattle.office_events.specs.declared.commands.Command.{Command}
use Rattle.office_events.specs.declared.commands.Command.TheVariants as command
use Rattle.office_events.specs.declared.commands.Install.{Install}
use Rattle.office_events.specs.declared.events.Asked.{Asked}
use Rattle.office_books.specs.Facts.{as_poll, as_ended, as_hold}
use Rattle.office_books.specs.Meters.{open_at}
use Rattle.office_books.specs.Sessions.{Slot, Send, slot_of, sends_at, device_by}
use Rattle.office_books.specs.History.{Made, made_by, made_on, corrected_at, entries_by, openings_by, opening_by, register_by, installed_by, poll_by, polls_from, spans_by, added_by, reply_by, kind_of}
use Rattle.office_books.specs.Refusals.{is_start}

-- True if the property `P` holds for each record of a list.
abbrev pub Each : (Fact → Type 0) → List Fact → Type 0
Each P [] = Unit {0}
Each P (f ∷ facts) = P f × Each P facts

each_both : (P : Fact → Type 0) (xs ys : List Fact) → Each P xs → Each P ys → Each P (xs ++ ys)
each_both P [] ys h k = k
each_both P (x ∷ xs) ys h k = (h.0, each_both P xs ys h.1 k)

each_of : {X : Type 0} (P : Fact → Type 0) (f : X → Fact) (o : Option X) → ((x : X) → o ≡ Some x → P (f x)) → Each P (option_to_list (option_map f o))
each_of P f None h = tt
each_of P f (Some x) h = (h x refl, tt)

each_map : {X : Type 0} (P : Fact → Type 0) (f : X → Fact) → ((x : X) → P (f x)) → (o : Option X) → Each P (option_to_list (option_map f o))
each_map P f h o = each_of P f o (λ x e. h x)

each_then : {X : Type 0} (P : Fact → Type 0) (f : X → Option Fact) → ((x : X) → Each P (option_to_list (f x))) → (o : Option X)
    → Each P (option_to_list (option_and_then f o))
each_then P f h None = tt
each_then P f h (Some x) = h x

pub each_mapped : {X : Type 0} (P : Fact → Type 0) (f : X → Fact) → ((x : X) → P (f x)) → (xs : List X) → Each P (map f xs)
each_mapped P f h [] = tt
each_mapped P f h (x ∷ xs) = (h x, each_mapped P f h xs)

-- Adding records one by one places the latest record first.
pub later_first : (f : Fact) (added facts : List Fact) → reverse (f ∷ added) ++ facts ≡ reverse added ++ (f ∷ facts)
later_first f added facts =
    ap (λ (fs : List Fact). fs ++ facts) (reverse-append (f ∷ []) added) ∙ append_assoc (reverse added) (f ∷ []) facts

pub later_part_first : (added later facts : List Fact) → reverse (added ++ later) ++ facts ≡ reverse later ++ (reverse added ++ facts)
later_part_first added later facts =
    ap (λ (fs : List Fact). fs ++ facts) (reverse-append added later) ∙ append_assoc (reverse later) (reverse added) facts

-- If a filter of the records finds none of the added records, then adding these records leaves the
-- filter's result unchanged.
pub unseen : {X : Type 0} (look : Fact → Option X) (added facts : List Fact) → Each (λ f. look f ≡ None) added
    → filter_map look (reverse added ++ facts) ≡ filter_map look facts
unseen look [] facts h = refl
unseen look (f ∷ added) facts h =
    ap (filter_map look) (later_first f added facts) ∙ unseen look added (f ∷ facts) h.1 ∙ ap (λ o. cons_option o (filter_map look facts)) h.0

-- True if the property `P` holds for each record of a point list, an accounting register (a named
-- energy counter), a meter's installation, an entry or a void (cancellation). A command adds no
-- other records except devices and polls.
pub record HoldsOfBooks (P : Fact → Type 0) : Type 0 where
  pub list : (put : DeviceList) → P (fact.List put)
  pub register : (register : Register) → P (fact.Register register)
  pub opening : (opening : Opening) → P (fact.Opening opening)
  pub entry : (booked : BookedEntry) → P (fact.Entry booked)
  pub void : (voided : VoidedEntry) → P (fact.Void voided)

openings_each : (P : Fact → Type 0) → HoldsOfBooks P → (at : ℕ) (c : Install) → Each P (openings_by at c)
openings_each P h at c =
    each_then P (λ register. option_map (λ meter. opening_by at c register meter) c.meter)
    (λ register. each_map P (λ meter. opening_by at c register meter) (λ meter. h.opening _) c.meter) c.register

entries_each : (P : Fact → Type 0) → HoldsOfBooks P → (at : ℕ) (facts : List Fact) (c : Command) → Each P (entries_by at facts c)
entries_each P h at facts c =
    each_then P (made_on at c)
    (λ row. each_map P (λ (made : Made). fact.Entry (record { meter = row.opening.meter; kind = made.kind; entry = made.entry })) (λ made. h.entry _) (made_by at row.last c))
    (option_and_then (open_at facts) (corrected_at c))

polls_each : (P : Fact → Type 0) → (number at : ℕ) (spans : List ReadSpan) (o : Option Slot) → ((device : Device) (send : Send) → P (poll_by at device send))
    → Each P (polls_from number at spans o)
polls_each P number at spans None h = tt
polls_each P number at spans (Some slot) h =
    each_mapped P (poll_by at slot.device) (h slot.device) (sends_at number at slot.device slot.present spans)

-- The device that a command adds, or `None`.
abbrev pub new_device : Command → Option Device
new_device (command.AddDevice c) = device_by c
new_device _ = None

pub added_each : (P : Fact → Type 0) → HoldsOfBooks P → (number at : ℕ) (slots : List Slot) (facts : List Fact) (c : Command)
    → ((device : Device) → new_device c ≡ Some device → P (fact.Device device))
    → (is_start c ≡ true → (device : Device) (send : Send) → P (poll_by at device send))
    → Each P (added_by number at slots facts c)
added_each P h number at slots facts (command.AddDevice c) device send = each_of P fact.Device (device_by c) device
added_each P h number at slots facts (command.PutList c) device send =
    each_map P (λ name. fact.List (record { device = name; list = c.list })) (λ name. h.list _) c.device
added_each P h number at slots facts (command.AddRegister c) device send =
    each_then P (λ name. option_map (λ owner. register_by c name owner) c.device)
    (λ name. each_map P (λ owner. register_by c name owner) (λ owner. h.register _) c.device) c.name
added_each P h number at slots facts (command.Install c) device send = openings_each P h at c
added_each P h number at slots facts (command.Exchange c) device send =
    each_both P _ _ (entries_each P h at facts (command.Exchange c)) (openings_each P h at (installed_by c))
added_each P h number at slots facts (command.Reset c) device send = entries_each P h at facts (command.Reset c)
added_each P h number at slots facts (command.Rescale c) device send = entries_each P h at facts (command.Rescale c)
added_each P h number at slots facts (command.Manual c) device send = entries_each P h at facts (command.Manual c)
added_each P h number at slots facts (command.Close c) device send = entries_each P h at facts (command.Close c)
added_each P h number at slots facts (command.Void c) device send =
    each_map P (λ meter. fact.Void (record { meter = meter; place = c.place; at = at })) (λ meter. h.void _) c.meter
added_each P h number at slots facts (command.StartPoll c) device send =
    polls_each P number at (spans_by facts (command.StartPoll c)) (slot_of slots c.device) (send refl)
added_each P h number at slots facts (command.StartRound c) device send =
    polls_each P number at (spans_by facts (command.StartRound c)) (slot_of slots c.device) (send refl)

-- If the property `P` holds for every record that stores a response, then it holds for the record
-- of the response to the given request.
pub reply_each : (P : Fact → Type 0) → ((reply : Reply) → P (fact.Reply reply)) → (at : ℕ) (asked : Asked) → Each P (reply_by at asked)
reply_each P h at asked =
    each_map P (λ caller. fact.Reply (record { caller = caller; number = asked.number; request = asked.request; kind = kind_of asked.command; at = at }))
    (λ caller. h _) asked.caller

-- True if the record starts no poll, ends no poll, and is not a rejected reading of a poll.
pub record IsQuiet (f : Fact) : Type 0 where
  pub poll : as_poll f ≡ None
  pub ended : as_ended f ≡ None
  pub hold : as_hold f ≡ None

abbrev pub AreQuiet : List Fact → Type 0
AreQuiet facts = Each IsQuiet facts

pub books_quiet : HoldsOfBooks IsQuiet
books_quiet = record {
  list = λ p. record { poll = refl; ended = refl; hold = refl };
  register = λ r. record { poll = refl; ended = refl; hold = refl };
  opening = λ o. record { poll = refl; ended = refl; hold = refl };
  entry = λ b. record { poll = refl; ended = refl; hold = refl };
  void = λ v. record { poll = refl; ended = refl; hold = refl };
}

unseen_polls : (added : List Fact) → AreQuiet added → Each (λ f. as_poll f ≡ None) added
unseen_polls [] h = tt
unseen_polls (f ∷ added) h = (h.0.poll, unseen_polls added h.1)

unseen_ends : (added : List Fact) → AreQuiet added → Each (λ f. as_ended f ≡ None) added
unseen_ends [] h = tt
unseen_ends (f ∷ added) h = (h.0.ended, unseen_ends added h.1)

pub quiet_polls : (added facts : List Fact) → AreQuiet added → filter_map as_poll (reverse added ++ facts) ≡ filter_map as_poll facts
quiet_polls added facts h = unseen as_poll added facts (unseen_polls added h)

pub quiet_ends : (added facts : List Fact) → AreQuiet added → filter_map as_ended (reverse added ++ facts) ≡ filter_map as_ended facts
quiet_ends added facts h = unseen as_ended added facts (unseen_ends added h)

pub quiet_reply : (at : ℕ) (asked : Asked) → AreQuiet (reply_by at asked)
quiet_reply at asked = reply_each IsQuiet (λ r. record { poll = refl; ended = refl; hold = refl }) at asked

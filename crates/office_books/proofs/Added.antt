-- The records that an accepted command adds, and properties that hold for all of these records.
use Rattle.std.proofs.Common.{◌≡◌, ℕ, ◌≤◌, max, Bool, true, false, List, [], ◌∷◌, ◌++◌, map, reverse, refl, sym, ap, subst, ◌∙◌, Option, Some, None, append_assoc, arith}
use Rattle.std.specs.List.{filter_map, cons_option}
use Rattle.std.specs.Option.{option_map, option_and_then, option_to_list}
use Rattle.std.proofs.lemmas.List.{reverse-append}
use Rattle.std.proofs.lemmas.Bool.Decides.{nat_tests}
use Rattle.mb_wire.specs.declared.span.ReadSpan.{ReadSpan}
use Rattle.energy_core.specs.Account.{moment_of}
use Rattle.energy_core.specs.declared.entries.Last.{Last}
use Rattle.office_events.specs.declared.facts.Device.{Device}
use Rattle.office_events.specs.declared.facts.DeviceList.{DeviceList}
use Rattle.office_events.specs.declared.facts.Register.{Register}
use Rattle.office_events.specs.declared.facts.Opening.{Opening}
use Rattle.office_events.specs.declared.facts.BookedEntry.{BookedEntry}
use Rattle.office_events.specs.declared.facts.VoidedEntry.{VoidedEntry}
use Rattle.office_events.specs.declared.facts.Poll.{Poll}
use Rattle.office_events.specs.declared.facts.Reply.{Reply}
use Rattle.office_events.specs.declared.facts.Fact.{Fact}
use Rattle.office_events.specs.declared.facts.Fact.TheVariants as fact
use Rattle.office_events.specs.declared.commands.Install.{Install}
use Rattle.office_events.specs.declared.commands.Command.{Command}
use Rattle.office_events.specs.declared.commands.Command.TheVariants as command
use Rattle.office_events.specs.declared.events.Asked.{Asked}
use Rattle.office_books.specs.Facts.{moment_in, latest_in}
use Rattle.office_books.specs.Meters.{open_at}
use Rattle.office_books.specs.Sessions.{Slot, slot_of, sends_at, device_by}
use Rattle.office_books.specs.History.{Made, made_by, made_on, corrected_at, read_at, entries_by, openings_by, opening_by, installed_by, register_by, poll_by, polls_from, spans_by, added_by, reply_by, kind_of}

-- True if the property `P` holds for each record of a list.
abbrev pub Each : (Fact → Type 0) → List Fact → Type 0
Each P [] = Unit {0}
Each P (f ∷ facts) = P f × Each P facts

each_both : (P : Fact → Type 0) (xs ys : List Fact) → Each P xs → Each P ys → Each P (xs ++ ys)
each_both P [] ys h k = k
each_both P (x ∷ xs) ys h k = (h.0, each_both P xs ys h.1 k)

each_map : {X : Type 0} (P : Fact → Type 0) (f : X → Fact) → ((x : X) → P (f x)) → (o : Option X) → Each P (option_to_list (option_map f o))
each_map P f h None = tt
each_map P f h (Some x) = (h x, tt)

each_then : {X : Type 0} (P : Fact → Type 0) (f : X → Option Fact) → ((x : X) → Each P (option_to_list (f x))) → (o : Option X)
    → Each P (option_to_list (option_and_then f o))
each_then P f h None = tt
each_then P f h (Some x) = h x

each_listed : {X : Type 0} (P : Fact → Type 0) (f : X → Fact) → ((x : X) → P (f x)) → (xs : List X) → Each P (map f xs)
each_listed P f h [] = tt
each_listed P f h (x ∷ xs) = (h x, each_listed P f h xs)

-- True if the property `P` holds for each record that a command may add, except a device record.
-- For a record with a timestamp, `P` is required only if `T` holds for the timestamp.
pub record Allows (P : Fact → Type 0) (T : ℕ → Type 0) : Type 0 where
  pub list : (l : DeviceList) → P (fact.List l)
  pub register : (r : Register) → P (fact.Register r)
  pub opening : (o : Opening) → T o.at → P (fact.Opening o)
  pub entry : (b : BookedEntry) → T (moment_of b.entry) → P (fact.Entry b)
  pub void : (v : VoidedEntry) → T v.at → P (fact.Void v)
  pub poll : (p : Poll) → T p.at → P (fact.Poll p)

abbrev pub adds_device : Command → Bool
adds_device (command.AddDevice c) = true
adds_device _ = false

-- True if a command is no manual reading, or if the time of its manual reading has the property
-- `T`.
abbrev pub ReadsAt : (ℕ → Type 0) → (at : ℕ) → Command → Type 0
ReadsAt T at (command.Manual c) = T (read_at at c.at)
ReadsAt T at _ = Unit {0}

pub any_time : (at : ℕ) (c : Command) → ReadsAt (λ m. Unit {0}) at c
any_time at (command.Manual c) = tt
any_time at c = tt

abbrev MadeAt : (ℕ → Type 0) → Option Made → Type 0
MadeAt T None = Unit {0}
MadeAt T (Some made) = T (moment_of made.entry)

made_each : (P : Fact → Type 0) (T : ℕ → Type 0) → Allows P T → (meter : List ℕ) (o : Option Made) → MadeAt T o
    → Each P (option_to_list (option_map (λ (made : Made). fact.Entry (record { meter = meter; kind = made.kind; entry = made.entry })) o))
made_each P T h meter None made = tt
made_each P T h meter (Some m) made = (h.entry (record { meter = meter; kind = m.kind; entry = m.entry }) made, tt)

entries_each : (P : Fact → Type 0) (T : ℕ → Type 0) (at : ℕ) (facts : List Fact) (c : Command) → Allows P T
    → ((last : Last) → MadeAt T (made_by at last c)) → Each P (entries_by at facts c)
entries_each P T at facts c h made =
    each_then P (made_on at c) (λ row. made_each P T h row.opening.meter (made_by at row.last c) (made row.last))
    (option_and_then (open_at facts) (corrected_at c))

openings_each : (P : Fact → Type 0) (T : ℕ → Type 0) (at : ℕ) (c : Install) → Allows P T → T at → Each P (openings_by at c)
openings_each P T at c h now =
    each_then P (λ register. option_map (λ meter. opening_by at c register meter) c.meter)
    (λ register. each_map P (λ meter. opening_by at c register meter) (λ meter. h.opening _ now) c.meter) c.register

polls_each : (P : Fact → Type 0) (T : ℕ → Type 0) (number at : ℕ) (spans : List ReadSpan) (o : Option Slot) → Allows P T → T at
    → Each P (polls_from number at spans o)
polls_each P T number at spans None h now = tt
polls_each P T number at spans (Some slot) h now =
    each_listed P (poll_by at slot.device) (λ send. h.poll _ now) (sends_at number at slot.device slot.present spans)

-- If `P` holds for all records whose timestamps have the property `T`, then `P` holds for each
-- record that a command adds. The command's timestamps must have the property `T`, and its device
-- record the property `P`.
pub command_each : (P : Fact → Type 0) (T : ℕ → Type 0) (number at : ℕ) (slots : List Slot) (facts : List Fact) (c : Command) → Allows P T
    → T at → ReadsAt T at c → ((d : Device) → adds_device c ≡ true → P (fact.Device d)) → Each P (added_by number at slots facts c)
command_each P T number at slots facts (command.AddDevice c) h now reads device = each_map P fact.Device (λ d. device d refl) (device_by c)
command_each P T number at slots facts (command.PutList c) h now reads device =
    each_map P (λ d. fact.List (record { device = d; list = c.list })) (λ d. h.list _) c.device
command_each P T number at slots facts (command.AddRegister c) h now reads device =
    each_then P (λ name. option_map (λ d. register_by c name d) c.device)
    (λ name. each_map P (λ d. register_by c name d) (λ d. h.register _) c.device) c.name
command_each P T number at slots facts (command.Install c) h now reads device = openings_each P T at c h now
command_each P T number at slots facts (command.Exchange c) h now reads device =
    each_both P (entries_by at facts (command.Exchange c)) (openings_by at (installed_by c))
    (entries_each P T at facts (command.Exchange c) h (λ last. now)) (openings_each P T at (installed_by c) h now)
command_each P T number at slots facts (command.Reset c) h now reads device = entries_each P T at facts (command.Reset c) h (λ last. now)
command_each P T number at slots facts (command.Rescale c) h now reads device = entries_each P T at facts (command.Rescale c) h (λ last. now)
command_each P T number at slots facts (command.Manual c) h now reads device = entries_each P T at facts (command.Manual c) h (λ last. reads)
command_each P T number at slots facts (command.Close c) h now reads device = entries_each P T at facts (command.Close c) h (λ last. now)
command_each P T number at slots facts (command.Void c) h now reads device =
    each_map P (λ meter. fact.Void (record { meter = meter; place = c.place; at = at })) (λ m. h.void _ now) c.meter
command_each P T number at slots facts (command.StartPoll c) h now reads device =
    polls_each P T number at (spans_by facts (command.StartPoll c)) (slot_of slots c.device) h now
command_each P T number at slots facts (command.StartRound c) h now reads device =
    polls_each P T number at (spans_by facts (command.StartRound c)) (slot_of slots c.device) h now

pub unseen_reply : (P : Fact → Type 0) (at : ℕ) (asked : Asked) → ((r : Reply) → r.at ≡ at → P (fact.Reply r)) → Each P (reply_by at asked)
unseen_reply P at asked h =
    each_map P (λ caller. fact.Reply (record { caller = caller; number = asked.number; request = asked.request; kind = kind_of asked.command; at = at }))
    (λ caller. h _ refl) asked.caller

-- Adding records one by one places the latest record first.
later_first : (f : Fact) (added facts : List Fact) → reverse (f ∷ added) ++ facts ≡ reverse added ++ (f ∷ facts)
later_first f added facts =
    ap (λ (fs : List Fact). fs ++ facts) (reverse-append (f ∷ []) added) ∙ append_assoc (reverse added) (f ∷ []) facts

pub unseen_added : {X : Type 0} (look : Fact → Option X) (added facts : List Fact) → Each (λ f. look f ≡ None) added
    → filter_map look (reverse added ++ facts) ≡ filter_map look facts
unseen_added look [] facts h = refl
unseen_added look (f ∷ added) facts h =
    ap (filter_map look) (later_first f added facts) ∙ unseen_added look added (f ∷ facts) h.1
    ∙ ap (λ o. cons_option o (filter_map look facts)) h.0

pub replied_is : (added replies facts : List Fact) → reverse (added ++ replies) ++ facts ≡ reverse replies ++ (reverse added ++ facts)
replied_is added replies facts =
    ap (λ (fs : List Fact). fs ++ facts) (reverse-append added replies) ∙ append_assoc (reverse replies) (reverse added) facts

-- If each of two timestamps is at most a third timestamp, then their maximum is at most the third
-- timestamp.
pub max_least : (a b c : ℕ) → a ≤ c → b ≤ c → max a b ≤ c
max_least a b c h k = grind (arith, nat_tests)

pub latest_added : (at : ℕ) (added facts : List Fact) → Each (λ f. moment_in f ≤ at) added → latest_in facts ≤ at
    → latest_in (reverse added ++ facts) ≤ at
latest_added at [] facts h k = k
latest_added at (f ∷ added) facts h k =
    subst (λ (fs : List Fact). latest_in fs ≤ at) (sym (later_first f added facts))
    (latest_added at added (f ∷ facts) h.1 (max_least (moment_in f) (latest_in facts) at h.0 k))

in_time : (at : ℕ) → Allows (λ f. moment_in f ≤ at) (λ m. m ≤ at)
in_time at = record {
  list = λ l. omega arith;
  register = λ r. omega arith;
  opening = λ o h. h;
  entry = λ b h. h;
  void = λ v h. h;
  poll = λ p h. h;
}

pub latest_commanded : (number at : ℕ) (slots : List Slot) (facts : List Fact) (c : Command) → ReadsAt (λ m. m ≤ at) at c → latest_in facts ≤ at
    → latest_in (reverse (added_by number at slots facts c) ++ facts) ≤ at
latest_commanded number at slots facts c reads h =
    latest_added at (added_by number at slots facts c) facts
    (command_each (λ f. moment_in f ≤ at) (λ m. m ≤ at) number at slots facts c (in_time at) (omega arith) reads (λ d is. omega arith)) h

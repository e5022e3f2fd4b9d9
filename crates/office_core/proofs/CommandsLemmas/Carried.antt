-- Proof that executing a command has the effect of the event that requests this command.
use Rattle.std.proofs.Common.{◌≡◌, ℕ, false, List, [], ◌∷◌, ◌++◌, map, reverse, refl, sym, ap, subst, ◌∙◌, Option, Some, None, Result, Ok, Err, OnOk, IfOk}
use Rattle.std.proofs.lemmas.List.{append-nil}
use Rattle.std.proofs.lemmas.Bool.{cond-false}
use Rattle.mb_wire.specs.declared.span.ReadSpan.{ReadSpan}
use Rattle.poll_core.specs.Settling as session
use Rattle.office_events.specs.declared.facts.Device.{Device}
use Rattle.office_events.specs.declared.facts.Fact.{Fact}
use Rattle.office_events.specs.declared.answers.Answer.TheVariants as answers
use Rattle.office_events.specs.declared.commands.Command.{Command}
use Rattle.office_events.specs.declared.commands.Command.TheVariants as command
use Rattle.office_events.specs.declared.commands.AddDevice.{AddDevice}
use Rattle.office_events.specs.declared.events.Event.{Event}
use Rattle.office_events.specs.declared.events.Event.TheVariants as event
use Rattle.office_books.specs.Facts.{is_named}
use Rattle.office_books.specs.Lawful.{AreLawful}
use Rattle.office_books.specs.Sessions as sessions
use Rattle.office_books.specs.Sessions.{Send, command_in, slot_of, slot_reached, slot_after, slots_after, slots_added, new_slot, device_by, with_happenings, start_by, starts_by, sends_on, sends_at}
use Rattle.office_books.specs.History.{History, Fed, facts_of, slots_of, next_poll, spans_by, added_by, kind_of}
use Rattle.office_books.specs.Notes as notes
use Rattle.office_books.specs.Notes.{outgoing_of, frames_from}
use Rattle.office_books.specs.Refusals.{IsAccepted, is_start, answer_to, answer_of}
use Rattle.office_core.specs.declared.sessions.slots.Slot.{Slot}
use Rattle.office_core.specs.Sessions.Keeping.{KeepsPresent, KeepsSlot, KeepsSlots}
use Rattle.poll_core.specs.Standing.{State}
use Rattle.office_books.specs.declared.faults.BooksFault.{BooksFault}
use Rattle.office_books.specs.Ledgers.{Ledger, Moves}
use Rattle.office_books.specs.Lawfulness.{IsPast, FactsAreLawful, PutsPlanned}
use Rattle.office_core.specs.declared.commands.effects.Done.{Done}
use Rattle.office_core.specs.Commands.Effects.{replies_by, started_on, slot_obeyed, slots_obeyed, facts_obeyed, Obeys, Carries}

-- If an event requests a command, then the records after the event equal the records after the
-- command, with the stored answer to the request.
pub fed_is : (past : History) (at : ℕ) (e : Event) (c : Command) (replies : List Fact) → command_in e ≡ Some c → replies_by at e ≡ replies
    → facts_of (Fed at e ∷ past) ≡ facts_obeyed at (slots_of past) (facts_of past) c replies
fed_is past at (event.Connected given) c replies is kept = absurd (cc)
fed_is past at (event.Bytes given piece) c replies is kept = absurd (cc)
fed_is past at event.Tick c replies is kept = absurd (cc)
fed_is past at (event.Gone given closing) c replies is kept = absurd (cc)
fed_is past at (event.Command own) c replies is kept =
    let same : own ≡ c = cc in
    let added : Command → List Fact = added_by (next_poll (facts_of past)) at (slots_of past) (facts_of past) in
    ap (λ (fs : List Fact). reverse fs ++ facts_of past) (sym (append-nil (added own)))
    ∙ ap (λ (fs : List Fact). reverse (added own ++ fs) ++ facts_of past) kept
    ∙ ap (λ (x : Command). reverse (added x ++ replies) ++ facts_of past) same
fed_is past at (event.Asked asked) c replies is kept =
    let same : asked.command ≡ c = cc in
    let added : Command → List Fact = added_by (next_poll (facts_of past)) at (slots_of past) (facts_of past) in
    ap (λ (fs : List Fact). reverse (added asked.command ++ fs) ++ facts_of past) kept
    ∙ ap (λ (x : Command). reverse (added x ++ replies) ++ facts_of past) same

-- If two functions have the same result for every device slot (device with its connection), they
-- map a list of slots to the same list. Therefore a request changes the slots as the command in the
-- request does.
map_same : (f g : sessions.Slot → sessions.Slot) → ((slot : sessions.Slot) → f slot ≡ g slot) → (slots : List sessions.Slot) → map f slots ≡ map g slots
map_same f g h [] = refl
map_same f g h (slot ∷ slots) = ap (λ l. l ∷ map f slots) (h slot) ∙ ap (λ ls. g slot ∷ ls) (map_same f g h slots)

own_slot : (number at : ℕ) (spans : List ReadSpan) (c : Command) (slot : sessions.Slot) (present : Option (List session.Event))
    → slot_reached number at spans (event.Command c) slot present ≡ started_on number at spans c slot present
own_slot number at spans c slot None = refl
own_slot number at spans c slot (Some before) = refl

asked_slot : (number at : ℕ) (spans : List ReadSpan) (asked : _) (slot : sessions.Slot) (present : Option (List session.Event))
    → slot_reached number at spans (event.Asked asked) slot present ≡ started_on number at spans asked.command slot present
asked_slot number at spans asked slot None = refl
asked_slot number at spans asked slot (Some before) = refl

pub slots_fed : (past : History) (at : ℕ) (e : Event) (c : Command) → command_in e ≡ Some c
    → slots_of (Fed at e ∷ past) ≡ slots_obeyed (next_poll (facts_of past)) at (spans_by (facts_of past) c) c (slots_of past)
slots_fed past at (event.Connected given) c is = absurd (cc)
slots_fed past at (event.Bytes given piece) c is = absurd (cc)
slots_fed past at event.Tick c is = absurd (cc)
slots_fed past at (event.Gone given closing) c is = absurd (cc)
slots_fed past at (event.Command own) c is =
    let same : own ≡ c = cc in
    let number : ℕ = next_poll (facts_of past) in
    ap (λ (ls : List sessions.Slot). ls ++ slots_added (Some own))
    (map_same (slot_after number at (spans_by (facts_of past) own) (event.Command own)) (slot_obeyed number at (spans_by (facts_of past) own) own)
    (λ slot. own_slot number at (spans_by (facts_of past) own) own slot slot.present) (slots_of past))
    ∙ ap (λ (x : Command). slots_obeyed number at (spans_by (facts_of past) x) x (slots_of past)) same
slots_fed past at (event.Asked asked) c is =
    let same : asked.command ≡ c = cc in
    let number : ℕ = next_poll (facts_of past) in
    ap (λ (ls : List sessions.Slot). ls ++ slots_added (Some asked.command))
    (map_same (slot_after number at (spans_by (facts_of past) asked.command) (event.Asked asked)) (slot_obeyed number at (spans_by (facts_of past) asked.command) asked.command)
    (λ slot. asked_slot number at (spans_by (facts_of past) asked.command) asked slot slot.present) (slots_of past))
    ∙ ap (λ (x : Command). slots_obeyed number at (spans_by (facts_of past) x) x (slots_of past)) same

answer_is : (slots : List sessions.Slot) (facts : List Fact) (at : ℕ) (e : Event) (c : Command) → command_in e ≡ Some c
    → answer_to slots facts at c ≡ answer_of slots facts at e
answer_is slots facts at (event.Connected given) c is = absurd (cc)
answer_is slots facts at (event.Bytes given piece) c is = absurd (cc)
answer_is slots facts at event.Tick c is = absurd (cc)
answer_is slots facts at (event.Gone given closing) c is = absurd (cc)
answer_is slots facts at (event.Command own) c is = let same : c ≡ own = cc in ap (answer_to slots facts at) same
answer_is slots facts at (event.Asked asked) c is = let same : c ≡ asked.command = cc in ap (answer_to slots facts at) same

pub if_ok : {T : Type 0} (P Q : T → Type 0) (result : Result T BooksFault) → ((x : T) → P x → Q x) → IfOk result P → IfOk result Q
if_ok P Q (Ok x) h p = h x p
if_ok P Q (Err why) h p = tt

pub on_ok : {T : Type 0} (P Q : Type 0) (result : Result T BooksFault) → (P → Q) → OnOk result P → OnOk result Q
on_ok P Q (Ok x) h p = h p
on_ok P Q (Err why) h p = tt

-- If executing a command has the effect that the specification requires, then the event that
-- requests the command also has its required effect.
pub carries : (old new : Ledger) (after : List Slot) (past : History) (at : ℕ) (e : Event) (c : Command) (replies : List Fact) (result : Result Done BooksFault)
    → command_in e ≡ Some c → replies_by at e ≡ replies → Obeys old new after (slots_of past) (facts_of past) at c replies result
    → Carries old new after past at e result
carries old new after past at e c replies result is kept obeys = record {
  books = subst (λ (fs : List Fact). Moves old new (facts_of past) fs result) (sym (fed_is past at e c replies is kept)) obeys.books;
  stands = λ h clean. on_ok _ _ result (subst (KeepsSlots after) (sym (slots_fed past at e c is))) (obeys.stands h clean);
  answer = λ h clean. if_ok _ _ result (λ done own. own ∙ answer_is (slots_of past) (facts_of past) at e c is) (obeys.answer h clean);
  sent = λ h clean. if_ok _ _ result (λ done own. own ∙ ap (notes.frames_by (next_poll (facts_of past)) at (slots_of past) (facts_of past)) (sym is)) (obeys.sent h clean);
}

-- If an event that requests a command is accepted, then the rules for adding records accept the
-- records after the command.
pub lawful_fed : FactsAreLawful → (past : History) (at : ℕ) (e : Event) (c : Command) (replies : List Fact) → IsPast past → IsAccepted past at e
    → command_in e ≡ Some c → replies_by at e ≡ replies → PutsPlanned (Some c) → AreLawful (facts_obeyed at (slots_of past) (facts_of past) c replies)
lawful_fed law past at e c replies is_past accepted is kept planned =
    subst AreLawful (fed_is past at e c replies is kept)
    (law (Fed at e ∷ past) (accepted, is_past.accepted) (subst PutsPlanned (sym is) planned, is_past.planned))

-- If a command starts no polls, then the command names no device to poll, and the slots
-- (connections) of the existing devices are unchanged.
idle_events : (c : Command) → is_start c ≡ false → sessions.started_on c ≡ None
idle_events (command.AddDevice c) h = refl
idle_events (command.PutList c) h = refl
idle_events (command.AddRegister c) h = refl
idle_events (command.Install c) h = refl
idle_events (command.Exchange c) h = refl
idle_events (command.Reset c) h = refl
idle_events (command.Rescale c) h = refl
idle_events (command.Manual c) h = refl
idle_events (command.Close c) h = refl
idle_events (command.Void c) h = refl
idle_events (command.StartPoll c) h = absurd (cc)
idle_events (command.StartRound c) h = absurd (cc)

pub not_named : (number at : ℕ) (spans : List ReadSpan) (c : Command) (slot : sessions.Slot) (present : Option (List session.Event))
    → is_named (sessions.started_on c) slot.device.name ≡ false → slot.present ≡ present → started_on number at spans c slot present ≡ slot
not_named number at spans c slot None other is = refl
not_named number at spans c slot (Some before) other is =
    ap (with_happenings slot before) (cond-false _ (map (start_by at slot.device) (sends_on number at slot.device before spans)) [] other)
    ∙ ap (λ (p : Option (List session.Event)). record { device = slot.device; ended = slot.ended; present = p }) (sym is)

slot_idle : (number at : ℕ) (spans : List ReadSpan) (c : Command) (slot : sessions.Slot) → is_start c ≡ false → slot_obeyed number at spans c slot ≡ slot
slot_idle number at spans c slot h =
    not_named number at spans c slot slot.present (ap (λ (g : Option (List ℕ)). is_named g slot.device.name) (idle_events c h)) refl

slots_idle : (number at : ℕ) (spans : List ReadSpan) (c : Command) (slots : List sessions.Slot) → is_start c ≡ false → map (slot_obeyed number at spans c) slots ≡ slots
slots_idle number at spans c [] h = refl
slots_idle number at spans c (slot ∷ slots) h =
    ap (λ l. l ∷ map (slot_obeyed number at spans c) slots) (slot_idle number at spans c slot h) ∙ ap (λ ls. slot ∷ ls) (slots_idle number at spans c slots h)

pub keeps_idle : (now : List Slot) (number at : ℕ) (spans : List ReadSpan) (c : Command) (slots more : List sessions.Slot) → is_start c ≡ false
    → slots_added (Some c) ≡ more → KeepsSlots now (slots ++ more) → KeepsSlots now (slots_obeyed number at spans c slots)
keeps_idle now number at spans c slots more h is keeps =
    subst (KeepsSlots now)
    (sym (ap (λ ls. ls ++ slots_added (Some c)) (slots_idle number at spans c slots h) ∙ ap (λ ls. slots ++ ls) is)) keeps

-- If a command starts no polls, then its answer is `Done` with the command's kind, and it sends no
-- frames.
pub idle_answer : (slots : List sessions.Slot) (facts : List Fact) (at : ℕ) (c : Command) → is_start c ≡ false → answers.Done (kind_of c) ≡ answer_to slots facts at c
idle_answer slots facts at c h = sym (cond-false (is_start c) _ _ h)

none_from : (number at : ℕ) (spans : List ReadSpan) (slots : List sessions.Slot) → frames_from number at spans (slot_of slots None) ≡ []
none_from number at spans [] = refl
none_from number at spans (slot ∷ slots) = none_from number at spans slots

pub idle_sent : (slots : List sessions.Slot) (facts : List Fact) (number at : ℕ) (c : Command) → is_start c ≡ false → [] ≡ notes.frames_by number at slots facts (Some c)
idle_sent slots facts number at c h =
    sym (ap (λ (g : Option (List ℕ)). frames_from number at (spans_by facts c) (slot_of slots g)) (idle_events c h)
    ∙ none_from number at (spans_by facts c) slots)

-- Suppose that the slots (devices with their connections) in memory have the state that follows
-- from the accepted events. Then this is still true after a slot for a new device is appended.
keeps_push : (now : List Slot) (kept : List sessions.Slot) (new : Slot) (slot : sessions.Slot) → KeepsSlots now kept → KeepsSlot new slot
    → KeepsSlots (now ++ new ∷ []) (kept ++ slot ∷ [])
keeps_push [] [] new slot keeps this = (this, tt)
keeps_push [] (l ∷ kept) new slot keeps this = absurd keeps
keeps_push (k ∷ now) [] new slot keeps this = absurd keeps
keeps_push (k ∷ now) (l ∷ kept) new slot keeps this = (keeps.0, keeps_push now kept new slot keeps.1 this)

pub keeps_new : (now new : List Slot) (kept : List sessions.Slot) (device : Device) (slot : Slot) → new ≡ now ++ slot ∷ []
    → slot.device ≡ device → slot.session ≡ None → KeepsSlots now kept → KeepsSlots new (kept ++ new_slot (Some device))
keeps_new now new kept device slot pushed is idle keeps =
    subst (λ (ls : List Slot). KeepsSlots ls (kept ++ new_slot (Some device))) (sym pushed)
    (keeps_push now kept slot (record { device = device; ended = []; present = None }) keeps (record {
      device = is;
      session = subst (λ (s : Option State). KeepsPresent device s None) (sym idle) tt;
    }))

pub ok_any : {T : Type 0} (P : Type 0) (result : Result T BooksFault) → P → OnOk result P
ok_any P (Ok x) p = p
ok_any P (Err why) p = tt

-- Suppose that a command starts no polls. If its records are written, and a new device gets a slot
-- for its connection, then the command has the effect that the specification requires.
pub obeys_idle : (old new : Ledger) (after : List Slot) (slots more : List sessions.Slot) (known : List Fact) (at : ℕ) (c : Command) (replies : List Fact)
    (result : Result Done BooksFault) → is_start c ≡ false → slots_added (Some c) ≡ more → OnOk result (KeepsSlots after (slots ++ more))
    → Moves old new known (facts_obeyed at slots known c replies) result → IfOk result (λ done. done.answer ≡ answers.Done (kind_of c))
    → IfOk result (λ done. done.outgoing ≡ []) → Obeys old new after slots known at c replies result
obeys_idle old new after slots more known at c replies result none is keeps books answer sent = record {
  books = books;
  stands = λ h clean. on_ok _ _ result (keeps_idle after (next_poll known) at (spans_by known c) c slots more none is) keeps;
  answer = λ h clean. if_ok _ _ result (λ done own. own ∙ idle_answer slots known at c none) answer;
  sent = λ h clean. if_ok _ _ result (λ done own. own ∙ idle_sent slots known (next_poll known) at c none) sent;
}

pub keeps_all : (after : List Slot) (slots : List sessions.Slot) (result : Result Done BooksFault) → KeepsSlots after slots → OnOk result (KeepsSlots after (slots ++ []))
keeps_all after slots result keeps = ok_any _ result (subst (KeepsSlots after) (sym (append-nil slots)) keeps)

pub slot_added : (add : AddDevice) (c : Command) → c ≡ command.AddDevice add → slots_added (Some c) ≡ new_slot (device_by add)
slot_added add c is = ap (λ (x : Command). slots_added (Some x)) is

pub no_start_added : (add : AddDevice) (c : Command) → c ≡ command.AddDevice add → is_start c ≡ false
no_start_added add c is = ap is_start is

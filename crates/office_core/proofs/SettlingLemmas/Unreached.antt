-- Lemmas: a device event leaves the slots (the connection states) of all other devices unchanged,
-- and adds no records for these devices.
use Rattle.std.proofs.Common.{◌≡◌, ℕ, Bool, true, false, List, [], ◌∷◌, Option, Some, None, is_some, refl, sym, ap, subst, ◌∙◌}
use Rattle.poll_core.specs.Settling as session
use Rattle.office_events.specs.declared.facts.Device.{Device}
use Rattle.office_events.specs.declared.facts.Fact.{Fact}
use Rattle.office_events.specs.declared.events.Event.{Event}
use Rattle.office_events.specs.declared.events.Event.TheVariants as event
use Rattle.office_books.specs.Sessions as sessions
use Rattle.office_books.specs.Sessions.{connects, reaches, slot_after, slot_reached, with_happenings}
use Rattle.office_books.specs.History.{settled_by, settled_in, settled_on, with_outcomes}
use Rattle.office_books.specs.Notes.{outcomes_notes}
use Rattle.std.specs.Prelude.{if◌then◌else◌}
use Rattle.office_core.specs.declared.settling.drafts.PendingWrite.{PendingWrite}
use Rattle.office_core.specs.declared.sessions.slots.Slot.{Slot}
use Rattle.office_core.specs.Sessions.Keeping.{KeepsSlot}
use Rattle.office_core.specs.Settling.Drafts.{Grows}
use Rattle.office_core.specs.Settling.Settling.{IsSettling, MayReach, happening_on}
use Rattle.office_core.proofs.SettlingLemmas.Growing.{grows_like, stays}

none_where : (b : Bool) (x : session.Event) → false ≡ is_some (if b then Some x else None) → (if b then x ∷ [] else []) ≡ []
none_where true x h = absurd (let f : false ≡ true = h in cc)
none_where false x h = refl

-- If a device event does not concern a device, then it causes no Modbus session event at the
-- device.
nothing_on : (number at : ℕ) (e : Event) (device : Device) (before : List session.Event) → IsSettling e → false ≡ is_some (happening_on at e device)
    → reaches number at [] e device before ≡ []
nothing_on number at (event.Connected given) device before settling none = refl
nothing_on number at (event.Bytes given piece) device before settling none = none_where _ (session.Piece at piece) none
nothing_on number at event.Tick device before settling none = absurd (let f : false ≡ true = none in cc)
nothing_on number at (event.Gone given closing) device before settling none = none_where _ (session.Close at closing) none
nothing_on number at (event.Command c) device before settling none = absurd settling
nothing_on number at (event.Asked asked) device before settling none = absurd settling

unreached : (number at : ℕ) (e : Event) (slot : sessions.Slot) (present : Option (List session.Event)) → slot.present ≡ present
    → ((before : List session.Event) → reaches number at [] e slot.device before ≡ []) → slot_reached number at [] e slot present ≡ slot
unreached number at e slot None is none = refl
unreached number at e slot (Some before) is none =
    ap (with_happenings slot before) (none before)
    ∙ ap (λ p. let s : sessions.Slot = record { device = slot.device; ended = slot.ended; present = p } in s) (sym is)

settles_none : (number at : ℕ) (e : Event) (device : Device) (present : Option (List session.Event))
    → ((before : List session.Event) → reaches number at [] e device before ≡ []) → settled_on number at e device present ≡ []
settles_none number at e device None none = refl
settles_none number at e device (Some before) none = ap (settled_in device before) (none before)

slot_stays : (number at : ℕ) (e : Event) (slot : sessions.Slot) → IsSettling e → false ≡ connects e slot.device → false ≡ is_some (happening_on at e slot.device)
    → slot_after number at [] e slot ≡ slot
slot_stays number at e slot settling apart none =
    rw (sym apart) (unreached number at e slot slot.present refl (λ before. nothing_on number at e slot.device before settling none))

-- If a device event does not concern a device, then the device's slot (the state of its connection)
-- is unchanged.
pub still_kept : (number at : ℕ) (e : Event) (kept : Slot) (stood : sessions.Slot) → IsSettling e → false ≡ connects e kept.device
    → false ≡ is_some (happening_on at e kept.device) → MayReach at kept stood → KeepsSlot kept (slot_after number at [] e stood)
still_kept number at e kept stood settling apart none reach =
    let is : kept.device ≡ stood.device = reach.keeps.device in
    subst (KeepsSlot kept)
    (sym (slot_stays number at e stood settling (subst (λ (d : Device). false ≡ connects e d) is apart) (subst (λ (d : Device). false ≡ is_some (happening_on at e d)) is none)))
    reach.keeps

-- If a device event does not concern a device, then the event adds no records for this device.
pub adds_none : (holds : List Fact → Type 0) (clean : Type 0) (draft : PendingWrite) (number at : ℕ) (e : Event) (kept : Slot) (stood : sessions.Slot) → IsSettling e
    → false ≡ is_some (happening_on at e kept.device) → MayReach at kept stood
    → Grows holds clean draft draft (with_outcomes at (settled_by number at e stood)) (outcomes_notes at (settled_by number at e stood))
adds_none holds clean draft number at e kept stood settling none reach =
    let is : kept.device ≡ stood.device = reach.keeps.device in
    let quiet : settled_by number at e stood ≡ [] =
    settles_none number at e stood.device stood.present
    (λ before. nothing_on number at e stood.device before settling (subst (λ (d : Device). false ≡ is_some (happening_on at e d)) is none)) in
    grows_like holds clean draft draft (λ facts. facts) (with_outcomes at (settled_by number at e stood)) (λ facts. []) (outcomes_notes at (settled_by number at e stood))
    (λ facts. ap (λ settled. with_outcomes at settled facts) quiet) (λ facts. ap (λ settled. outcomes_notes at settled facts) quiet) (stays holds clean draft)

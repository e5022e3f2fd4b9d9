use Rattle.std.proofs.Common.{◌≡◌, ◌∷◌, true, false, List, length, rules, refl, sym, subst, ◌∙◌}
use Rattle.office_books.specs.History.{Fed, facts_of, slots_of, next_poll}
use Rattle.office_core.specs.declared.sessions.slots.Slot.{Slot}
use Rattle.office_core.specs.Sessions.Keeping.{KeepsSlots}
use Rattle.std.proofs.lemmas.List.{with_items_is}
use Rattle.office_core.proofs.Taken.{taken, not_taken, noted, unsent, goes_on_unsettling, unsettling}
use Rattle.office_core.proofs.office.Office.settle.Goals as goal

pub returns-in-Ok-clause-takes : goal.returns-in-Ok-clause-takes
returns-in-Ok-clause-takes g c = λ past may accepted clean.
    let keeps = subst (λ (ls : List Slot). KeepsSlots ls (slots_of past)) (sym c.deref_mut.ensures.value) may.goes.slots in
    let settled = c.in-Ok.ensures.settles past (record { is_past = may.books.is_past; keeps = keeps; accepted = accepted.right }) in
    let length_kept : length c.settle_event.new.slots ≡ c.args.self.now.slots.len = search rules in
    taken g.B.Books.ledger past c.args.moment c.args.event.now _ _ _ _ may accepted clean settled.books
    (noted (slots_of past) (facts_of past) c.args.moment c.args.event.now c.requires.settling) refl
    (subst (λ (ls : List Slot). KeepsSlots ls (slots_of (Fed c.args.moment c.args.event.now ∷ past)))
    (sym (with_items_is c.args.self.now.slots c.settle_event.new.slots length_kept)) settled.slots)
    (settled.notes may.books.holds clean)
    (may.outgoing ∙ sym (unsent (next_poll (facts_of past)) c.args.moment c.args.event.now (slots_of past) (facts_of past) c.requires.settling))

pub returns-in-Err-clause-takes : goal.returns-in-Err-clause-takes
returns-in-Err-clause-takes g c = λ past may accepted clean.
    let keeps = subst (λ (ls : List Slot). KeepsSlots ls (slots_of past)) (sym c.deref_mut.ensures.value) may.goes.slots in
    let settled = c.in-Err.ensures.settles past (record { is_past = may.books.is_past; keeps = keeps; accepted = accepted.right }) in
    not_taken g.B.Books.ledger past c.args.moment c.args.event.now _ _ c.in-Err.fault _ may accepted clean settled.books c.from.ensures
    (λ on.
    let unsettling = unsettling c.args.event.now (next_poll (facts_of past)) c.args.moment (slots_of past) c.requires.settling
    (goes_on_unsettling c.args.event.now c.in-Err.fault on) in
    let quiet = c.in-Err.ensures.quiet past (record { is_past = may.books.is_past; keeps = keeps; accepted = accepted.right }) unsettling in
    let wrong : false ≡ true = quiet.ok in
    absurd (cc)) refl refl

use Rattle.std.proofs.Common.{List, refl, sym, subst, ◌∙◌}
use Rattle.office_books.specs.History.{facts_of, slots_of, next_poll}
use Rattle.office_core.specs.declared.sessions.slots.Slot.{Slot}
use Rattle.office_core.specs.Sessions.Keeping.{KeepsSlots}
use Rattle.office_core.proofs.Taken.{taken, not_taken, unnoted}
use Rattle.office_core.proofs.office.Office.obey.Goals as goal

pub returns-in-Ok-clause-takes : goal.returns-in-Ok-clause-takes
returns-in-Ok-clause-takes g c = λ past may accepted clean.
    let carried = c.in-Ok.ensures.carried past may.books.is_past may.goes.slots accepted in
    taken g.B.Books.ledger past c.args.moment c.args.event.now _ _ _ _ may accepted clean carried.books (carried.answer may.books.holds clean) refl
    (carried.stands may.books.holds clean)
    (may.notes ∙ sym (unnoted (next_poll (facts_of past)) c.args.moment c.args.event.now (slots_of past) (facts_of past) c.requires.asks))
    (carried.sent may.books.holds clean)

pub returns-in-Err-clause-takes : goal.returns-in-Err-clause-takes
returns-in-Err-clause-takes g c = λ past may accepted clean.
    let carried = c.in-Err.ensures.carried past may.books.is_past may.goes.slots accepted in
    not_taken g.B.Books.ledger past c.args.moment c.args.event.now _ _ c.in-Err.fault _ may accepted clean carried.books c.from.ensures
    (λ on. record {
      latest = may.goes.latest;
      slots = subst (λ (ls : List Slot). KeepsSlots ls (slots_of past)) (sym c.in-Err.ensures.unchanged) may.goes.slots;
    }) refl refl

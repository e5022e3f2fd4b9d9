use Rattle.std.proofs.Common.{◌++◌, Option, refl, sym, subst}
use Rattle.office_events.specs.declared.facts.Device.{Device}
use Rattle.office_books.specs.Sessions.{new_slot}
use Rattle.office_core.specs.Sessions.Keeping.{KeepsSlots}
use Rattle.office_core.proofs.CommandsLemmas.Carried.{keeps_new, ok_any}
use Rattle.office_core.proofs.commands.effects.add_slot.Goals as goal

pub returns-in-Some-clause-added : goal.returns-in-Some-clause-added
returns-in-Some-clause-added c = λ kept keeps.
    ok_any _ c.args.done.now
    (subst (λ (d : Option Device). KeepsSlots c.push_reserved.new.self.items (kept ++ new_slot d)) (sym c.in-Some.is)
    (keeps_new c.args.slots.now.items c.push_reserved.new.self.items kept c.in-Some.device _ c.push_reserved.ensures.items refl refl keeps))

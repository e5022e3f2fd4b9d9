use Rattle.std.proofs.Common.{List, ◌++◌, OnOk, Option, sym, subst}
use Rattle.std.specs.Option.{option_to_list}
use Rattle.office_events.specs.declared.facts.Device.{Device}
use Rattle.office_books.specs.Sessions.{new_slot, device_by}
use Rattle.office_books.specs.History.{facts_of, slots_of}
use Rattle.office_core.specs.declared.sessions.slots.Slot.{Slot}
use Rattle.office_core.specs.Sessions.Keeping.{KeepsSlots}
use Rattle.office_core.proofs.CommandsLemmas.Carried.{carries, lawful_fed, obeys_idle, slot_added, no_start_added}
use Rattle.office_core.proofs.commands.effects.add_device.Goals as goal

pub returns-clause-carried : goal.returns-clause-carried
returns-clause-carried g c = λ past e is_past keeps accepted in_e replies.
    let lawful =
    lawful_fed c.facts_are_lawful.ensures past c.args.moment e c.args.command.now (option_to_list c.args.reply) is_past accepted in_e replies c.puts_planned.ensures in
    let added =
    subst (λ (d : Option Device). OnOk c.record-done.result (KeepsSlots c.add_slot.new.slots.items (slots_of past ++ new_slot d))) c.device_by-device.ensures
    (c.add_slot.ensures.added (slots_of past) (subst (λ (ls : List Slot). KeepsSlots ls (slots_of past)) (sym c.reserve.ensures.items) keeps)) in
    carries (g.B.Books.ledger c.args.books.now) (g.B.Books.ledger c.record-done.new.books) c.add_slot.new.slots.items past c.args.moment e c.args.command.now
    (option_to_list c.args.reply) c.record-done.result in_e replies
    (obeys_idle (g.B.Books.ledger c.args.books.now) (g.B.Books.ledger c.record-done.new.books) c.add_slot.new.slots.items (slots_of past)
    (new_slot (device_by c.args.add.now)) (facts_of past) c.args.moment c.args.command.now (option_to_list c.args.reply) c.record-done.result
    (no_start_added c.args.add.now c.args.command.now c.requires.adds) (slot_added c.args.add.now c.args.command.now c.requires.adds) added
    (c.record-done.ensures.books (slots_of past) (facts_of past) lawful) c.record-done.ensures.answer c.record-done.ensures.sent)
